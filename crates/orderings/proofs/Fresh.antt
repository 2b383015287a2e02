-- The entries after an open.
use Rattle.std.proofs.Common.{◌≡◌, ℕ, ◌+◌, ◌*◌, ◌/◌, ◌<◌, ◌≤◌, cond, eqb, List, length, set, sym, ap, ◌∙◌, subst, arith}
use Rattle.std.proofs.lemmas.Bool.{ne_eqb, cond-false}
use Rattle.orderings.specs.declared.words.Kind.{Kind}
use Rattle.orderings.specs.declared.bags.entry.Entry.{Entry}
use Rattle.orderings.specs.Store.{empty, frames, head_of, head, contents}
use Rattle.orderings.specs.Meaning.{with_scope}
use Rattle.orderings.specs.Bags.{meaning_of}
use Rattle.orderings.specs.Sound.{Sound}
use Rattle.orderings.specs.Scopes.{task_within}
use Rattle.orderings.proofs.Entries.{contents_set, head_serial, head_parallel}
use Rattle.orderings.proofs.Tables.{here, there}
use Rattle.orderings.proofs.FramedMore.{FramedMore}
use Rattle.orderings.proofs.Opens.{FilledMore, sound_new, meaning_new}

-- the entry of a new scope n
abbrev pub fresh : Kind → ℕ → ℕ → ℕ → Entry
fresh k n out within = record { kind = k; rank = 0; parent = n; bag = 2 * n; outward = out; within = within; serial = n; parallel = 0 }

module _ (es : List Entry) (n s w : ℕ) (k : Kind) (room : n < length es) where
  framed_more : w ≡ task_within k n ((frames es).within s) → FramedMore (frames es) (frames (set es n (fresh k n s w))) n s k
  framed_more way = record {
    kinds = λ i l. ap (λ (e : Entry). e.kind) (there empty es n (fresh k n s w) room i (omega arith));
    outwards = λ i l. ap (λ (e : Entry). e.outward) (there empty es n (fresh k n s w) room i (omega arith));
    withins = λ i l. ap (λ (e : Entry). e.within) (there empty es n (fresh k n s w) room i (omega arith));
    new_kind = ap (λ (e : Entry). e.kind) (here empty es n (fresh k n s w) room);
    new_outward = ap (λ (e : Entry). e.outward) (here empty es n (fresh k n s w) room);
    new_within = ap (λ (e : Entry). e.within) (here empty es n (fresh k n s w) room) ∙ way;
  }

  filled_more : FilledMore (contents es) (contents (set es n (fresh k n s w))) n
  filled_more =
      let is = contents_set es n (fresh k n s w) room in
      let heads : (i : ℕ) → (contents (set es n (fresh k n s w))).head i ≡ cond (eqb (i / 2) n) (head_of (fresh k n s w) i) (head es i) = λ i j. (is j).head i in
      record {
        forests = record {
          parents = λ x l. ap (λ (e : Entry). e.parent) (there empty es n (fresh k n s w) room x (omega arith));
          ranks = λ x l. ap (λ (e : Entry). e.rank) (there empty es n (fresh k n s w) room x (omega arith));
        };
        bags = λ x l. ap (λ (e : Entry). e.bag) (there empty es n (fresh k n s w) room x (omega arith));
        heads = λ i l. heads i ∙ cond-false (eqb (i / 2) n) _ _ (ne_eqb (i / 2) n (omega arith));
        new_parent = ap (λ (e : Entry). e.parent) (here empty es n (fresh k n s w) room);
        new_rank = ap (λ (e : Entry). e.rank) (here empty es n (fresh k n s w) room);
        new_bag = ap (λ (e : Entry). e.bag) (here empty es n (fresh k n s w) room);
        new_serial = head_serial (set es n (fresh k n s w)) n ∙ ap (λ (e : Entry). e.serial) (here empty es n (fresh k n s w) room);
        new_parallel = head_parallel (set es n (fresh k n s w)) n ∙ ap (λ (e : Entry). e.parallel) (here empty es n (fresh k n s w) room);
      }

  module _ (count : ℕ) (o : Sound (frames es) (contents es) n s count) (small : n ≤ 65536) (inside : s < n) (way : w ≡ task_within k n ((frames es).within s)) (us : List Entry) (put : us ≡ set es n (fresh k n s w)) where
    pub sound_opened : Sound (frames us) (contents us) (n + 1) n (count + 1)
    sound_opened = subst (λ (l : List Entry). Sound (frames l) (contents l) (n + 1) n (count + 1)) (sym put) (sound_new (frames es) _ (contents es) _ n s count k o small inside (framed_more way) filled_more)

    pub meaning_opened : (size cap : ℕ) → size ≡ cap → meaning_of (frames us) (contents us) size (n + 1) n ≡ with_scope k (meaning_of (frames es) (contents es) cap n s)
    meaning_opened size cap e =
        (λ j. meaning_of (frames (put j)) (contents (put j)) (e j) (n + 1) n)
        ∙ meaning_new (frames es) _ (contents es) _ n s count k o small inside (framed_more way) filled_more cap
