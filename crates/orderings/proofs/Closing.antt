-- What the code of a close relies on, and what it does.
use Rattle.std.proofs.Common.{◌≡◌, ℕ, ◌+◌, ◌-◌, ◌*◌, ◌<◌, ◌≤◌, Bool, ◌||◌, eqb, Ok, sym, subst, ⊎_elim, arith}
use Rattle.std.proofs.lemmas.Bool.{eqb-true, eqb-false, cond_both}
use Rattle.orderings.specs.declared.words.Kind.{Kind}
use Rattle.orderings.specs.declared.words.Kind.TheVariants.{Task, Finish}
use Rattle.orderings.specs.Meaning.{closing, after_close}
use Rattle.orderings.specs.Forest.{Grown}
use Rattle.orderings.specs.Store.{Frames, Contents, joined, poured, poured_by, Linkable}
use Rattle.orderings.specs.Bags.{meaning_of}
use Rattle.orderings.specs.Sound.{Sound, Closable}
use Rattle.orderings.proofs.Forests.{rank_low}
use Rattle.orderings.proofs.Pours.{Moved}
use Rattle.orderings.proofs.Framed.{cases_kind, within_task}
use Rattle.orderings.proofs.Closes.{outer_low, live_serial, live_parallel, live_outer, live_task, own_root, task_links, finish_empty, finish_moves, task_moves}
use Rattle.orderings.proofs.Closed.{Goes, goes_task, goes_finish, sound_closed, answer_closed, meaning_closed}

-- the heads of bags in use can be linked
linkable : (c : Contents) (n size j : ℕ) → Grown c.forest n → n ≤ 65536 → n ≤ size + 1 → c.head j < n → Linkable c j size
linkable c n size j G few room low = record { inside = omega arith; low = λ p. let r = rank_low c.forest n G few (c.head j) p low in omega arith }

pub linkable_same : (c d : Contents) (j k m n : ℕ) → d ≡ c → k ≡ j → n ≡ m → Linkable c j m → Linkable d k n
linkable_same c d j k m n e f g v = subst (λ (x : Contents). Linkable x k n) (sym e) (subst (λ (i : ℕ). Linkable c i n) (sym f) (subst (Linkable c j) (sym g) v))

module _ (fr : Frames) (c : Contents) (size s : ℕ) (K : Closable fr c size s) where
  pub outer_inside : (fr.outward s ≤ size) × (fr.outward s < 65536)
  outer_inside = let low = outer_low fr c size s K in let i = K.inside in let r = K.room in let f = K.few in (omega arith, omega arith)

  pub task_inside : (fr.within (fr.outward s) ≤ size) × (fr.within (fr.outward s) < 65536)
  task_inside =
      let low = outer_low fr c size s K in
      let i = K.inside in
      let outer = outer_inside in
      let w = (within_task fr K.begun K.sound.framed K.begun (fr.outward s) (omega arith) (omega arith)).0 in
      (omega arith, omega arith)

  pub serial_linkable : Linkable c (2 * s) size
  serial_linkable = linkable c K.begun size (2 * s) K.sound.grown K.few K.room (live_serial fr c size s K).inside

  pub parallel_linkable : Linkable c (2 * s + 1) size
  parallel_linkable = linkable c K.begun size (2 * s + 1) K.sound.grown K.few K.room (live_parallel fr c size s K).inside

  pub task_linkable : Linkable c (2 * fr.within (fr.outward s)) size
  task_linkable = linkable c K.begun size (2 * fr.within (fr.outward s)) K.sound.grown K.few K.room (live_task fr c size s K).inside

  pub outer_linkable : Linkable (joined c (c.head (2 * s)) (c.head (2 * s + 1))) (2 * fr.outward s + 1) size
  outer_linkable =
      linkable (joined c (c.head (2 * s)) (c.head (2 * s + 1))) K.begun size (2 * fr.outward s + 1) (task_links fr c size s K).grown K.few K.room
      (live_outer fr c size s K).inside

  pub own_root_inside : (0 < own_root c s) × (own_root c s ≤ size)
  own_root_inside = let links = task_links fr c size s K in let l = links.inside in let r = K.room in (links.some, omega arith)

-- what is poured out
pub record Leaves (fr : Frames) (c d : Contents) (n s : ℕ) : Type 0 where
  pub target : ℕ
  pub names : ℕ → Bool
  pub goes : Goes fr s target names
  pub moves : Moved c d n target names

module _ (fr : Frames) (c : Contents) (size s : ℕ) (K : Closable fr c size s) where
  leaves_task : fr.kind s ≡ Task → Leaves fr c (poured_by Task fr c s) K.begun s
  leaves_task e =
      let low = outer_low fr c size s K in
      let i = K.inside in
      record {
        target = 2 * fr.outward s + 1;
        names = λ k. eqb k (2 * s) || eqb k (2 * s + 1);
        goes = goes_task fr s e;
        moves = task_moves fr c size s K (2 * fr.outward s + 1) (omega arith) (live_outer fr c size s K) (omega arith) (omega arith);
      }

  leaves_finish : fr.kind s ≡ Finish → Leaves fr c (poured_by Finish fr c s) K.begun s
  leaves_finish e =
      let t : ℕ = fr.within (fr.outward s) in
      let low = outer_low fr c size s K in
      let i = K.inside in
      let w = (within_task fr K.begun K.sound.framed K.begun (fr.outward s) (omega arith) (omega arith)).0 in
      record {
        target = 2 * t;
        names = λ k. eqb k (2 * s + 1);
        goes = goes_finish fr s e;
        moves =
            cond_both (eqb (c.head (2 * s + 1)) 0) c (poured c (2 * t) (c.head (2 * s + 1))) (λ d. Moved c d K.begun (2 * t) (λ k. eqb k (2 * s + 1)))
            (λ z. finish_empty fr c size s K (2 * t) (eqb-true (c.head (2 * s + 1)) 0 z))
            (λ z. let ne = eqb-false (c.head (2 * s + 1)) 0 z in finish_moves fr c size s K (2 * t) (omega arith) (live_task fr c size s K) (omega arith) (omega arith));
      }

  leaves : Leaves fr c (poured_by (fr.kind s) fr c s) K.begun s
  leaves =
      ⊎_elim
      (λ e. subst (λ (k : Kind). Leaves fr c (poured_by k fr c s) K.begun s) (sym e) (leaves_task e))
      (λ e. subst (λ (k : Kind). Leaves fr c (poured_by k fr c s) K.begun s) (sym e) (leaves_finish e))
      (cases_kind (fr.kind s))

  module _ (d : Contents) (is : d ≡ poured_by (fr.kind s) fr c s) where
    left : Leaves fr c d K.begun s
    left = subst (λ (x : Contents). Leaves fr c x K.begun s) (sym is) leaves

    pub sound_after : Sound fr d K.begun (fr.outward s) (K.count - 1)
    sound_after = sound_closed fr c d size s left.target left.names K left.goes left.moves

    pub answer_after : (cap : ℕ) → closing (meaning_of fr c cap K.begun s) ≡ Ok s
    answer_after = answer_closed fr c d size s left.target left.names K left.goes left.moves

    pub meaning_after : (cap : ℕ) → meaning_of fr d cap K.begun (fr.outward s) ≡ after_close (meaning_of fr c cap K.begun s)
    meaning_after = meaning_closed fr c d size s left.target left.names K left.goes left.moves
