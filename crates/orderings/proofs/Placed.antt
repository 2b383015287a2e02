-- What scopes in their frames and tasks at their places mean: what is asked of them, and the steps.
use Rattle.std.specs.Bool.{then_some}
use Rattle.std.proofs.Common.{◌≡◌, ℕ, ◌+◌, ◌-◌, ◌<◌, ◌≤◌, min, Bool, true, false, ltb, ltb-true, ltb-false, eqb, leb, ◌≢◌, List, [], ◌∷◌, ◌++◌, length, Some, None, Ok, Err, sym, refl, ap, ◌∙◌, ⊎_elim, arith}
use mathlib.Core.List.{map-map}
use Rattle.std.proofs.lemmas.Bool.{ne_eqb, cond-true, cond-false, lt-leb, le-leb}
use Rattle.std.proofs.lemmas.List.{length-map}
use Rattle.std.proofs.lemmas.List.FromFn.{map-range_with_len_more, length-map-range_with_len}
use Rattle.std.specs.List.{range_with_len}
use Rattle.graph.specs.History.{Scope, Place, before, moved, outward}
use Rattle.orderings.specs.declared.words.Kind.{Kind}
use Rattle.orderings.specs.declared.words.Kind.TheVariants.{Task, Finish}
use Rattle.orderings.specs.declared.words.Fault.TheVariants.{NoSuchTask, MainAlone}
use Rattle.orderings.specs.Meaning.{Meaning, Begun, task_at, new, scope_as, begun_as, with_scope, opening, after_open, shifted, closing, after_close, word, word_of, asked, kind, kind_at}
use Rattle.orderings.specs.Store.{Frames, chain}
use Rattle.orderings.specs.Sound.{Framed}
use Rattle.orderings.specs.Placed.{scopes_begun, placed}
use Rattle.orderings.specs.Bags.{begun_at}
use Rattle.orderings.proofs.Chains.{chain_split}
use Rattle.orderings.proofs.Framed.{cases_kind, same_counted, at_some, at_none, scopes_agree, innermost_is}
use Rattle.orderings.specs.Formation.{scopes_of}
use Rattle.orderings.proofs.FramedMore.{FramedMore, new_first}

pub all_begun : (fr : Frames) (place : ℕ → Place) (n : ℕ) → length (scopes_begun fr place n) ≡ n
all_begun fr place n = length-map-range_with_len (λ x. begun_at (fr.kind x) (place x)) 0 n

module _ (fr : Frames) (place : ℕ → Place) (n t : ℕ) where
  pub asked_none : n ≤ t → asked (scopes_begun fr place n) t ≡ Err NoSuchTask
  asked_none l = ap word_of (at_none (λ x. begun_at (fr.kind x) (place x)) n t l)

  pub asked_finish : t < n → fr.kind t ≡ Finish → asked (scopes_begun fr place n) t ≡ Err NoSuchTask
  asked_finish l e = ap word_of (at_some (λ x. begun_at (fr.kind x) (place x)) n t l ∙ ap (λ (k : Kind). Some (begun_at k (place t))) e)

  pub asked_task : t < n → fr.kind t ≡ Task → asked (scopes_begun fr place n) t ≡ Ok (word (place t))
  asked_task l e = ap word_of (at_some (λ x. begun_at (fr.kind x) (place x)) n t l ∙ ap (λ (k : Kind). Some (begun_at k (place t))) e)

  pub kind_some : t < n → kind_at (scopes_begun fr place n) t ≡ Some (fr.kind t)
  kind_some l = ap kind (at_some (λ x. begun_at (fr.kind x) (place x)) n t l) ∙ same (fr.kind t)
    where
      same : (k : Kind) → kind (Some (begun_at k (place t))) ≡ Some k
      same Task = refl
      same Finish = refl

  pub kind_none : n ≤ t → kind_at (scopes_begun fr place n) t ≡ None
  kind_none l = ap kind (at_none (λ x. begun_at (fr.kind x) (place x)) n t l)

  -- the kind of a number, told where a scope of that number was begun
  pub kind_told : (k : Kind) → (t < n → k ≡ fr.kind t) → then_some (ltb t n) k ≡ kind_at (scopes_begun fr place n) t
  kind_told k e = go (ltb t n) refl
    where
      go : (b : Bool) → ltb t n ≡ b → then_some b k ≡ kind_at (scopes_begun fr place n) t
      go true q = let l = ltb-true t n q in ap Some (e l) ∙ sym (kind_some l)
      go false q = sym (kind_none (ltb-false t n q))

-- the step of an open: the tasks begun before keep their places, and a new one is before at itself
pub placed_open :
    (fr gr : Frames) (place place' : ℕ → Place) (cap n s : ℕ) (k : Kind) → Framed fr n → s < n → FramedMore fr gr n s k
    → ((i : ℕ) → i < n → place' i ≡ place i) → place' n ≡ before n
    → placed gr place' cap (n + 1) n ≡ with_scope k (placed fr place cap n s)
placed_open fr gr place place' cap n s k w inside F stay own =
    let len = sym (all_begun fr place n) in
    let opened-same = ap (scopes_of gr) (new_first fr gr n s k w inside F) ∙ (λ j. scope_as (F.new_kind j) (len j) ∷ scopes_agree fr n w gr F.kinds F.outwards n s inside j) in
    let begun-same =
    map-range_with_len_more (λ x. begun_at (gr.kind x) (place' x)) 0 n n (omega arith)
    ∙ ap (λ (l : List Begun). l ++ begun_at (gr.kind n) (place' n) ∷ []) (same_counted _ (λ x. begun_at (fr.kind x) (place x)) n (λ i l. λ j. begun_at (F.kinds i l j) (stay i l j)))
    ∙ ap (λ (x : Begun). scopes_begun fr place n ++ x ∷ []) ((λ j. begun_at (F.new_kind j) (own j)) ∙ fresh k ∙ ap (begun_as k) len) in
    let left-same : min cap 65535 + 1 - (n + 1) ≡ min cap 65535 + 1 - n - 1 = omega arith in
    λ j. record { opened = opened-same j; begun = begun-same j; left = left-same j }
  where
    fresh : (k : Kind) → begun_at k (before n) ≡ begun_as k n
    fresh Task = refl
    fresh Finish = refl

-- with main alone a close is refused
pub closing_alone : (m : Meaning) → length m.opened ≤ 1 → (closing m ≡ Err MainAlone) × (after_close m ≡ m)
closing_alone m l = let e = le-leb (length m.opened) 1 l in (cond-true (leb (length m.opened) 1) _ _ e, cond-true (leb (length m.opened) 1) _ _ e)

-- main alone is a new ordering
pub placed_main : (fr : Frames) (place : ℕ → Place) (cap : ℕ) → fr.kind 0 ≡ Task → place 0 ≡ before 0 → placed fr place cap 1 0 ≡ new (min cap 65535)
unfolding chain
placed_main fr place cap is-task at-main = let left_is : min cap 65535 + 1 - 1 ≡ min cap 65535 = omega arith in λ j. record { opened = scope_as (is-task j) 0 ∷ []; begun = begun_at (is-task j) (at-main j) ∷ []; left = left_is j }

-- with a number left an open gives the next
pub opening_placed : (fr : Frames) (place : ℕ → Place) (cap n s : ℕ) (k : Kind) → n ≤ min cap 65535 → (opening (placed fr place cap n s) ≡ Ok n) × (after_open k (placed fr place cap n s) ≡ with_scope k (placed fr place cap n s))
opening_placed fr place cap n s k free =
    let some = ne_eqb (min cap 65535 + 1 - n) 0 (omega arith) in (
      cond-false (eqb (min cap 65535 + 1 - n) 0) _ _ some ∙ ap (λ (j : ℕ). Ok j) (all_begun fr place n),
      cond-false (eqb (min cap 65535 + 1 - n) 0) _ _ some,
    )

-- the step of a close of the scope s: each task moves as the meaning says
module _ (fr : Frames) (place : ℕ → Place) (cap n s : ℕ) (w : Framed fr n) (inside : s < n) (more : 1 < length (chain fr.outward n s)) where
  abbrev ss : List Scope
  ss = scopes_of fr (chain fr.outward n s)

  many : leb (length ss) 1 ≡ false
  many = lt-leb (length ss) 1 (let e = length-map (chain fr.outward n s) (λ i. scope_as (fr.kind i) i) in omega arith)

  pub closing_placed : closing (placed fr place cap n s) ≡ Ok s
  closing_placed = cond-false (leb (length ss) 1) _ _ many ∙ ap (λ (k : ℕ). Ok k) (innermost_is fr n w n s inside)

  pub placed_close : (place' : ℕ → Place) → s ≢ 0 → ((i : ℕ) → i < n → fr.kind i ≡ Task → moved ss (place i) ≡ place' i) → placed fr place' cap n (fr.outward s) ≡ after_close (placed fr place cap n s)
  placed_close place' ne move =
      let opened-same = sym (ap (λ (l : List ℕ). outward (scopes_of fr l)) (chain_split fr.outward n w.inward n s inside inside ne)) in
      let begun-same =
      same_counted (λ i. begun_at (fr.kind i) (place' i)) (λ i. shifted ss (begun_at (fr.kind i) (place i))) n (λ i l. sym (each_moved i l))
      ∙ sym (map-map (shifted ss) (λ i. begun_at (fr.kind i) (place i)) (range_with_len 0 n)) in
      (λ j. record { opened = opened-same j; begun = begun-same j; left = min cap 65535 + 1 - n }) ∙ sym (cond-false (leb (length ss) 1) _ _ many)
    where
      each_moved : (i : ℕ) → i < n → shifted ss (begun_at (fr.kind i) (place i)) ≡ begun_at (fr.kind i) (place' i)
      each_moved i l =
          ⊎_elim
          (λ t. ap (λ (k : Kind). shifted ss (begun_at k (place i))) t ∙ ap task_at (move i l t) ∙ ap (λ (k : Kind). begun_at k (place' i)) (sym t))
          (λ t. ap (λ (k : Kind). shifted ss (begun_at k (place i))) t ∙ ap (λ (k : Kind). begun_at k (place' i)) (sym t))
          (cases_kind (fr.kind i))
