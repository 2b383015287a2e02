-- What scopes in their frames mean is well formed, and so is what bags mean.
use Rattle.std.proofs.Common.{◌≡◌, ℕ, zero, suc, ◌<◌, List, [], ◌∷◌, ◌++◌, map, sym, refl, ap, ◌∙◌, subst, ⊎_elim, arith}
use Rattle.std.proofs.lemmas.Bool.{cases_eq}
use Rattle.std.proofs.lemmas.List.FromFn.{length-map-range_with_len}
use Rattle.std.specs.List.{range_with_len}
use Rattle.graph.specs.History.{Scope, Place, task, number, before}
use Rattle.orderings.specs.declared.words.Kind.{Kind}
use Rattle.orderings.specs.declared.words.Kind.TheVariants.{Task, Finish}
use Rattle.orderings.specs.declared.bags.Bags.{Bags}
use Rattle.orderings.specs.Meaning.{Begun, task_at, scope_as, Fall, WellFormed}
use Rattle.orderings.specs.Store.{Frames, frames, contents, chain}
use Rattle.orderings.specs.Table.{entries}
use Rattle.orderings.specs.Sound.{Framed}
use Rattle.orderings.specs.Bags.{place_of, begun_at, meaning}
use Rattle.orderings.specs.Placed.{scopes_begun, placed}
use Rattle.orderings.specs.Chains.{chain_main, chain_more}
use Rattle.orderings.specs.Props.{reveal}

pub number_as : (k : Kind) (s : ℕ) → number (scope_as k s) ≡ s
number_as Task s = refl
number_as Finish s = refl

abbrev pub scopes_of : Frames → List ℕ → List Scope
scopes_of fr ss = map (λ s. scope_as (fr.kind s) s) ss

module _ (fr : Frames) (n : ℕ) (w : Framed fr n) where
  -- main is the outermost open scope
  pub outermost_is : (f s : ℕ) → s < n → s < f → (inner : List Scope) × (scopes_of fr (chain fr.outward f s) ≡ inner ++ task 0 ∷ [])
  outermost_is zero s l e = absurd (omega arith)
  outermost_is (suc f) s l e =
      ⊎_elim
      (λ q. ([], ap (scopes_of fr) (chain_main fr.outward f s q) ∙ ap (λ (k : ℕ). scope_as (fr.kind k) k ∷ []) q ∙ ap (λ (k : Kind). scope_as k 0 ∷ []) w.main))
      (λ q. let below = w.inward s l q in
      let rest = outermost_is f (fr.outward s) (omega arith) (omega arith) in
      (scope_as (fr.kind s) s ∷ rest.0, ap (scopes_of fr) (chain_more fr.outward f s q) ∙ ap (λ (ss : List Scope). scope_as (fr.kind s) s ∷ ss) rest.1))
      (cases_eq s 0)

  -- and the numbers fall outward
  pub falls : (f s top : ℕ) → s < n → s < f → s < top → Fall top (scopes_of fr (chain fr.outward f s))
  falls zero s top l e t = absurd (omega arith)
  falls (suc f) s top l e t =
      let self = number_as (fr.kind s) s in
      ⊎_elim
      (λ q. subst (λ (ss : List ℕ). Fall top (scopes_of fr ss)) (sym (chain_main fr.outward f s q)) (omega arith, tt))
      (λ q. let below = w.inward s l q in
      subst (λ (ss : List ℕ). Fall top (scopes_of fr ss)) (sym (chain_more fr.outward f s q)) (omega arith, falls f (fr.outward s) (number (scope_as (fr.kind s) s)) (omega arith) (omega arith) (omega arith)))
      (cases_eq s 0)

pub formed_placed : (fr : Frames) (place : ℕ → Place) (cap n s : ℕ) → Framed fr n → s < n → place 0 ≡ before 0 → WellFormed (placed fr place cap n s)
formed_placed fr place cap n s w l at-main = record {
  main = first n l;
  outermost = outermost_is fr n w n s l l;
  falling = subst (λ (k : ℕ). Fall k (scopes_of fr (chain fr.outward n s))) (sym (length-map-range_with_len (λ x. begun_at (fr.kind x) (place x)) 0 n)) (falls fr n w n s n l l l);
}
  where
    first : (n : ℕ) → s < n → (rest : List Begun) × (scopes_begun fr place n ≡ task_at (before 0) ∷ rest)
    first zero l = absurd (omega arith)
    first (suc n) l =
        let rest : List Begun = map (λ x. begun_at (fr.kind x) (place x)) (range_with_len 1 n) in
        (rest, λ j. begun_at (w.main j) (at-main j) ∷ rest)

pub formed_bags : (b : Bags) → WellFormed (meaning b)
formed_bags b = formed_placed (frames (entries b.store)) (place_of (contents (entries b.store))) _ b.scopes.begun b.scopes.inner (reveal b.sound).framed b.scopes.innermost refl
