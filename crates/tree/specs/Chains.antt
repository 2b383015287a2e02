-- What is on the chain of a scope: the scope, its ancestors, and main.
use Rattle.std.proofs.Common.{◌≡◌, ℕ, zero, suc, ◌<◌, true, eqb, ◌≢◌, List, ◌∷◌, sym, refl, ap, ◌∙◌, subst, ⊎_elim, arith}
use Rattle.std.proofs.lemmas.Bool.{eq-eqb, ne_eqb, cases_eq, cond-true, cond-false}
use Rattle.orderings.specs.Store.{chain}
use Rattle.orderings.proofs.Chains.{chain_first, chain_split}
use Rattle.tree.specs.Ancestors.{Above, itself, further, on}

pub on_here : (x y : ℕ) (ys : List ℕ) → x ≡ y → on (y ∷ ys) x ≡ true
on_here x y ys e = cond-true (eqb x y) true (on ys x) (eq-eqb x y e)

pub on_there : (x y : ℕ) (ys : List ℕ) → x ≢ y → on (y ∷ ys) x ≡ on ys x
on_there x y ys e = cond-false (eqb x y) true (on ys x) (ne_eqb x y e)

module _ (up : ℕ → ℕ) (n : ℕ) (inward : (s : ℕ) → s < n → s ≢ 0 → up s < s) where
  pub on_self : (s : ℕ) → s < n → on (chain up n s) s ≡ true
  on_self s l = let first = chain_first up n inward n s l in ap (λ (ss : List ℕ). on ss s) first.1 ∙ on_here s s first.0 refl

  -- another scope on the chain of s is on the chain of its parent
  pub on_down : (s x : ℕ) → s < n → s ≢ 0 → x ≢ s → on (chain up n s) x ≡ on (chain up n (up s)) x
  on_down s x l q ne = ap (λ (ss : List ℕ). on ss x) (chain_split up n inward n s l l q) ∙ on_there x s (chain up n (up s)) ne

  pub above_on : (x s : ℕ) → s < n → Above up x s → on (chain up n s) x ≡ true
  above_on x s l itself = on_self s l
  above_on x s l (further q a) =
      ⊎_elim
      (λ e. ap (on (chain up n s)) e ∙ on_self s l)
      (λ e. let d = inward s l q in on_down s x l q e ∙ above_on x (up s) (omega arith) a)
      (cases_eq x s)

  pub above_main : (f s : ℕ) → s < f → s < n → Above up 0 s
  above_main zero s t l = absurd (omega arith)
  above_main (suc f) s t l = ⊎_elim (λ q. subst (Above up 0) (sym q) itself) (λ q. let d = inward s l q in further q (above_main f (up s) (omega arith) (omega arith))) (cases_eq s 0)

  pub main_open : (y : ℕ) → y < n → on (chain up n y) 0 ≡ true
  main_open y inside = above_on 0 y inside (above_main n y inside inside)
