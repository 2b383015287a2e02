-- Ancestors, and the chains of scopes up to main.
use Rattle.std.proofs.Common.{◌≡◌, ℕ, zero, suc, ◌-◌, ◌<◌, ◌≤◌, Bool, true, false, ◌≢◌, ◌⊎◌, List, [], ◌∷◌, sym, refl, ap, ◌∙◌, subst, inl, inr, ⊎_elim, arith}
use Rattle.std.proofs.lemmas.Bool.{cases_eq}
use Rattle.orderings.specs.Store.{chain}
use Rattle.tree.specs.Ancestors.{Above, itself, further, on}
use Rattle.tree.specs.Chains.{on_there, on_down}
use Rattle.orderings.specs.Chains.{chain_main}

pub true_false : (b : Bool) → b ≡ true → b ≡ false → ⊥
true_false b p q = let z : ◌≡◌ {A = ℕ} 0 1 = cc in omega arith

pub not_true : (b : Bool) → (b ≡ true → ⊥) → b ≡ false
not_true true h = absurd (h refl)
not_true false h = refl

module _ (up : ℕ → ℕ) (n : ℕ) (inward : (s : ℕ) → s < n → s ≢ 0 → up s < s) where
  pub chain_alone : (s : ℕ) → s < n → s ≡ 0 → chain up n s ≡ s ∷ []
  chain_alone s l e = let f : ℕ = n - 1 in let is : n ≡ suc f = omega arith in ap (λ (j : ℕ). chain up j s) is ∙ chain_main up f s e

  -- what is on a chain is an ancestor, and the other way round
  pub on_above : (f x s : ℕ) → s < f → s < n → on (chain up n s) x ≡ true → Above up x s
  on_above zero x s t l o = absurd (omega arith)
  on_above (suc f) x s t l o =
      ⊎_elim
      (λ e. subst (Above up x) e itself)
      (λ e. ⊎_elim
      (λ q. absurd (true_false _ o (ap (λ (ss : List ℕ). on ss x) (chain_alone s l q) ∙ on_there x s [] e)))
      (λ q. let d = inward s l q in further q (on_above f x (up s) (omega arith) (omega arith) (sym (on_down up n inward s x l q e) ∙ o)))
      (cases_eq s 0))
      (cases_eq x s)

  pub not_above : (x s : ℕ) → s < n → (Above up x s → ⊥) → on (chain up n s) x ≡ false
  not_above x s l never = not_true _ (λ o. never (on_above n x s l l o))

  pub above_low : (x s : ℕ) → s < n → Above up x s → x ≤ s
  above_low x s l itself = omega arith
  above_low x s l (further q a) = let d = inward s l q in let r = above_low x (up s) (omega arith) a in omega arith

pub above_trans : (up : ℕ → ℕ) (a b s : ℕ) → Above up a b → Above up b s → Above up a s
above_trans up a b s p itself = p
above_trans up a b s p (further q r) = further q (above_trans up a b _ p r)

pub above_parent : (up : ℕ → ℕ) (a s : ℕ) → a ≢ s → Above up a s → Above up a (up s)
above_parent up a s ne itself = absurd (ne refl)
above_parent up a s ne (further q r) = r

-- of two ancestors of one scope, one is an ancestor of the other
pub above_both : (up : ℕ → ℕ) (a b s : ℕ) → Above up a s → Above up b s → Above up b a ⊎ Above up a b
above_both up a b s itself q = inl q
above_both up a b s (further n p) itself = inr (further n p)
above_both up a b s (further n p) (further m q) = above_both up a b _ p q
