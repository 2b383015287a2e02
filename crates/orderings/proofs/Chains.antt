-- The chain of open scopes.
use Rattle.std.proofs.Common.{◌≡◌, ℕ, zero, suc, ◌<◌, ◌≤◌, ◌≢◌, List, [], ◌∷◌, sym, refl, ap, ◌∙◌, subst, ⊎_elim, arith}
use Rattle.std.proofs.lemmas.Bool.{cases_eq}
use Rattle.orderings.specs.Store.{chain}
use Rattle.orderings.specs.Sound.{Each}
use Rattle.orderings.specs.Chains.{chain_main, chain_more}

module _ (out : ℕ → ℕ) (n : ℕ) (inward : (s : ℕ) → s < n → s ≢ 0 → out s < s) where
  -- more fuel than the number changes nothing
  pub chain_steady : (f k s : ℕ) → s < n → s < f → s < k → chain out f s ≡ chain out k s
  chain_steady zero k s h e i = absurd (omega arith)
  chain_steady (suc f) zero s h e i = absurd (omega arith)
  chain_steady (suc f) (suc k) s h e i =
      ⊎_elim
      (λ q. chain_main out f s q ∙ sym (chain_main out k s q))
      (λ q. let d = inward s h q in
      chain_more out f s q ∙ ap (λ (r : List ℕ). s ∷ r) (chain_steady f k (out s) (omega arith) (omega arith) (omega arith)) ∙ sym (chain_more out k s q))
      (cases_eq s 0)

  -- the chain looks only at scopes below n
  pub chain_agree : (out' : ℕ → ℕ) → ((s : ℕ) → s < n → out' s ≡ out s) → (f s : ℕ) → s < n → chain out' f s ≡ chain out f s
  unfolding chain
  chain_agree out' a zero s h = refl
  chain_agree out' a (suc f) s h =
      ⊎_elim
      (λ q. chain_main out' f s q ∙ sym (chain_main out f s q))
      (λ q. let d = inward s h q in
      chain_more out' f s q ∙ ap (λ (r : List ℕ). s ∷ r) (ap (chain out' f) (a s h) ∙ chain_agree out' a f (out s) (omega arith)) ∙ sym (chain_more out f s q))
      (cases_eq s 0)

  -- a fact of each scope of a chain, which are at most its first, turned into another
  pub each_chain : (P Q : ℕ → Type 0) (top : ℕ) → ((s : ℕ) → s < n → s ≤ top → P s → Q s) → (f s : ℕ) → s < n → s ≤ top → Each P (chain out f s) → Each Q (chain out f s)
  unfolding chain
  each_chain P Q top k zero s h t e = tt
  each_chain P Q top k (suc f) s h t e =
      ⊎_elim
      (λ q. let e' : Each P (s ∷ []) = subst (Each P) (chain_main out f s q) e in
      subst (Each Q) (sym (chain_main out f s q)) (k s h t e'.0, tt))
      (λ q. let d = inward s h q in
      let e' : Each P (s ∷ chain out f (out s)) = subst (Each P) (chain_more out f s q) e in
      subst (Each Q) (sym (chain_more out f s q)) (k s h t e'.0, each_chain P Q top k f (out s) (omega arith) (omega arith) e'.1))
      (cases_eq s 0)

  -- a chain begins with its scope
  pub chain_first : (f s : ℕ) → s < f → (os : List ℕ) × (chain out f s ≡ s ∷ os)
  chain_first zero s l = absurd (omega arith)
  chain_first (suc f) s l = ⊎_elim (λ q. ([], chain_main out f s q)) (λ q. (chain out f (out s), chain_more out f s q)) (cases_eq s 0)

  pub each_first : (P : ℕ → Type 0) (f s : ℕ) → s < f → Each P (chain out f s) → P s
  each_first P f s l e = let first = chain_first f s l in let e' : Each P (s ∷ first.0) = subst (Each P) first.1 e in e'.0

  -- and goes on with the chain of the scope next outward
  pub chain_split : (f s : ℕ) → s < n → s < f → s ≢ 0 → chain out f s ≡ s ∷ chain out f (out s)
  chain_split zero s h l q = absurd (omega arith)
  chain_split (suc f) s h l q = let d = inward s h q in chain_more out f s q ∙ ap (λ (r : List ℕ). s ∷ r) (chain_steady f (suc f) (out s) (omega arith) (omega arith) (omega arith))
