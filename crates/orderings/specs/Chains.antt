-- A chain of open scopes, step by step.
use Rattle.std.proofs.Common.{◌≡◌, ℕ, suc, ◌≢◌, [], ◌∷◌}
use Rattle.std.proofs.lemmas.Bool.{eq-eqb, ne_eqb}
use Rattle.orderings.specs.Store.{chain}

pub chain_main : (out : ℕ → ℕ) (f s : ℕ) → s ≡ 0 → chain out (suc f) s ≡ s ∷ []
unfolding chain
chain_main out f s e = rw (eq-eqb s 0 e, chain)

pub chain_more : (out : ℕ → ℕ) (f s : ℕ) → s ≢ 0 → chain out (suc f) s ≡ s ∷ chain out f (out s)
unfolding chain
chain_more out f s e = rw (ne_eqb s 0 e, chain)
