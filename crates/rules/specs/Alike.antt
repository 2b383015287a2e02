-- What every clash rule shows of itself.
use Rattle.std.specs.Prelude.{◌≡◌, ℕ, Bool, true}

-- of two known classes a rule answers alike both ways round
abbrev pub Alike : (ℕ → Bool) → (ℕ → ℕ → Bool) → Type 0
Alike known clash = (a b : ℕ) → known a ≡ true → known b ≡ true → clash a b ≡ clash b a
