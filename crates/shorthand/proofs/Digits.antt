-- Reading a number digit by digit.
use Rattle.std.proofs.Common.{◌≡◌, ℕ, ◌+◌, ◌-◌, ◌*◌, ◌<◌, ◌≤◌, Bool, true, false, cond, List, [], ◌∷◌, length, get_or, drop, Some, None, arith}
use Rattle.std.specs.Char.{is_ascii_digit}
use Rattle.std.proofs.lemmas.List.{drop_more, drop_all}
use Rattle.std.proofs.lemmas.Bool.Decides.{nat_tests}
use Rattle.std.proofs.lemmas.Grind.{common_steps}
use Rattle.shorthand.specs.Numbers.{digits_on}

-- at the place p of a text
module _ (l : List ℕ) (n p : ℕ) where
  pub digits_more : (d : ℕ) → p < length l → Some d ≡ cond (is_ascii_digit (get_or l p 0)) (Some (get_or l p 0 - 48)) None → digits_on n p (drop p l) ≡ digits_on (10 * n + d) (p + 1) (drop (p + 1) l)
  digits_more d h e = let q = drop_more l p 0 h in grind (arith, nat_tests)

  pub digits_stop : (p < length l → None ≡ cond (is_ascii_digit (get_or l p 0)) (Some (get_or l p 0 - 48)) None) → digits_on n p (drop p l) ≡ (n, p)
  digits_stop e = grind (arith, nat_tests, common_steps, drop_more, drop_all)

-- more digits make no smaller number
pub digits_rise : (n at : ℕ) (l : List ℕ) → (n ≤ (digits_on n at l).0) × (at ≤ (digits_on n at l).1)
digits_rise n at [] = (omega arith, omega arith)
digits_rise n at (c ∷ l) =
    let P : ℕ × ℕ → Type 0 = λ p. (n ≤ p.0) × (at ≤ p.1) in
    let h = digits_rise (10 * n + (c - 48)) (at + 1) l in
    elim (is_ascii_digit c) as (λ (b : Bool). P (cond b (digits_on (10 * n + (c - 48)) (at + 1) l) (n, at)))
    [ true ↦ (omega arith, omega arith) | false ↦ (omega arith, omega arith) ]

-- what `number` is proved by
pub ruleset steps = (common_steps, nat_tests, digits_more, digits_stop, digits_rise)
