-- Numbers in a text.
use Rattle.std.specs.Prelude.{ℕ, ◌+◌, ◌-◌, ◌*◌, ◌^◌, cond, List, [], ◌∷◌, Ok, Err, Result, ◌==◌, nat_lt}
use Rattle.std.specs.Char.{is_ascii_digit}
use Rattle.shorthand.specs.declared.words.Misread.{Misread}
use Rattle.shorthand.specs.declared.words.Reason.TheVariants.{NoNumber, TooLarge}
use Rattle.shorthand.specs.Words.{wrong}

-- the number that the digits at the front of a text write, after those of n, and the place behind them; the text begins at the place `at`
abbrev pub digits_on : ℕ → ℕ → List ℕ → ℕ × ℕ
digits_on n at [] = (n, at)
digits_on n at (c ∷ l) = cond (is_ascii_digit c) (digits_on (10 * n + (c - 48)) (at + 1) l) (n, at)

abbrev pub fitting : ℕ → ℕ × ℕ → Result (ℕ × ℕ) Misread
fitting at p = cond (p.1 == at) (Err (wrong at NoNumber)) (cond (nat_lt p.0 (2 ^ 32)) (Ok p) (Err (wrong at TooLarge)))

-- the number at the front of a text, and the place behind it
abbrev pub number_at : ℕ → List ℕ → Result (ℕ × ℕ) Misread
number_at at l = fitting at (digits_on 0 at l)
