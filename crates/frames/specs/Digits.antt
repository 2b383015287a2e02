-- Digits, and the numbers that they say. Numbers stand most significant digit first.
use Rattle.std.specs.Prelude.{ℕ, zero, suc, ◌+◌, ◌-◌, ◌*◌, ◌/◌, ◌%◌, ◌^◌, Bool, cond, ◌&&◌, List, [], ◌∷◌, length, take, drop, is_some, Some, None, Option, nat_le, nat_lt}

-- the character of a digit: 0 to 9, then A to F
abbrev pub digit_for : ℕ → ℕ
digit_for n = cond (nat_lt n 10) (48 + n) (55 + n)

-- the digits of a number at a width
abbrev pub digits : ℕ → ℕ → List ℕ
digits zero n = []
digits (suc w) n = digit_for (n / 16 ^ w) ∷ digits w (n % 16 ^ w)

-- the value of a digit's character, none of another character
abbrev pub digit_of : ℕ → Option ℕ
digit_of b = cond (nat_le 48 b && nat_le b 57) (Some (b - 48)) (cond (nat_le 65 b && nat_le b 70) (Some (b - 55)) None)

abbrev pub is_digit : ℕ → Bool
is_digit b = is_some (digit_of b)

abbrev pub or_zero : Option ℕ → ℕ
or_zero (Some v) = v
or_zero None = 0

abbrev pub value : ℕ → ℕ
value b = or_zero (digit_of b)

-- the number that digits say
abbrev pub number : List ℕ → ℕ
number [] = 0
number (d ∷ ds) = value d * 16 ^ length ds + number ds

-- the number that w digits say from a place on
abbrev pub said : ℕ → ℕ → List ℕ → ℕ
said w from ds = number (take w (drop from ds))
