-- Bit by bit: what shifts, `&`, `|` and the mask of the four low bits do.
use Rattle.std.proofs.Common.{◌≡◌, ℕ, ◌+◌, ◌/◌, ◌%◌, ◌^◌, not, ◌&&◌, ◌||◌, eqb, ap, arith}
use lib.Bits.{bit_and, bit_or, and_step, or_step, and_shr, or_shr, and_mask}
use Rattle.std.proofs.lemmas.Nat.{shr-shr}
use Rattle.std.proofs.lemmas.Bool.Decides.{nat_tests}
use Rattle.rules.specs.Fields.{bit, some_field}

-- bit k of `n >> 4` is bit 4 + k of n
pub bit_shifted : (n k : ℕ) → bit (n / 16) k ≡ bit n (4 + k)
bit_shifted n k = ap (λ m. eqb (m % 2) 1) (shr-shr n 4 k)

-- bit 0 of `&` and of `|`, and then every bit
and_lowest : (x y : ℕ) → eqb (bit_and x y % 2) 1 ≡ (eqb (x % 2) 1 && eqb (y % 2) 1)
and_lowest x y = grind (arith, nat_tests, and_step x y)

pub bit-bit_and : (x y k : ℕ) → bit (bit_and x y) k ≡ (bit x k && bit y k)
bit-bit_and x y k = rw and_shr (and_lowest (x / 2 ^ k) (y / 2 ^ k))

or_lowest : (x y : ℕ) → eqb (bit_or x y % 2) 1 ≡ (eqb (x % 2) 1 || eqb (y % 2) 1)
or_lowest x y = grind (arith, nat_tests, or_step x y)

pub bit-bit_or : (x y k : ℕ) → bit (bit_or x y) k ≡ (bit x k || bit y k)
bit-bit_or x y k = rw or_shr (or_lowest (x / 2 ^ k) (y / 2 ^ k))

-- the four low bits are not all 0 exactly when one of them is 1
pub low_four : (x : ℕ) → not (eqb (bit_and x 15) 0) ≡ some_field (bit x)
low_four x = rw (and_mask x 4) (grind (arith, nat_tests))
