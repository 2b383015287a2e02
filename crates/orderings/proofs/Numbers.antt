-- The numbers of scopes.
use Rattle.std.proofs.Common.{◌≡◌, ℕ, ◌+◌, ◌≤◌, min, arith}
use Rattle.orderings.specs.declared.scopes.Scopes.{Scopes}

pub begun_few : (s : Scopes) → s.begun ≤ 65536
begun_few s = let room = s.room in let few = s.few in omega arith

pub begun_room : (s : Scopes) (n : ℕ) → s.numbers ≡ min n 65535 → s.begun ≤ n + 1
begun_room s n e = let room = s.room in omega arith

-- what holds at some numbers holds at equal ones
pub at_numbers : (P : ℕ → ℕ → ℕ → Type 0) (n s k n' s' k' : ℕ) → P n s k → n' ≡ n → s' ≡ s → k' ≡ k → P n' s' k'
at_numbers P n s k n' s' k' h e f g = rw (e, f, g) h
