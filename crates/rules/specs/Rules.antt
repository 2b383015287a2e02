-- When two classes clash, rule by rule.
use Rattle.std.specs.Prelude.{ℕ, Bool, not, ◌&&◌, ◌||◌, ◌==◌}
use Rattle.rules.specs.Fields.{meet_in, some_field}

-- class 0 reads
abbrev pub reads : ℕ → Bool
reads c = c == 0

-- class 1 writes
abbrev pub writes : ℕ → Bool
writes c = c == 1

-- class 2 adds weight
abbrev pub adds : ℕ → Bool
adds c = c == 2

-- the test holds of both classes
abbrev pub both : (ℕ → Bool) → ℕ → ℕ → Bool
both test a b = test a && test b

-- plain rule: two clash unless both read
abbrev pub plain : ℕ → ℕ → Bool
plain a b = not (both reads a b)

-- depot rule: two clash unless both read or both add
abbrev pub depot : ℕ → ℕ → Bool
depot a b = not (both reads a b || both adds a b)

-- field rule: two clash if one writes a field that the other reads or writes
abbrev pub field : ℕ → ℕ → Bool
field a b = some_field (meet_in a b)
