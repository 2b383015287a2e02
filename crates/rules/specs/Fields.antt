-- The four fields, 0 to 3, that a class of the field rule reads and writes.
use Rattle.std.specs.Prelude.{ℕ, ◌+◌, ◌/◌, ◌%◌, ◌^◌, Bool, ◌&&◌, ◌||◌, ◌==◌}

-- bit k of the number n is 1
abbrev pub bit : ℕ → ℕ → Bool
bit n k = n / 2 ^ k % 2 == 1

-- bits 0 to 3 of a class name the fields that it reads
abbrev pub reads_field : ℕ → ℕ → Bool
reads_field c f = bit c f

-- bits 4 to 7 name the same fields, in that order, that it writes
abbrev pub writes_field : ℕ → ℕ → Bool
writes_field c f = bit c (4 + f)

-- the class reads or writes the field
abbrev pub touches_field : ℕ → ℕ → Bool
touches_field c f = reads_field c f || writes_field c f

-- two classes meet in a field: one writes it, and the other reads or writes it
abbrev pub meet_in : ℕ → ℕ → ℕ → Bool
meet_in a b f = (writes_field a f && touches_field b f) || (writes_field b f && touches_field a f)

-- the test holds of one field at least of the four
abbrev pub some_field : (ℕ → Bool) → Bool
some_field test = test 0 || test 1 || test 2 || test 3
