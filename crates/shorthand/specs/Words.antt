-- Faults of a text.
use Rattle.std.specs.Prelude.{ℕ, ◌+◌, List, codes}
use Rattle.shorthand.specs.declared.words.Misread.{Misread}
use Rattle.shorthand.specs.declared.words.Reason.{Reason}
use Rattle.shorthand.specs.declared.words.Reason.TheVariants.{NoAction, NoNumber, TooLarge, NoDigit, NoAt}

-- a fault at the place `at`, counted from 0, has a position counted from 1
abbrev pub wrong : ℕ → Reason → Misread
wrong at reason = record { position = at + 1; reason = reason }

-- what is expected at the place of a fault
abbrev pub expected : Reason → List ℕ
expected NoAction = codes "expected an action: T, F, ), r, w, a or ? or a class of two hexadecimal digits"
expected NoNumber = codes "expected a number"
expected TooLarge = codes "expected a number of at most 4294967295"
expected NoDigit = codes "expected the second hexadecimal digit of a class, 0 to 9 or A to F"
expected NoAt = codes "expected @ behind a class"
