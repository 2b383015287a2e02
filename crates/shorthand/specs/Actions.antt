-- Actions in a text.
use Rattle.std.specs.Prelude.{ℕ, ◌+◌, ◌-◌, ◌*◌, Bool, cond, not, ◌&&◌, List, drop, is_some, Some, None, Ok, Err, codes, Option, Result, ◌==◌, nat_le, slice_index, slice_index_or}
use Prim.Native.String.{String}
use Rattle.shorthand.specs.declared.words.Action.{Action}
use Rattle.shorthand.specs.declared.words.Action.TheVariants.{OpenTask, OpenFinish, Close, Access, Ask}
use Rattle.shorthand.specs.declared.words.Misread.{Misread}
use Rattle.shorthand.specs.declared.words.Reason.TheVariants.{NoAction, NoDigit, NoAt}
use Rattle.shorthand.specs.Words.{wrong}
use Rattle.shorthand.specs.Numbers.{number_at}

infix 40 ◌has◌
-- the character is the one that a text of one holds
abbrev pub ◌has◌ : ℕ → String → Bool
c has s = c == slice_index (codes s) 0

-- the value of a hexadecimal digit, 0 to 9 and A to F
abbrev pub hex : ℕ → Option ℕ
hex c = cond (nat_le 48 c && nat_le c 57) (Some (c - 48)) (cond (nat_le 65 c && nat_le c 70) (Some (c - 55)) None)

-- the action that a number belongs to
abbrev pub acting : (ℕ → Action) → Result (ℕ × ℕ) Misread → Result (Action × ℕ) Misread
acting action (Ok p) = Ok (action p.0, p.1)
acting action (Err m) = Err m

-- an access of a class whose two digits have these values; behind the first digit stand the second, an @ and the number of a record
abbrev pub of_class : ℕ → Option ℕ → Option ℕ → List ℕ → Result (Action × ℕ) Misread
of_class at None second l = Err (wrong at NoAction)
of_class at (Some high) None l = Err (wrong (at + 1) NoDigit)
of_class at (Some high) (Some low) l =
    cond (slice_index_or l 1 0 has "@") (acting (Access (16 * high + low)) (number_at (at + 3) (drop 2 l))) (Err (wrong (at + 2) NoAt))

abbrev pub class_at : ℕ → ℕ → List ℕ → Result (Action × ℕ) Misread
class_at at c l = of_class at (hex c) (hex (slice_index l 0)) l

-- whether the rest of a class follows its first digit
abbrev pub is_class : List ℕ → Bool
is_class l = is_some (hex (slice_index l 0)) && slice_index_or l 1 0 has "@"

-- the action whose first character is c, at the place `at`, and behind which l stands; and the place behind the action
abbrev pub action_at : ℕ → ℕ → List ℕ → Result (Action × ℕ) Misread
action_at at c l =
    cond (c has "T") (Ok (OpenTask, at + 1))
    (cond (c has "F" && not (is_class l)) (Ok (OpenFinish, at + 1))
    (cond (c has ")") (Ok (Close, at + 1))
    (cond (c has "r") (acting (Access 0) (number_at (at + 1) l))
    (cond (c has "w") (acting (Access 1) (number_at (at + 1) l))
    (cond (c has "a") (acting (Access 2) (number_at (at + 1) l))
    (cond (c has "?") (acting Ask (number_at (at + 1) l))
    (class_at at c l)))))))
