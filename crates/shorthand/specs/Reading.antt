-- What a text in shorthand says.
use Rattle.std.specs.Prelude.{ℕ, ◌+◌, Bool, cond, ◌||◌, List, [], ◌∷◌, ◌++◌, length, take, drop, Some, None, Ok, Err, codes, Option, Result, ◌==◌, nat_lt}
use Rattle.std.specs.Str.{bytes_eq}
use Rattle.rules.specs.declared.Rule.{Rule}
use Rattle.rules.specs.declared.Rule.TheVariants.{Plain, Depot, Field}
use Rattle.shorthand.specs.declared.words.Action.{Action}
use Rattle.shorthand.specs.declared.words.Fault.{Fault}
use Rattle.shorthand.specs.declared.words.Fault.TheVariants.{NoRoom, Misread as Wrong}
use Rattle.shorthand.specs.declared.words.Misread.{Misread}
use Rattle.shorthand.specs.declared.words.Plan.{Plan}
use Rattle.shorthand.specs.Actions.{action_at}

-- a blank, a tab, a carriage return or a newline
abbrev pub is_blank : ℕ → Bool
is_blank c = c == 32 || c == 9 || c == 13 || c == 10

abbrev pub begins : List ℕ → List ℕ → Bool
begins word l = bytes_eq word (take (length word) l)

-- the rule that a text names in front, and the place behind the name; the plain rule where none is named
abbrev pub named : ℕ → List ℕ → Rule × ℕ
named at l =
    cond (begins (codes "depot") l) (Depot (record {}), at + 5)
    (cond (begins (codes "field") l) (Field (record {}), at + 5)
    (cond (begins (codes "plain") l) (Plain (record {}), at + 5)
    (Plain (record {}), at)))

-- the same behind any blanks
abbrev pub heading : ℕ → List ℕ → Rule × ℕ
heading at [] = named at []
heading at (c ∷ l) = cond (is_blank c) (heading (at + 1) l) (named at (c ∷ l))

-- the actions up to the end of a text or to its first fault, and that fault
pub record Reading : Type 0 where
  pub actions : List Action
  pub fault : Option Misread

-- an action, and what the text says from the place behind it on
abbrev pub followed : Result (Action × ℕ) Misread → (ℕ → Reading) → Reading
followed (Ok p) rest = record { actions = p.0 ∷ (rest p.1).actions; fault = (rest p.1).fault }
followed (Err m) rest = record { actions = []; fault = Some m }

-- What a text says that begins at the place `at`, read from the place `from` on.
abbrev pub said : ℕ → ℕ → List ℕ → Reading
said from at [] = record { actions = []; fault = None }
said from at (c ∷ l) =
    cond (nat_lt at from || is_blank c) (said from (at + 1) l) (followed (action_at at c l) (λ end. said end (at + 1) l))

-- What a whole text says: the rule's name, and the actions.
abbrev pub reading : List ℕ → Reading
reading l = said (heading 0 l).1 0 l

-- how many actions there are, or the fault
abbrev pub unless : Option Misread → ℕ → Result ℕ Misread
unless None n = Ok n
unless (Some m) n = Err m

abbrev pub counted : Reading → Result ℕ Misread
counted r = unless r.fault (length r.actions)

abbrev pub told : Rule → Result ℕ Misread → Result Plan Fault
told rule (Ok n) = Ok (record { rule = rule; count = n })
told rule (Err m) = Err (Wrong m)

-- the answer where there are `room` places for actions
abbrev pub read_answer : ℕ → List ℕ → Result Plan Fault
read_answer room l = cond (nat_lt room (length l)) (Err NoRoom) (told (heading 0 l).0 (counted (reading l)))

-- actions put into the first places, and behind them what was there
abbrev pub put_over : List Action → List Action → List Action
put_over actions places = actions ++ drop (length actions) places

-- the places afterwards
abbrev pub read_into : List Action → List ℕ → List Action
read_into places l = cond (nat_lt (length places) (length l)) places (put_over (reading l).actions places)
