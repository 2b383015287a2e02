-- What an ordering holds, and what each call does to it.
use Rattle.std.specs.Prelude.{◌≡◌, ℕ, zero, suc, ◌-◌, ◌<◌, cond, List, [], ◌∷◌, ◌++◌, map, length, Some, None, Ok, Err, Option, Result, ◌==◌, nat_le}
use Rattle.graph.specs.History.{Scope, task, finish, number, outward, innermost, Place, before, unordered, moved}
use Rattle.orderings.specs.declared.words.Kind.{Kind}
use Rattle.orderings.specs.declared.words.Kind.TheVariants.{Task, Finish}
use Rattle.orderings.specs.declared.words.Word.{Word}
use Rattle.orderings.specs.declared.words.Word.TheVariants.{Before, Unordered}
use Rattle.orderings.specs.declared.words.Fault.{Fault}
use Rattle.orderings.specs.declared.words.Fault.TheVariants.{NoNumberLeft, MainAlone, NoSuchTask}

-- a scope begun: a task and its place, or a finish
pub data Begun : Type 0 where
  task_at : Place → Begun
  a_finish : Begun

pub record Meaning : Type 0 where
  -- the open scopes, the innermost first
  pub opened : List Scope
  -- every scope begun, by its number
  pub begun : List Begun
  -- how many scope numbers are left
  pub left : ℕ

-- main alone is begun; it is placed at itself, before
abbrev pub new : ℕ → Meaning
new n = record { opened = task 0 ∷ []; begun = task_at (before 0) ∷ []; left = n }

-- an open adds a scope to the list, under the next number; a task's place is itself, before
abbrev pub scope_as : Kind → ℕ → Scope
scope_as Task n = task n
scope_as Finish n = finish n

abbrev pub begun_as : Kind → ℕ → Begun
begun_as Task n = task_at (before n)
begun_as Finish n = a_finish

abbrev pub with_scope : Kind → Meaning → Meaning
with_scope k m = record {
  opened = scope_as k (length m.begun) ∷ m.opened;
  begun = m.begun ++ begun_as k (length m.begun) ∷ [];
  left = m.left - 1;
}

-- a close takes the innermost scope off, and the tasks placed there move outward
abbrev pub shifted : List Scope → Begun → Begun
shifted ss (task_at p) = task_at (moved ss p)
shifted ss a_finish = a_finish

abbrev pub without_innermost : Meaning → Meaning
without_innermost m = record { opened = outward m.opened; begun = map (shifted m.opened) m.begun; left = m.left }

-- an open is refused exactly when no number is left
abbrev pub opening : Meaning → Result ℕ Fault
opening m = cond (m.left == 0) (Err NoNumberLeft) (Ok (length m.begun))

abbrev pub after_open : Kind → Meaning → Meaning
after_open k m = cond (m.left == 0) m (with_scope k m)

-- a close is refused exactly when main alone is open
abbrev pub closing : Meaning → Result ℕ Fault
closing m = cond (nat_le (length m.opened) 1) (Err MainAlone) (Ok (innermost m.opened))

abbrev pub after_close : Meaning → Meaning
after_close m = cond (nat_le (length m.opened) 1) m (without_innermost m)

-- the scope of a number, if it was begun
abbrev pub at : List Begun → ℕ → Option Begun
at [] n = None
at (b ∷ bs) zero = Some b
at (b ∷ bs) (suc n) = at bs n

abbrev pub word : Place → Word
word (before s) = Before
word (unordered s) = Unordered

abbrev pub word_of : Option Begun → Result Word Fault
word_of None = Err NoSuchTask
word_of (Some (task_at p)) = Ok (word p)
word_of (Some a_finish) = Err NoSuchTask

-- ask gives the word of a task's place, and is refused exactly when the number is not that of a task begun
abbrev pub asked : List Begun → ℕ → Result Word Fault
asked bs t = word_of (at bs t)

abbrev pub kind : Option Begun → Option Kind
kind None = None
kind (Some (task_at p)) = Some Task
kind (Some a_finish) = Some Finish

abbrev pub kind_at : List Begun → ℕ → Option Kind
kind_at bs n = kind (at bs n)

-- the numbers of the scopes fall outward, from below n
abbrev pub Fall : ℕ → List Scope → Type 0
Fall n [] = Unit {0}
Fall n (s ∷ ss) = (number s < n) × Fall (number s) ss

-- Main is begun first, stays placed at itself, before, and is the outermost open scope. Each open scope is begun, and the later is inward.
pub record WellFormed (m : Meaning) : Type 0 where
  pub main : (rest : List Begun) × (m.begun ≡ task_at (before 0) ∷ rest)
  pub outermost : (inner : List Scope) × (m.opened ≡ inner ++ task 0 ∷ [])
  pub falling : Fall (length m.begun) m.opened
