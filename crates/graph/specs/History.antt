-- Histories: the events accepted so far, the open scopes, and the place of every task.
use Rattle.std.specs.Prelude.{◌≡◌, Bool, true, false, cond, List, [], ◌∷◌, ℕ, suc, ◌<◌, length, eqb}

-- an access has a class and a record
pub data Event : Type 0 where
  open_task : Event
  open_finish : Event
  close : Event
  access : (c r : ℕ) → Event

-- The events accepted so far, the newest first. The number of an event is how many came before it.
abbrev pub History : Type 0
History = List Event

-- a scope is a task or a finish, and has a number
pub data Scope : Type 0 where
  task : ℕ → Scope
  finish : ℕ → Scope

abbrev pub number : Scope → ℕ
number (task n) = n
number (finish n) = n

-- how many scopes were begun: main, and one for each open. The next scope gets this number.
abbrev pub begun : History → ℕ
begun [] = 1
begun (open_task ∷ h) = suc (begun h)
begun (open_finish ∷ h) = suc (begun h)
begun (close ∷ h) = begun h
begun (access c r ∷ h) = begun h

abbrev pub outward : List Scope → List Scope
outward [] = []
outward (s ∷ ss) = ss

-- the open scopes, the innermost first; main is task 0 and the outermost
abbrev pub scopes : History → List Scope
scopes [] = task 0 ∷ []
scopes (open_task ∷ h) = task (begun h) ∷ scopes h
scopes (open_finish ∷ h) = finish (begun h) ∷ scopes h
scopes (close ∷ h) = outward (scopes h)
scopes (access c r ∷ h) = scopes h

-- the innermost scope and the innermost task of a list of open scopes
abbrev pub innermost : List Scope → ℕ
innermost [] = 0
innermost (s ∷ ss) = number s

abbrev pub innermost_task : List Scope → ℕ
innermost_task [] = 0
innermost_task (task t ∷ ss) = t
innermost_task (finish f ∷ ss) = innermost_task ss

-- the innermost finish, if one is open, is f
abbrev pub InnermostFinish : List Scope → ℕ → Type 0
InnermostFinish [] f = ⊥
InnermostFinish (task t ∷ ss) f = InnermostFinish ss f
InnermostFinish (finish g ∷ ss) f = g ≡ f

-- a close is accepted while a scope besides main is open
abbrev pub Accepted : History → Type 0
Accepted [] = Unit {0}
Accepted (open_task ∷ h) = Accepted h
Accepted (open_finish ∷ h) = Accepted h
Accepted (close ∷ h) = Accepted h × (1 < length (scopes h))
Accepted (access c r ∷ h) = Accepted h

-- the place of a task: an open scope, and the word before or unordered
pub data Place : Type 0 where
  before : ℕ → Place
  unordered : ℕ → Place

-- the word of a place is unordered
abbrev pub is_unordered : Place → Bool
is_unordered (before s) = false
is_unordered (unordered s) = true

abbrev pub spot : Place → ℕ
spot (before s) = s
spot (unordered s) = s

-- the innermost scope closes: what is placed there moves outward
abbrev pub moved : List Scope → Place → Place
moved [] p = p
moved (task s ∷ ss) p = cond (eqb (spot p) s) (unordered (innermost ss)) p
moved (finish s ∷ ss) p = cond (eqb (spot p) s) (before (innermost_task ss)) p

abbrev pub place : History → ℕ → Place
place [] t = before 0
place (open_task ∷ h) t = cond (eqb t (begun h)) (before t) (place h t)
place (open_finish ∷ h) t = place h t
place (close ∷ h) t = moved (scopes h) (place h t)
place (access c r ∷ h) t = place h t

abbrev pub Before : History → ℕ → Type 0
Before h t = (s : ℕ) × (place h t ≡ before s)

abbrev pub Unordered : History → ℕ → Type 0
Unordered h t = (s : ℕ) × (place h t ≡ unordered s)
