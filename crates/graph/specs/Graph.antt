-- The graph of a history's events, and its paths.
use Rattle.std.specs.Prelude.{◌≡◌, List, ◌∷◌, ℕ, ◌<◌, length}
use Rattle.graph.specs.History.{Event, open_task, close, access, History, Scope, task, finish, begun, scopes, innermost_task, InnermostFinish}

-- event i of the history is e, and p are the events before it
pub data Put : History → ℕ → Event → History → Type 0 where
  newest : {e : Event} {h : History} → Put (e ∷ h) (length h) e h
  older : {d e : Event} {h p : History} {i : ℕ} → Put h i e p → Put (d ∷ h) i e p

-- event i is an access of class c to record r
abbrev pub IsAccess : History → ℕ → ℕ → ℕ → Type 0
IsAccess h i c r = (p : History) × Put h i (access c r) p

-- event i belongs to the task t, the innermost when it was put
pub record Of (h : History) (i t : ℕ) : Type 0 where
  pub event : Event
  pub past : History
  pub put : Put h i event past
  pub by : innermost_task (scopes past) ≡ t

-- event i opens the task t
pub record Opens (h : History) (i t : ℕ) : Type 0 where
  pub past : History
  pub put : Put h i open_task past
  pub next : begun past ≡ t

-- event i closes the scope s
pub record Closes (h : History) (i : ℕ) (s : Scope) : Type 0 where
  pub past : History
  pub out : List Scope
  pub put : Put h i close past
  pub top : scopes past ≡ s ∷ out

-- f is the innermost finish that was open when the task t was opened
pub record Within (h : History) (t f : ℕ) : Type 0 where
  pub at : ℕ
  pub past : History
  pub put : Put h at open_task past
  pub next : begun past ≡ t
  pub home : InnermostFinish (scopes past) f

pub data Arrow (h : History) : ℕ → ℕ → Type 0 where
  -- from an event to the next event of the same task
  continue : {i j t : ℕ} → Of h i t → Of h j t → i < j → ((k : ℕ) → i < k → k < j → ¬ Of h k t) → Arrow h i j
  -- from an open task to the first event of the new task
  spawn : {i j t : ℕ} → Opens h i t → Of h j t → ((k : ℕ) → k < j → ¬ Of h k t) → Arrow h i j
  -- from the close of a task to the close of the innermost finish that was open when the task was opened
  join : {i j t f : ℕ} → Closes h i (task t) → Closes h j (finish f) → Within h t f → Arrow h i j

infixl 5 ◌then◌
-- one or more arrows
pub data Path (h : History) : ℕ → ℕ → Type 0 where
  arrow : {i j : ℕ} → Arrow h i j → Path h i j
  ◌then◌ : {i j k : ℕ} → Path h i j → Arrow h j k → Path h i k
