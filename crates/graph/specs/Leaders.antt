-- The leader of a class at a record: the one access of the class that stands for all of them.
use Rattle.std.specs.Prelude.{◌≡◌, Bool, ◌≢◌, ◌∷◌, ℕ, length, T}
use Rattle.graph.specs.History.{Event, access, History, scopes, innermost_task, Before, Unordered}
use Rattle.graph.specs.Graph.{Put, Path, IsAccess}

-- event i is an access of class c to record r, by the task t
pub record Access (h : History) (i c r t : ℕ) : Type 0 where
  pub past : History
  pub put : Put h i (access c r) past
  pub by : innermost_task (scopes past) ≡ t

-- Event i, by the task t, is the leader of class c at record r.
pub data Leader (c r : ℕ) : History → ℕ → ℕ → Type 0 where
  -- the first access becomes leader
  first : {h : History} → ((i t : ℕ) → ¬ Access h i c r t) → Leader c r (access c r ∷ h) (length h) (innermost_task (scopes h))
  -- a later one takes over exactly when the leader's task is before at that time
  takes_over : {h : History} {i t : ℕ} → Leader c r h i t → Before h t → Leader c r (access c r ∷ h) (length h) (innermost_task (scopes h))
  remains : {h : History} {i t : ℕ} → Leader c r h i t → Unordered h t → Leader c r (access c r ∷ h) i t
  -- no other event changes it
  other : {e : Event} {h : History} {i t : ℕ} → e ≢ access c r → Leader c r h i t → Leader c r (e ∷ h) i t

-- event i leads a class that clashes with class c at record r, and its task is unordered
pub record LeaderClashes (clash : ℕ → ℕ → Bool) (h : History) (c r i : ℕ) : Type 0 where
  pub class : ℕ
  pub task : ℕ
  pub leader : Leader class r h i task
  pub clashes : T (clash class c)
  pub free : Unordered h task

-- event i is an earlier access to record r that clashes with an access of class c put next and has no path to it
pub record AccessClashes (clash : ℕ → ℕ → Bool) (h : History) (c r i : ℕ) : Type 0 where
  pub class : ℕ
  pub is : IsAccess h i class r
  pub clashes : T (clash class c)
  pub free : ¬ Path (access c r ∷ h) i (length h)
