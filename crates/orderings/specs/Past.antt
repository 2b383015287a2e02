-- The meaning that a history leaves.
use Rattle.std.specs.Prelude.{◌≡◌, ℕ, ◌+◌, cond, [], ◌∷◌, length, Some, None, Option, ◌==◌}
use Rattle.graph.specs.History.{open_task, open_finish, close, access, History, begun, scopes, place}
use Rattle.orderings.specs.declared.words.Kind.{Kind}
use Rattle.orderings.specs.declared.words.Kind.TheVariants.{Task, Finish}
use Rattle.orderings.specs.Meaning.{Meaning, Begun, task_at, a_finish, at}

-- the kind of the scope of number n, if the history began one
abbrev pub kind_of : History → ℕ → Option Kind
kind_of [] n = cond (n == 0) (Some Task) None
kind_of (open_task ∷ h) n = cond (n == begun h) (Some Task) (kind_of h n)
kind_of (open_finish ∷ h) n = cond (n == begun h) (Some Finish) (kind_of h n)
kind_of (close ∷ h) n = kind_of h n
kind_of (access c r ∷ h) n = kind_of h n

abbrev pub as_begun : History → ℕ → Option Kind → Option Begun
as_begun h n None = None
as_begun h n (Some Task) = Some (task_at (place h n))
as_begun h n (Some Finish) = Some a_finish

-- The meaning is that of the history h, which began with n numbers left.
pub record Means (n : ℕ) (h : History) (m : Meaning) : Type 0 where
  pub opened : m.opened ≡ scopes h
  pub count : length m.begun ≡ begun h
  pub scope : (k : ℕ) → at m.begun k ≡ as_begun h k (kind_of h k)
  pub left : m.left + begun h ≡ n + 1
