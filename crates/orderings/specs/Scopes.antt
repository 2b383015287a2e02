-- What an open and a close do to scopes by number.
use Rattle.std.specs.Prelude.{◌≡◌, ℕ, ◌+◌, ◌-◌, ◌<◌, ◌≤◌, min}
use Rattle.orderings.specs.declared.words.Kind.{Kind}
use Rattle.orderings.specs.declared.words.Kind.TheVariants.{Task, Finish}
use Rattle.orderings.specs.declared.scopes.Scopes.{Scopes}

-- a scope more, which has the next number and is innermost
pub record Opened (old now : Scopes) : Type 0 where
  pub free : old.begun ≤ old.numbers
  pub numbers : now.numbers ≡ old.numbers
  pub begun : now.begun ≡ old.begun + 1
  pub inner : now.inner ≡ old.begun
  pub count : now.count ≡ old.count + 1

-- the innermost scope closed, and the scope next outward innermost
pub record ClosedTo (outward : ℕ) (old now : Scopes) : Type 0 where
  pub more : 1 < old.count
  pub numbers : now.numbers ≡ old.numbers
  pub begun : now.begun ≡ old.begun
  pub inner : now.inner ≡ min outward old.inner
  pub count : now.count ≡ old.count - 1

-- the innermost task at the scope n of a kind within the task t
abbrev pub task_within : Kind → (n t : ℕ) → ℕ
task_within Task n t = n
task_within Finish n t = t
