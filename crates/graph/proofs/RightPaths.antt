-- What holds of the places and the paths of every history.
use mathlib.Core.Path.{◌≡◌}
use mathlib.Core.Logic.{◌⊎◌, inl, ◌≢◌, ⊎_elim}
use mathlib.Core.List.{List, [], ◌∷◌}
use Prim.Native.Nat.{ℕ, ◌<◌, ◌≤◌}
use native.Mathlib.Omega.{arith}
use lib.ListN.{length}
use Rattle.graph.specs.History.{Event, close, History, Scope, task, finish, number, begun, scopes, innermost_task, InnermostFinish, Accepted, before, unordered, place}
use Rattle.graph.specs.Graph.{Of, Path}
use Rattle.graph.proofs.OpenScopes.{On}
use Rattle.graph.proofs.Places.{main_open, task_on, open_placed}
use Rattle.graph.proofs.Arrows.{Joins, Next, next_lt, Upto, upto_older, upto_back, upto_le, path_to_newest, next_other, next_other_is}

pub before_is_not : {A : Type 0} (a b : ℕ) → before a ≡ unordered b → A
before_is_not a b e = let z : ◌≡◌ {A = ℕ} 0 1 = cc in absurd (omega arith)

pub finish_is_not : {A : Type 0} (a b : ℕ) → finish a ≡ task b → A
finish_is_not a b e = let z : ◌≡◌ {A = ℕ} 0 1 = cc in absurd (omega arith)

-- event i has a path to the next event of the task s
abbrev pub Reach : History → ℕ → ℕ → Type 0
Reach h s i = (k : ℕ) × Next h s k × Upto h i k

-- the task t is before, at the task s or outward of it
abbrev pub Under : History → ℕ → ℕ → Type 0
Under h t s = (q : ℕ) × (place h t ≡ before q) × (q ≤ s)

-- f is the innermost finish at the scope s or outward of it
abbrev pub FinishFrom : List Scope → ℕ → ℕ → Type 0
FinishFrom [] s f = ⊥
FinishFrom (x ∷ ss) s f = ((number x ≡ s) × InnermostFinish (x ∷ ss) f) ⊎ FinishFrom ss s f

-- What holds of every history. joined and unjoined say which events reach a close that joins an open finish.
pub record Right (h : History) : Type 0 where
  pub reach : (s : ℕ) → On (scopes h) (task s) → (i t : ℕ) → Of h i t → Reach h s i → Under h t s
  pub under : (s : ℕ) → On (scopes h) (task s) → (i t : ℕ) → Of h i t → Under h t s → Reach h s i
  pub joined : (f : ℕ) → On (scopes h) (finish f) → (i t : ℕ) → Of h i t → (k : ℕ) → Joins h k f → Upto h i k → (s : ℕ) → place h t ≡ unordered s → f ≤ s
  pub unjoined : (i t : ℕ) → Of h i t → (s : ℕ) → place h t ≡ unordered s → (f : ℕ) → FinishFrom (scopes h) s f → (k : ℕ) × Joins h k f × Upto h i k

-- the innermost task is placed at itself
pub own_place : (h : History) → Accepted h → place h (innermost_task (scopes h)) ≡ before (innermost_task (scopes h))
own_place h a = open_placed h (innermost_task (scopes h)) (task_on (scopes h) 0 (main_open h a))

-- reaching the next event of a task that did not move
pub reach_other : (e : Event) (h : History) (s i : ℕ) → s ≢ innermost_task (scopes h) → s < begun h → Reach (e ∷ h) s i → Reach h s i
reach_other e h s i d l (k, n, u) = let n' = next_other_is e h s k d l n in (k, n', upto_back i k (next_lt h s k n') u)

pub other_reach : (e : Event) (h : History) (s i : ℕ) → s ≢ innermost_task (scopes h) → Reach h s i → Reach (e ∷ h) s i
other_reach e h s i d (k, n, u) = (k, next_other e h s k d n, upto_older i k u)

-- the newest event does not reach it
pub newest_reach_not : (e : Event) (h : History) (s i : ℕ) → s ≢ innermost_task (scopes h) → s < begun h → i ≡ length h → Reach (e ∷ h) s i → ⊥
newest_reach_not e h s i d l p r =
    let q = reach_other e h s i d l r in
    let n = next_lt h s q.0 q.1 in
    let m = upto_le i q.0 q.2 in
    omega arith

-- a path to the newest event, where no join leads to it
pub quiet : (e : Event) (h : History) → ((f : ℕ) (out : List Scope) → close ≡ e → scopes h ≡ finish f ∷ out → ⊥) → (i : ℕ) → Path (e ∷ h) i (length h) → Reach h (innermost_task (scopes h)) i
quiet e h n i p = let v = (path_to_newest e h i).0 p in (v.0, ⊎_elim (λ x. x) (λ x. absurd (n x.1.0 x.1.1 x.0 x.1.2)) v.1, v.2)

pub to_newest : (e : Event) (h : History) (i : ℕ) → Reach h (innermost_task (scopes h)) i → Path (e ∷ h) i (length h)
to_newest e h i (k, n, u) = (path_to_newest e h i).1 (k, inl n, u)
