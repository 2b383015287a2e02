-- The places and the paths say the same.
use mathlib.Core.Path.{◌≡◌, refl, sym, ◌∙◌, subst, subst⁻¹, ap}
use mathlib.Core.Logic.{◌⊎◌, inl, inr, ◌↔◌, ⊎_elim}
use mathlib.Core.List.{List, [], ◌∷◌}
use Prim.Native.Nat.{ℕ}
use native.Mathlib.Omega.{arith}
use lib.ListN.{length}
use Rattle.graph.specs.History.{open_task, open_finish, close, access, History, Scope, task, finish, begun, outward, scopes, innermost_task, Accepted, Place, before, unordered, spot, place, Before, Unordered}
use Rattle.graph.specs.Graph.{Of, Closes, Path}
use Rattle.graph.specs.Theorems.{WordsArePaths}
use Rattle.graph.proofs.OpenScopes.{falling, On}
use Rattle.graph.proofs.Places.{by_eqb, main_open, task_on, task_max, Placed, placed, stays, open_placed}
use Rattle.graph.proofs.Arrows.{closes_older, closes_newest}
use Rattle.graph.proofs.RightPaths.{Right, before_is_not, quiet, to_newest}
use Rattle.graph.proofs.RightOpens.{right_access, right_open_finish, right_open_task}
use Rattle.graph.proofs.RightCloses.{right_close_finish, right_close_task}

pub right : (h : History) → Accepted h → Right h
right [] a = record { reach = λ s o i t of. elim of.put [ ]; under = λ s o i t of. elim of.put [ ]; joined = λ f o i t of. elim of.put [ ]; unjoined = λ i t of. elim of.put [ ] }
right (open_task ∷ h) a = right_open_task h a (right h a)
right (open_finish ∷ h) a = right_open_finish h a (right h a)
right (access c r ∷ h) a = right_access c r h a (right h a)
right (close ∷ h) a = go (scopes h) refl (right h a.0)
  where
    go : (ss : List Scope) → scopes h ≡ ss → Right h → Right (close ∷ h)
    go [] e R = absurd (subst (λ z. On z (task 0)) e (main_open h a.0))
    go (task v ∷ ss) e R = right_close_task h a.0 v ss e R
    go (finish g ∷ ss) e R = right_close_finish h a.0 g ss e R

-- a task is closed, or open, or not yet begun
settled : (h : History) → Accepted h → (t : ℕ) → ((i : ℕ) × Closes h i (task t)) ⊎ (On (scopes h) (task t) ⊎ (place h t ≡ before 0))
settled [] a t = inr (inr refl)
settled (open_task ∷ h) a t = go (settled h a t)
  where
    go : ((i : ℕ) × Closes h i (task t)) ⊎ (On (scopes h) (task t) ⊎ (place h t ≡ before 0)) → ((i : ℕ) × Closes (open_task ∷ h) i (task t)) ⊎ (On (scopes (open_task ∷ h)) (task t) ⊎ (place (open_task ∷ h) t ≡ before 0))
    go (inl c) = inl (c.0, closes_older c.1)
    go (inr (inl o)) = inr (inl (inr o))
    go (inr (inr p)) = ⊎_elim (λ v. inr (inl (inl (ap task (sym v.0))))) (λ v. inr (inr (v.1 ∙ p))) (by_eqb t (begun h) (before t) (place h t))
settled (open_finish ∷ h) a t = ⊎_elim (λ c. inl (c.0, closes_older c.1)) (⊎_elim (λ o. inr (inl (inr o))) (λ p. inr (inr p))) (settled h a t)
settled (access c r ∷ h) a t = ⊎_elim (λ c. inl (c.0, closes_older c.1)) (⊎_elim (λ o. inr (inl o)) (λ p. inr (inr p))) (settled h a t)
settled (close ∷ h) a t = ⊎_elim (λ c. inl (c.0, closes_older c.1)) (⊎_elim (λ o. top (scopes h) refl o) (λ p. inr (inr (stays (begun h) (scopes h) (place h t) (task 0) (falling h) (main_open (close ∷ h) a) (ap spot p) ∙ p)))) (settled h a.0 t)
  where
    top : (ss : List Scope) → scopes h ≡ ss → On ss (task t) → ((i : ℕ) × Closes (close ∷ h) i (task t)) ⊎ (On (outward (scopes h)) (task t) ⊎ (place (close ∷ h) t ≡ before 0))
    top [] e o = absurd o
    top (s ∷ ss) e (inl q) = inl (length h, closes_newest h (task t) ss (e ∙ ap (λ z. z ∷ ss) q))
    top (s ∷ ss) e (inr o) = inr (inl (subst⁻¹ (λ z. On (outward z) (task t)) e o))

-- the close of a task belongs to the task
closes_of : {h : History} {i t : ℕ} → Closes h i (task t) → Of h i t
closes_of c = record { event = close; past = c.past; put = c.put; by = ap innermost_task c.top }

pub event_right : (h : History) → Accepted h → (c r i t : ℕ) → Of h i t → Path (access c r ∷ h) i (length h) ↔ Before h t
event_right h a c r i t of = (λ p. let q = R.reach u u_on i t of (quiet (access c r) h loud i p) in (q.0, q.1), λ b. to_newest (access c r) h i (R.under u u_on i t of (b.0, b.1, task_max (begun h) (scopes h) b.0 (falling h) (subst (Placed (scopes h)) b.1 (placed h a t)))))
  where
    R : Right h
    R = right h a

    u : ℕ
    u = innermost_task (scopes h)

    u_on : On (scopes h) (task u)
    u_on = task_on (scopes h) 0 (main_open h a)

    loud : (f : ℕ) (out : List Scope) → close ≡ access c r → scopes h ≡ finish f ∷ out → ⊥
    loud f out e t = let z : ◌≡◌ {A = ℕ} 0 1 = cc in omega arith

-- one of the two words
pub word : (h : History) (t : ℕ) → Before h t ⊎ Unordered h t
word h t = go (place h t) refl
  where
    go : (p : Place) → place h t ≡ p → Before h t ⊎ Unordered h t
    go (before s) e = inl (s, e)
    go (unordered s) e = inr (s, e)

pub words_are_paths : WordsArePaths
words_are_paths h a = record {
  event = event_right h a;
  closed = λ c r t. (λ f. there c r t f (settled h a t), λ v. ⊎_elim (λ b. absurd (v.2 ((event_right h a c r v.0 t (closes_of v.1)).1 b))) (λ f. f) (word h t));
}
  where
    there : (c r t : ℕ) → Unordered h t → ((i : ℕ) × Closes h i (task t)) ⊎ (On (scopes h) (task t) ⊎ (place h t ≡ before 0)) → (i : ℕ) × Closes h i (task t) × (¬ Path (access c r ∷ h) i (length h))
    there c r t (s, e) (inl (i, x)) = (i, x, (λ p. let b = (event_right h a c r i t (closes_of x)).0 p in before_is_not b.0 s (sym b.1 ∙ e)))
    there c r t (s, e) (inr (inl o)) = before_is_not t s (sym (open_placed h t o) ∙ e)
    there c r t (s, e) (inr (inr p)) = before_is_not 0 s (sym p ∙ e)
