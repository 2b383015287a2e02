-- Arrows and paths lead from earlier to later events.
use mathlib.Core.Path.{◌≡◌, refl, sym, ◌∙◌, subst, subst⁻¹, ap}
use mathlib.Core.Logic.{◌⊎◌, inl, inr}
use mathlib.Core.List.{◌∷◌}
use Prim.Native.Nat.{ℕ, ◌<◌}
use native.Mathlib.Omega.{arith}
use lib.ListN.{length}
use Rattle.graph.specs.History.{open_task, close, History, task, finish, number, begun, outward, scopes, innermost, innermost_task}
use Rattle.graph.specs.Graph.{Of, Opens, Closes, Within, Arrow, continue, spawn, join, Path, arrow, ◌then◌}
use Rattle.graph.proofs.OpenScopes.{Falling, falling, On, on_below, task_below, begun_pos, finish_on, begun_mono, was_open, put_lt, put_tail, put_same, put_before, put_past, ordered}

-- an event of a task comes after the task was opened
pub opened_first : (h : History) (i j t : ℕ) → Opens h i t → Of h j t → i < j
opened_first h i j t op of = go (ordered i j)
  where
    below : innermost_task (scopes of.past) < begun of.past
    below = task_below (begun of.past) (scopes of.past) (falling of.past) (begun_pos of.past)

    go : (i < j) ⊎ ((i ≡ j) ⊎ (j < i)) → i < j
    go (inl l) = l
    go (inr (inl e)) = let b = ap begun (put_same op.put of.put e).1 in omega (arith, below)
    go (inr (inr l)) = let b = begun_mono (put_past (put_before of.put op.put l)) in omega (arith, below)

-- the closes that a join arrow leads between
join_up : (h : History) (i j t f : ℕ) → Closes h i (task t) → Closes h j (finish f) → Within h t f → i < j
join_up h i j t f ci cj w = go (ordered i j)
  where
    home : On (scopes w.past) (finish f)
    home = finish_on (scopes w.past) f w.home

    f_below : f < begun w.past
    f_below = on_below (begun w.past) (scopes w.past) (finish f) (falling w.past) home

    stack_j : Falling (begun cj.past) (finish f ∷ cj.out)
    stack_j = subst (Falling (begun cj.past)) cj.top (falling cj.past)

    task_i : On (scopes ci.past) (task t)
    task_i = subst⁻¹ (λ ss. On ss (task t)) ci.top (inl refl)

    at_j : On (finish f ∷ cj.out) (task t) → ⊥
    at_j (inl e) = let d = ap number e in omega (arith, f_below, w.next)
    at_j (inr o) = let d = on_below f cj.out (task t) stack_j.1 o in omega (arith, f_below, w.next)

    between : j < i → (j < w.at) ⊎ ((j ≡ w.at) ⊎ (w.at < j)) → ⊥
    between l (inl k) =
        let o = was_open (put_tail (put_before cj.put w.put k)) (finish f) home stack_j.0 in
        let d = on_below f cj.out (finish f) stack_j.1 (subst (λ ss. On (outward ss) (finish f)) cj.top o) in
        omega arith
    between l (inr (inl e)) =
        let s = put_same cj.put w.put e in
        let d : begun (close ∷ w.past) ≡ begun (open_task ∷ w.past) = ap (λ e. begun (e ∷ w.past)) s.0 in
        omega arith
    between l (inr (inr k)) =
        let b = begun_mono (put_tail (put_before w.put cj.put k)) in
        at_j (subst (λ ss. On ss (task t)) cj.top (was_open (put_past (put_before cj.put ci.put l)) (task t) task_i (omega (arith, w.next))))

    go : (i < j) ⊎ ((i ≡ j) ⊎ (j < i)) → i < j
    go (inl l) = l
    go (inr (inl e)) =
        let d : t ≡ f = sym (ap innermost ci.top) ∙ (ap (λ p. innermost (scopes p)) (put_same ci.put cj.put e).1 ∙ ap innermost cj.top) in
        omega (arith, f_below, w.next)
    go (inr (inr l)) = absurd (between l (ordered j w.at))

pub arrow_up : {h : History} {i j : ℕ} → Arrow h i j → i < j
arrow_up (continue a b l n) = l
arrow_up {h} {i} {j} (spawn {t = t} a b n) = opened_first h i j t a b
arrow_up {h} {i} {j} (join {t = t} {f = f} a b w) = join_up h i j t f a b w

pub arrow_end : {h : History} {i j : ℕ} → Arrow h i j → j < length h
arrow_end (continue a b l n) = put_lt b.put
arrow_end (spawn a b n) = put_lt b.put
arrow_end (join a b w) = put_lt b.put

pub path_up : {h : History} {i j : ℕ} → Path h i j → i < j
path_up (arrow a) = arrow_up a
path_up (p then a) = let k = path_up p in let l = arrow_up a in omega arith

pub path_end : {h : History} {i j : ℕ} → Path h i j → j < length h
path_end (arrow a) = arrow_end a
path_end (p then a) = arrow_end a

pub path_trans : {h : History} {i j k : ℕ} → Path h i j → Path h j k → Path h i k
path_trans p (arrow a) = p then a
path_trans p (q then a) = (path_trans p q) then a
