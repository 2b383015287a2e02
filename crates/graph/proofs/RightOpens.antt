-- Opens and accesses keep places and paths right.
use mathlib.Core.Path.{◌≡◌, refl, sym, ◌∙◌, subst, subst⁻¹, ap}
use mathlib.Core.Logic.{◌⊎◌, inl, inr, ⊎_elim}
use mathlib.Core.List.{List, ◌∷◌}
use Prim.Native.Nat.{ℕ, ◌<◌, ◌≤◌}
use native.Mathlib.Omega.{arith}
use native.Mathlib.Decide.{ℕ_discrete}
use lib.ListN.{length}
use Rattle.graph.specs.History.{Event, open_task, open_finish, close, access, History, Scope, task, finish, number, begun, scopes, innermost_task, Accepted, before, unordered, spot, place}
use Rattle.graph.specs.Graph.{Of, Path}
use Rattle.graph.proofs.OpenScopes.{falling, On, on_below, task_below, begun_pos}
use Rattle.graph.proofs.Places.{by_eqb, main_open, task_on, task_max, Placed, placed, placed_below}
use Rattle.graph.proofs.Arrows.{of_cases, of_lt, of_begun, within_begun, Joins, joins_older, joins_cases, joins_lt, Next, Upto, upto_older, upto_back, upto_le, next_own, next_own_is, next_new, next_new_is}
use Rattle.graph.proofs.RightPaths.{FinishFrom, Reach, Right, Under, before_is_not, finish_is_not, newest_reach_not, other_reach, own_place, quiet, reach_other, to_newest}

-- The steps that close nothing: the places of the tasks begun stay, and the new scope, if any, is inward of the others.
module _ (e : Event) (h : History) (a : Accepted h) (quiet-e : (f : ℕ) (out : List Scope) → close ≡ e → scopes h ≡ finish f ∷ out → ⊥)
    (same : (t : ℕ) → t < begun h → place (e ∷ h) t ≡ place h t) (R : Right h) where
  pub u : ℕ
  u = innermost_task (scopes h)

  u_begun : u < begun h
  unfolding u
  u_begun = task_below (begun h) (scopes h) (falling h) (begun_pos h)

  -- an open task, with the events that reach the newest one
  step_reach : (s : ℕ) → On (scopes h) (task s) → (i t : ℕ) → Of (e ∷ h) i t → Reach (e ∷ h) s i → Under (e ∷ h) t s
  unfolding u
  step_reach s o i t of r = go (ℕ_discrete s u) (of_cases of)
    where
      l : s < begun h
      l = on_below (begun h) (scopes h) (task s) (falling h) o

      move : Of h i t → Under h t s → Under (e ∷ h) t s
      move x (q, p, m) = (q, same t (of_begun x) ∙ p, m)

      go : Dec (s ≡ u) → ((i ≡ length h) × (u ≡ t)) ⊎ Of h i t → Under (e ∷ h) t s
      go (yes p) (inl v) = (u, ap (place (e ∷ h)) (sym v.1) ∙ (same u u_begun ∙ own_place h a), omega arith)
      go (yes p) (inr x) = move x (R.reach s o i t x (subst⁻¹ (λ z. Reach h z i) p (quiet e h quiet-e i (at_newest x (next_own_is e h r.0 (subst (λ z. Next (e ∷ h) z r.0) p r.1)) r.2))))
        where
          at_newest : Of h i t → r.0 ≡ length h → Upto (e ∷ h) i r.0 → Path (e ∷ h) i (length h)
          at_newest x q (inl w) = let z = of_lt x in absurd (omega arith)
          at_newest x q (inr w) = subst (λ z. Path (e ∷ h) i z) q w
      go (no d) (inl v) = absurd (newest_reach_not e h s i d l v.0 r)
      go (no d) (inr x) = move x (R.reach s o i t x (reach_other e h s i d l r))

  step_under : (s : ℕ) → On (scopes h) (task s) → (i t : ℕ) → Of (e ∷ h) i t → Under (e ∷ h) t s → Reach (e ∷ h) s i
  unfolding u
  step_under s o i t of (q, p, m) = go (ℕ_discrete s u) (of_cases of)
    where
      go : Dec (s ≡ u) → ((i ≡ length h) × (u ≡ t)) ⊎ Of h i t → Reach (e ∷ h) s i
      go (yes w) (inl v) = (length h, subst⁻¹ (λ z. Next (e ∷ h) z (length h)) w (next_own e h), inl v.0)
      go (yes w) (inr x) = (length h, subst⁻¹ (λ z. Next (e ∷ h) z (length h)) w (next_own e h), inr (to_newest e h i (subst (λ z. Reach h z i) w (R.under s o i t x (q, sym (same t (of_begun x)) ∙ p, m)))))
      go (no d) (inl v) =
          let z : u ≡ q = ap spot (sym (same u u_begun ∙ own_place h a) ∙ (ap (place (e ∷ h)) v.1 ∙ p)) in
          let y = task_max (begun h) (scopes h) s (falling h) o in
          absurd (d (omega arith))
      go (no d) (inr x) = other_reach e h s i d (R.under s o i t x (q, sym (same t (of_begun x)) ∙ p, m))

  step_joined : (f : ℕ) → On (scopes h) (finish f) → (i t : ℕ) → Of (e ∷ h) i t → (k : ℕ) → Joins h k f → Upto (e ∷ h) i k → (s : ℕ) → place (e ∷ h) t ≡ unordered s → f ≤ s
  step_joined f o i t of k j w s p = go (of_cases of)
    where
      go : ((i ≡ length h) × (innermost_task (scopes h) ≡ t)) ⊎ Of h i t → f ≤ s
      go (inl v) = let l = joins_lt j in let m = upto_le i k w in absurd (omega (arith, v.0))
      go (inr x) = R.joined f o i t x k j (upto_back i k (joins_lt j) w) s (sym (same t (of_begun x)) ∙ p)

  step_unjoined : (i t : ℕ) → Of (e ∷ h) i t → (s : ℕ) → place (e ∷ h) t ≡ unordered s → (f : ℕ) → FinishFrom (scopes h) s f → (k : ℕ) × Joins (e ∷ h) k f × Upto (e ∷ h) i k
  unfolding u
  step_unjoined i t of s p f w = go (of_cases of)
    where
      go : ((i ≡ length h) × (u ≡ t)) ⊎ Of h i t → (k : ℕ) × Joins (e ∷ h) k f × Upto (e ∷ h) i k
      go (inl v) = before_is_not u s (sym (same u u_begun ∙ own_place h a) ∙ (ap (place (e ∷ h)) v.1 ∙ p))
      go (inr x) = let r = R.unjoined i t x s (sym (same t (of_begun x)) ∙ p) f w in (r.0, joins_older r.1, upto_older i r.0 r.2)

  -- no task is placed at a scope that is not yet begun
  step_spot : (i t : ℕ) → Of (e ∷ h) i t → (s : ℕ) → place (e ∷ h) t ≡ unordered s → s < begun h
  unfolding u
  step_spot i t of s p = let l = placed_below (begun h) (scopes h) (place h t) (falling h) (placed h a t) in let m = ap spot (sym (same t begun_t) ∙ p) in omega arith
    where
      begun_t : t < begun h
      begun_t = ⊎_elim (λ v. let l = u_begun in omega (arith, v.1)) of_begun (of_cases of)

close_is_not : (e : Event) → ((close ≡ e) → ⊥) → {h : History} {k f : ℕ} → Joins (e ∷ h) k f → Joins h k f
close_is_not e n j = ⊎_elim (λ v. absurd (n v.1)) (λ x. x) (joins_cases j)

pub right_access : (c r : ℕ) (h : History) → Accepted h → Right h → Right (access c r ∷ h)
right_access c r h a R = record {
  reach = step_reach (access c r) h a loud (λ t l. refl) R;
  under = step_under (access c r) h a loud (λ t l. refl) R;
  joined = λ f o i t of k j. step_joined (access c r) h a loud (λ t l. refl) R f o i t of k (close_is_not (access c r) never j);
  unjoined = step_unjoined (access c r) h a loud (λ t l. refl) R;
}
  where
    never : close ≡ access c r → ⊥
    never e = let z : ◌≡◌ {A = ℕ} 0 1 = cc in omega arith

    loud : (f : ℕ) (out : List Scope) → close ≡ access c r → scopes h ≡ finish f ∷ out → ⊥
    loud f out e t = never e

pub right_open_finish : (h : History) → Accepted h → Right h → Right (open_finish ∷ h)
right_open_finish h a R = record {
  reach = λ s. ⊎_elim (λ e. finish_is_not (begun h) s e) (step_reach open_finish h a loud (λ t l. refl) R s);
  under = λ s. ⊎_elim (λ e. finish_is_not (begun h) s e) (step_under open_finish h a loud (λ t l. refl) R s);
  joined = λ f. ⊎_elim (λ e i t of k j. let l = within_begun (close_is_not open_finish never j).within in let m = ap number e in absurd (omega arith)) (λ o i t of k j. step_joined open_finish h a loud (λ t l. refl) R f o i t of k (close_is_not open_finish never j));
  unjoined = λ i t of s p f. ⊎_elim (λ v. let l = step_spot open_finish h a loud (λ t l. refl) R i t of s p in absurd (omega (arith, v.0))) (step_unjoined open_finish h a loud (λ t l. refl) R i t of s p f);
}
  where
    never : close ≡ open_finish → ⊥
    never e = let z : ◌≡◌ {A = ℕ} 0 1 = cc in omega arith

    loud : (f : ℕ) (out : List Scope) → close ≡ open_finish → scopes h ≡ finish f ∷ out → ⊥
    loud f out e t = never e

pub right_open_task : (h : History) → Accepted h → Right h → Right (open_task ∷ h)
right_open_task h a R = record {
  reach = λ s. ⊎_elim (λ e i t of r. new_reach s (sym (ap number e)) i t (of_cases of) r) (step_reach open_task h a loud same R s);
  under = λ s. ⊎_elim (λ e i t of r. new_under s (sym (ap number e)) i t (of_cases of) r) (step_under open_task h a loud same R s);
  joined = λ f. ⊎_elim (λ e. finish_is_not f (begun h) (sym e)) (λ o i t of k j. step_joined open_task h a loud same R f o i t of k (close_is_not open_task never j));
  unjoined = λ i t of s p f. ⊎_elim (λ v. let l = step_spot open_task h a loud same R i t of s p in absurd (omega (arith, v.0))) (step_unjoined open_task h a loud same R i t of s p f);
}
  where
    u : ℕ
    u = innermost_task (scopes h)

    u_begun : u < begun h
    u_begun = task_below (begun h) (scopes h) (falling h) (begun_pos h)

    u_on : On (scopes h) (task u)
    u_on = task_on (scopes h) 0 (main_open h a)

    never : close ≡ open_task → ⊥
    never e = let z : ◌≡◌ {A = ℕ} 0 1 = cc in omega arith

    loud : (f : ℕ) (out : List Scope) → close ≡ open_task → scopes h ≡ finish f ∷ out → ⊥
    loud f out e t = never e

    same : (t : ℕ) → t < begun h → place (open_task ∷ h) t ≡ place h t
    same t l = ⊎_elim (λ v. absurd (omega (arith, v.0))) (λ v. v.1) (by_eqb t (begun h) (before t) (place h t))

    new_reach : (s : ℕ) → s ≡ begun h → (i t : ℕ) → ((i ≡ length h) × (u ≡ t)) ⊎ Of h i t → Reach (open_task ∷ h) s i → Under (open_task ∷ h) t s
    new_reach s e i t (inl v) r = (u, ap (place (open_task ∷ h)) (sym v.1) ∙ (same u u_begun ∙ own_place h a), omega (arith, u_begun))
    new_reach s e i t (inr x) (k, n, w) =
        let q = R.reach u u_on i t x (quiet open_task h loud i (at_newest (next_new_is h k (subst (λ z. Next (open_task ∷ h) z k) e n)) w)) in
        (q.0, same t (of_begun x) ∙ q.1, omega (arith, u_begun, q.2))
      where
        at_newest : k ≡ length h → Upto (open_task ∷ h) i k → Path (open_task ∷ h) i (length h)
        at_newest q (inl y) = let z = of_lt x in absurd (omega arith)
        at_newest q (inr y) = subst (λ z. Path (open_task ∷ h) i z) q y

    new_under : (s : ℕ) → s ≡ begun h → (i t : ℕ) → ((i ≡ length h) × (u ≡ t)) ⊎ Of h i t → Under (open_task ∷ h) t s → Reach (open_task ∷ h) s i
    new_under s e i t (inl v) r = (length h, subst⁻¹ (λ z. Next (open_task ∷ h) z (length h)) e (next_new h), inl v.0)
    new_under s e i t (inr x) (q, p, m) =
        let p' = sym (same t (of_begun x)) ∙ p in
        let l = task_max (begun h) (scopes h) q (falling h) (subst (Placed (scopes h)) p' (placed h a t)) in
        (length h, subst⁻¹ (λ z. Next (open_task ∷ h) z (length h)) e (next_new h), inr (to_newest open_task h i (R.under u u_on i t x (q, p', l))))
