-- Closes keep places and paths right.
use mathlib.Core.Path.{◌≡◌, refl, sym, ◌∙◌, subst, subst⁻¹, ap}
use mathlib.Core.Logic.{◌⊎◌, inl, inr, ◌≢◌, ⊎_elim}
use mathlib.Core.List.{List, [], ◌∷◌}
use Prim.Native.Nat.{ℕ, ◌<◌, ◌≤◌}
use native.Mathlib.Omega.{arith}
use native.Mathlib.Decide.{ℕ_discrete}
use lib.ListN.{length}
use Rattle.graph.specs.History.{open_task, open_finish, close, access, History, Scope, task, finish, number, begun, outward, scopes, innermost, innermost_task, InnermostFinish, Accepted, Place, before, unordered, spot, moved, place}
use Rattle.graph.specs.Graph.{newest, Of, Within, Path}
use Rattle.graph.proofs.OpenScopes.{Falling, falling, On, on_below, on_outward}
use Rattle.graph.proofs.Places.{by_eqb, main_open, task_on, task_max, inner_max, Placed, placed, placed_max, open_placed}
use Rattle.graph.proofs.Arrows.{of_cases, of_lt, closes_newest, within_older, Joins, joins_older, joins_cases, joins_lt, Next, Into, Upto, upto_older, upto_back, path_to_newest, next_own, next_own_is}
use Rattle.graph.proofs.RightPaths.{FinishFrom, Reach, Right, Under, before_is_not, finish_is_not, newest_reach_not, other_reach, own_place, quiet, reach_other, to_newest}

ff_below : (k : ℕ) (ss : List Scope) (s f : ℕ) → Falling k ss → FinishFrom ss s f → s < k
ff_below k [] s f l w = absurd w
ff_below k (x ∷ ss) s f l (inl v) = omega (arith, v.0)
ff_below k (x ∷ ss) s f l (inr w) = let m = ff_below (number x) ss s f l.1 w in omega arith

ff_top : (k : ℕ) (ss : List Scope) (s f : ℕ) → Falling k ss → s ≡ innermost ss → FinishFrom ss s f → InnermostFinish ss f
ff_top k [] s f l e w = absurd w
ff_top k (x ∷ ss) s f l e (inl v) = v.1
ff_top k (x ∷ ss) s f l e (inr w) = let m = ff_below (number x) ss s f l.1 w in absurd (omega arith)

-- the open task t lies within the finish f
abbrev Home : List Scope → ℕ → ℕ → Type 0
Home [] t f = ⊥
Home (task s ∷ ss) t f = ((s ≡ t) × InnermostFinish ss f) ⊎ Home ss t f
Home (finish g ∷ ss) t f = Home ss t f

home_outward : (ss : List Scope) (t f : ℕ) → Home (outward ss) t f → Home ss t f
home_outward [] t f w = absurd w
home_outward (task s ∷ ss) t f w = inr w
home_outward (finish g ∷ ss) t f w = w

home_within : (h : History) (t f : ℕ) → Home (scopes h) t f → Within h t f
home_within [] t f (inl v) = absurd v.1
home_within [] t f (inr w) = absurd w
home_within (open_task ∷ h) t f (inl v) = record { at = length h; past = h; put = newest; next = v.0; home = v.1 }
home_within (open_task ∷ h) t f (inr w) = within_older (home_within h t f w)
home_within (open_finish ∷ h) t f w = within_older (home_within h t f w)
home_within (close ∷ h) t f w = within_older (home_within h t f (home_outward (scopes h) t f w))
home_within (access c r ∷ h) t f w = within_older (home_within h t f w)

pub tops_differ : (ss a b : List Scope) (t f : ℕ) → ss ≡ task t ∷ a → ss ≡ finish f ∷ b → ⊥
tops_differ ss a b t f p q = let z : ◌≡◌ {A = ℕ} 0 1 = cc in omega arith

-- a task closes
module _ (h : History) (a : Accepted h) (v : ℕ) (ss : List Scope) (top : scopes h ≡ task v ∷ ss) (R : Right h) where
  ct_fall : Falling v ss
  ct_fall = (subst (Falling (begun h)) top (falling h)).1

  ct_view : (t : ℕ) → ((spot (place h t) ≡ v) × (place (close ∷ h) t ≡ unordered (innermost ss))) ⊎ ((spot (place h t) ≢ v) × (place (close ∷ h) t ≡ place h t))
  ct_view t = subst⁻¹ (λ z. ((spot (place h t) ≡ v) × (moved z (place h t) ≡ unordered (innermost ss))) ⊎ ((spot (place h t) ≢ v) × (moved z (place h t) ≡ place h t))) top (by_eqb (spot (place h t)) v (unordered (innermost ss)) (place h t))

  ct_v_on : On (scopes h) (task v)
  ct_v_on = subst⁻¹ (λ z. On z (task v)) top (inl refl)

  ct_own : innermost_task (scopes h) ≡ v
  ct_own = ap innermost_task top

  ct_place : (t : ℕ) → innermost_task (scopes h) ≡ t → place h t ≡ before v
  ct_place t e = ap (place h) (sym e ∙ ct_own) ∙ open_placed h v ct_v_on

  ct_out : (x : Scope) → On (outward (scopes h)) x → On ss x
  ct_out x o = subst (λ z. On (outward z) x) top o

  ct_path : (i : ℕ) → Path (close ∷ h) i (length h) → Reach h v i
  ct_path i p = subst (λ z. Reach h z i) ct_own (quiet close h (λ f out e q. tops_differ (scopes h) ss out v f top q) i p)

  ct_reach : (s : ℕ) → On (outward (scopes h)) (task s) → (i t : ℕ) → Of (close ∷ h) i t → Reach (close ∷ h) s i → Under (close ∷ h) t s
  ct_reach s o i t of r = go (of_cases of)
    where
      l : s < v
      l = on_below v ss (task s) ct_fall (ct_out (task s) o)

      d : s ≢ innermost_task (scopes h)
      d e = omega (arith, l, ct_own)

      b : s < begun h
      b = on_below (begun h) (scopes h) (task s) (falling h) (on_outward (scopes h) (task s) o)

      go : ((i ≡ length h) × (innermost_task (scopes h) ≡ t)) ⊎ Of h i t → Under (close ∷ h) t s
      go (inl y) = absurd (newest_reach_not close h s i d b y.0 r)
      go (inr x) =
          let q = R.reach s (on_outward (scopes h) (task s) o) i t x (reach_other close h s i d b r) in
          ⊎_elim (λ y. let z = ap spot q.1 in absurd (omega (arith, l, y.0, q.2))) (λ y. (q.0, y.1 ∙ q.1, q.2)) (ct_view t)

  ct_under : (s : ℕ) → On (outward (scopes h)) (task s) → (i t : ℕ) → Of (close ∷ h) i t → Under (close ∷ h) t s → Reach (close ∷ h) s i
  ct_under s o i t of (q, p, m) = go (of_cases of) (ct_view t)
    where
      d : s ≢ innermost_task (scopes h)
      d e = let l = on_below v ss (task s) ct_fall (ct_out (task s) o) in omega (arith, ct_own)

      go : ((i ≡ length h) × (innermost_task (scopes h) ≡ t)) ⊎ Of h i t → ((spot (place h t) ≡ v) × (place (close ∷ h) t ≡ unordered (innermost ss))) ⊎ ((spot (place h t) ≢ v) × (place (close ∷ h) t ≡ place h t)) → Reach (close ∷ h) s i
      go x (inl y) = before_is_not q (innermost ss) (sym p ∙ y.1)
      go (inl x) (inr y) = absurd (y.0 (ap spot (ct_place t x.1)))
      go (inr x) (inr y) = other_reach close h s i d (R.under s (on_outward (scopes h) (task s) o) i t x (q, sym y.1 ∙ p, m))

  ct_joined : (f : ℕ) → On (outward (scopes h)) (finish f) → (i t : ℕ) → Of (close ∷ h) i t → (k : ℕ) → Joins (close ∷ h) k f → Upto (close ∷ h) i k → (s : ℕ) → place (close ∷ h) t ≡ unordered s → f ≤ s
  ct_joined f o i t of k j w s p = go (ct_view t) (of_cases of) (joins_cases j)
    where
      go : ((spot (place h t) ≡ v) × (place (close ∷ h) t ≡ unordered (innermost ss))) ⊎ ((spot (place h t) ≢ v) × (place (close ∷ h) t ≡ place h t)) → ((i ≡ length h) × (innermost_task (scopes h) ≡ t)) ⊎ Of h i t → ((k ≡ length h) × (close ≡ close) × ((t : ℕ) × (out : List Scope) × (scopes h ≡ task t ∷ out))) ⊎ Joins h k f → f ≤ s
      go (inl y) x z = let e = ap spot (sym p ∙ y.1) in let m = inner_max v ss (finish f) ct_fall (ct_out (finish f) o) in omega arith
      go (inr y) (inl x) z = before_is_not v s (sym (ct_place t x.1) ∙ (sym y.1 ∙ p))
      go (inr y) (inr x) (inl z) = let q = R.reach v ct_v_on i t x (ct_path i (at_newest z.0 w)) in before_is_not q.0 s (sym q.1 ∙ (sym y.1 ∙ p))
        where
          at_newest : k ≡ length h → Upto (close ∷ h) i k → Path (close ∷ h) i (length h)
          at_newest q (inl e) = let l = of_lt x in absurd (omega arith)
          at_newest q (inr e) = subst (λ z. Path (close ∷ h) i z) q e
      go (inr y) (inr x) (inr z) = R.joined f (on_outward (scopes h) (finish f) o) i t x k z (upto_back i k (joins_lt z) w) s (sym y.1 ∙ p)

  ct_unjoined : (i t : ℕ) → Of (close ∷ h) i t → (s : ℕ) → place (close ∷ h) t ≡ unordered s → (f : ℕ) → FinishFrom (outward (scopes h)) s f → (k : ℕ) × Joins (close ∷ h) k f × Upto (close ∷ h) i k
  ct_unjoined i t of s p f w = go (ct_view t) (of_cases of)
    where
      w' : FinishFrom ss s f
      w' = subst (λ z. FinishFrom (outward z) s f) top w

      inner : s ≡ innermost ss → InnermostFinish ss f
      inner e = ff_top v ss s f ct_fall e w'

      new : s ≡ innermost ss → Joins (close ∷ h) (length h) f
      new e = record { ended = v; closes = closes_newest h (task v) ss top; within = within_older (home_within h v f (subst⁻¹ (λ z. Home z v f) top (inl (refl, inner e)))) }

      lift : (k : ℕ) × Joins h k f × Upto h i k → (k : ℕ) × Joins (close ∷ h) k f × Upto (close ∷ h) i k
      lift (k, j, y) = (k, joins_older j, upto_older i k y)

      at_v : (q : Place) → place h t ≡ q → spot q ≡ v → s ≡ innermost ss → Of h i t → (k : ℕ) × Joins (close ∷ h) k f × Upto (close ∷ h) i k
      at_v (before q) e n m x = (length h, new m, inr (to_newest close h i (subst⁻¹ (λ z. Reach h z i) ct_own (R.under v ct_v_on i t x (q, e, omega arith)))))
      at_v (unordered q) e n m x = lift (R.unjoined i t x q e f (subst⁻¹ (λ z. FinishFrom z q f) top (inl (sym n, inner m))))

      go : ((spot (place h t) ≡ v) × (place (close ∷ h) t ≡ unordered (innermost ss))) ⊎ ((spot (place h t) ≢ v) × (place (close ∷ h) t ≡ place h t)) → ((i ≡ length h) × (innermost_task (scopes h) ≡ t)) ⊎ Of h i t → (k : ℕ) × Joins (close ∷ h) k f × Upto (close ∷ h) i k
      go (inl y) (inl x) = (length h, new (ap spot (sym p ∙ y.1)), inl x.0)
      go (inl y) (inr x) = at_v (place h t) refl y.0 (ap spot (sym p ∙ y.1)) x
      go (inr y) (inl x) = absurd (y.0 (ap spot (ct_place t x.1)))
      go (inr y) (inr x) = lift (R.unjoined i t x s (sym y.1 ∙ p) f (subst⁻¹ (λ z. FinishFrom z s f) top (inr w')))

  pub right_close_task : Right (close ∷ h)
  right_close_task = record { reach = ct_reach; under = ct_under; joined = ct_joined; unjoined = ct_unjoined }

-- a finish closes
module _ (h : History) (a : Accepted h) (g : ℕ) (ss : List Scope) (top : scopes h ≡ finish g ∷ ss) (R : Right h) where
  cf_fall : Falling g ss
  cf_fall = (subst (Falling (begun h)) top (falling h)).1

  cf_view : (t : ℕ) → ((spot (place h t) ≡ g) × (place (close ∷ h) t ≡ before (innermost_task ss))) ⊎ ((spot (place h t) ≢ g) × (place (close ∷ h) t ≡ place h t))
  cf_view t = subst⁻¹ (λ z. ((spot (place h t) ≡ g) × (moved z (place h t) ≡ before (innermost_task ss))) ⊎ ((spot (place h t) ≢ g) × (moved z (place h t) ≡ place h t))) top (by_eqb (spot (place h t)) g (before (innermost_task ss)) (place h t))

  cf_own : innermost_task (scopes h) ≡ innermost_task ss
  cf_own = ap innermost_task top

  cf_on : On (scopes h) (task (innermost_task (scopes h)))
  cf_on = task_on (scopes h) 0 (main_open h a)

  cf_inward : (s : ℕ) → On (scopes h) (task s) → s < g
  cf_inward s o = ⊎_elim (λ e. finish_is_not g s e) (on_below g ss (task s) cf_fall) (subst (λ z. On z (task s)) top o)

  cf_place : (t : ℕ) → innermost_task (scopes h) ≡ t → place h t ≡ before (innermost_task (scopes h))
  cf_place t e = ap (place h) (sym e) ∙ own_place h a

  cf_place_after : (t : ℕ) → innermost_task (scopes h) ≡ t → place (close ∷ h) t ≡ before (innermost_task (scopes h))
  cf_place_after t e = ⊎_elim (λ y. y.1 ∙ ap before (sym cf_own)) (λ y. y.1 ∙ cf_place t e) (cf_view t)

  -- an event that reaches the close of the finish, of a task that is placed elsewhere, is before
  cf_through : (i t : ℕ) → Of h i t → Path (close ∷ h) i (length h) → spot (place h t) ≢ g → (q : ℕ) × (place h t ≡ before q)
  cf_through i t x p n = let r = (path_to_newest close h i).0 p in go r.0 r.1 r.2
    where
      spot_max : spot (place h t) ≤ g
      spot_max = let l = placed_max (begun h) (scopes h) (place h t) (falling h) (placed h a t) in let e = ap innermost top in omega arith

      joins : (k : ℕ) → Joins h k g → Upto h i k → (q : Place) → place h t ≡ q → (q : ℕ) × (place h t ≡ before q)
      joins k j w (before q) e = (q, e)
      joins k j w (unordered q) e =
          let l = R.joined g (subst⁻¹ (λ z. On z (finish g)) top (inl refl)) i t x k j w q e in
          let m = ap spot e in
          absurd (n (omega (arith, spot_max)))

      go : (k : ℕ) → Into close h k → Upto h i k → (q : ℕ) × (place h t ≡ before q)
      go k (inl y) w = let q = R.reach (innermost_task (scopes h)) cf_on i t x (k, y, w) in (q.0, q.1)
      go k (inr (c, (f, out, top', j))) w = joins k (subst (Joins h k) (ap innermost (sym top' ∙ top)) j) w (place h t) refl

  cf_reach : (s : ℕ) → On (outward (scopes h)) (task s) → (i t : ℕ) → Of (close ∷ h) i t → Reach (close ∷ h) s i → Under (close ∷ h) t s
  cf_reach s o i t of r = go (ℕ_discrete s (innermost_task (scopes h))) (of_cases of) (cf_view t)
    where
      oh : On (scopes h) (task s)
      oh = on_outward (scopes h) (task s) o

      l : s < g
      l = cf_inward s oh

      b : s < begun h
      b = on_below (begun h) (scopes h) (task s) (falling h) oh

      go : Dec (s ≡ innermost_task (scopes h)) → ((i ≡ length h) × (innermost_task (scopes h) ≡ t)) ⊎ Of h i t → ((spot (place h t) ≡ g) × (place (close ∷ h) t ≡ before (innermost_task ss))) ⊎ ((spot (place h t) ≢ g) × (place (close ∷ h) t ≡ place h t)) → Under (close ∷ h) t s
      go (yes d) (inl x) y = (innermost_task (scopes h), cf_place_after t x.1, omega arith)
      go (yes d) (inr x) (inl y) = (innermost_task ss, y.1, omega (arith, cf_own))
      go (yes d) (inr x) (inr y) =
          let q = cf_through i t x (at_newest (next_own_is close h r.0 (subst (λ z. Next (close ∷ h) z r.0) d r.1)) r.2) y.0 in
          let m = task_max (begun h) (scopes h) q.0 (falling h) (subst (Placed (scopes h)) q.1 (placed h a t)) in
          (q.0, y.1 ∙ q.1, omega arith)
        where
          at_newest : r.0 ≡ length h → Upto (close ∷ h) i r.0 → Path (close ∷ h) i (length h)
          at_newest q (inl e) = let l = of_lt x in absurd (omega arith)
          at_newest q (inr e) = subst (λ z. Path (close ∷ h) i z) q e
      go (no d) (inl x) y = absurd (newest_reach_not close h s i d b x.0 r)
      go (no d) (inr x) y =
          let q = R.reach s oh i t x (reach_other close h s i d b r) in
          ⊎_elim (λ z. let e = ap spot q.1 in absurd (omega (arith, l, z.0, q.2))) (λ z. (q.0, z.1 ∙ q.1, q.2)) y

  cf_under : (s : ℕ) → On (outward (scopes h)) (task s) → (i t : ℕ) → Of (close ∷ h) i t → Under (close ∷ h) t s → Reach (close ∷ h) s i
  cf_under s o i t of (q, p, m) = go (ℕ_discrete s (innermost_task (scopes h))) (of_cases of) (cf_view t)
    where
      oh : On (scopes h) (task s)
      oh = on_outward (scopes h) (task s) o

      max : s ≤ innermost_task (scopes h)
      max = task_max (begun h) (scopes h) s (falling h) oh

      new : s ≡ innermost_task (scopes h) → Upto (close ∷ h) i (length h) → Reach (close ∷ h) s i
      new d w = (length h, subst⁻¹ (λ z. Next (close ∷ h) z (length h)) d (next_own close h), w)

      at_g : (p : Place) → place h t ≡ p → spot p ≡ g → Of h i t → Path (close ∷ h) i (length h)
      at_g (before q) e n x = let l = cf_inward q (subst (Placed (scopes h)) e (placed h a t)) in absurd (omega arith)
      at_g (unordered q) e n x =
          let r = R.unjoined i t x q e g (subst⁻¹ (λ z. FinishFrom z q g) top (inl (sym n, refl))) in
          (path_to_newest close h i).1 (r.0, inr (refl, (g, ss, top, r.1)), r.2)

      go : Dec (s ≡ innermost_task (scopes h)) → ((i ≡ length h) × (innermost_task (scopes h) ≡ t)) ⊎ Of h i t → ((spot (place h t) ≡ g) × (place (close ∷ h) t ≡ before (innermost_task ss))) ⊎ ((spot (place h t) ≢ g) × (place (close ∷ h) t ≡ place h t)) → Reach (close ∷ h) s i
      go (yes d) (inl x) y = new d (inl x.0)
      go (yes d) (inr x) (inl y) = new d (inr (at_g (place h t) refl y.0 x))
      go (yes d) (inr x) (inr y) = new d (inr (to_newest close h i (subst (λ z. Reach h z i) d (R.under s oh i t x (q, sym y.1 ∙ p, m)))))
      go (no d) (inl x) y = let e = ap spot (sym p ∙ cf_place_after t x.1) in absurd (d (omega (arith, max)))
      go (no d) (inr x) (inl y) = let e = ap spot (sym p ∙ y.1) in absurd (d (omega (arith, max, cf_own)))
      go (no d) (inr x) (inr y) = other_reach close h s i d (R.under s oh i t x (q, sym y.1 ∙ p, m))

  cf_joined : (f : ℕ) → On (outward (scopes h)) (finish f) → (i t : ℕ) → Of (close ∷ h) i t → (k : ℕ) → Joins (close ∷ h) k f → Upto (close ∷ h) i k → (s : ℕ) → place (close ∷ h) t ≡ unordered s → f ≤ s
  cf_joined f o i t of k j w s p = go (cf_view t) (of_cases of) (joins_cases j)
    where
      go : ((spot (place h t) ≡ g) × (place (close ∷ h) t ≡ before (innermost_task ss))) ⊎ ((spot (place h t) ≢ g) × (place (close ∷ h) t ≡ place h t)) → ((i ≡ length h) × (innermost_task (scopes h) ≡ t)) ⊎ Of h i t → ((k ≡ length h) × (close ≡ close) × ((t : ℕ) × (out : List Scope) × (scopes h ≡ task t ∷ out))) ⊎ Joins h k f → f ≤ s
      go (inl y) x z = before_is_not (innermost_task ss) s (sym y.1 ∙ p)
      go (inr y) (inl x) z = before_is_not (innermost_task (scopes h)) s (sym (cf_place t x.1) ∙ (sym y.1 ∙ p))
      go (inr y) (inr x) (inl z) = absurd (tops_differ (scopes h) z.2.1 ss z.2.0 g z.2.2 top)
      go (inr y) (inr x) (inr z) = R.joined f (on_outward (scopes h) (finish f) o) i t x k z (upto_back i k (joins_lt z) w) s (sym y.1 ∙ p)

  cf_unjoined : (i t : ℕ) → Of (close ∷ h) i t → (s : ℕ) → place (close ∷ h) t ≡ unordered s → (f : ℕ) → FinishFrom (outward (scopes h)) s f → (k : ℕ) × Joins (close ∷ h) k f × Upto (close ∷ h) i k
  cf_unjoined i t of s p f w = go (cf_view t) (of_cases of)
    where
      lift : (k : ℕ) × Joins h k f × Upto h i k → (k : ℕ) × Joins (close ∷ h) k f × Upto (close ∷ h) i k
      lift (k, j, y) = (k, joins_older j, upto_older i k y)

      go : ((spot (place h t) ≡ g) × (place (close ∷ h) t ≡ before (innermost_task ss))) ⊎ ((spot (place h t) ≢ g) × (place (close ∷ h) t ≡ place h t)) → ((i ≡ length h) × (innermost_task (scopes h) ≡ t)) ⊎ Of h i t → (k : ℕ) × Joins (close ∷ h) k f × Upto (close ∷ h) i k
      go (inl y) x = before_is_not (innermost_task ss) s (sym y.1 ∙ p)
      go (inr y) (inl x) = before_is_not (innermost_task (scopes h)) s (sym (cf_place t x.1) ∙ (sym y.1 ∙ p))
      go (inr y) (inr x) = lift (R.unjoined i t x s (sym y.1 ∙ p) f (subst⁻¹ (λ z. FinishFrom z s f) top (inr (subst (λ z. FinishFrom (outward z) s f) top w))))

  pub right_close_finish : Right (close ∷ h)
  right_close_finish = record { reach = cf_reach; under = cf_under; joined = cf_joined; unjoined = cf_unjoined }
