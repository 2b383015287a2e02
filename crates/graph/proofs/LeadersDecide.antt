-- The leader of a class is unordered whenever any access of the class is.
use mathlib.Core.Path.{◌≡◌, refl, sym, ◌∙◌, subst, subst⁻¹, subst₂, ap}
use mathlib.Core.Logic.{◌⊎◌, inl, inr, ◌≢◌, ⊎_elim}
use mathlib.Core.List.{List, [], ◌∷◌}
use Prim.Native.Nat.{ℕ, ◌<◌, ◌≤◌}
use native.Mathlib.Omega.{arith}
use native.Mathlib.Decide.{ℕ_discrete}
use lib.ListN.{length}
use Rattle.graph.specs.History.{Event, open_task, open_finish, close, access, History, Scope, task, finish, begun, scopes, innermost, innermost_task, Accepted, Place, before, unordered, spot, moved, place}
use Rattle.graph.specs.Graph.{Put, newest, older}
use Rattle.graph.specs.Leaders.{Access, Leader, first, takes_over, remains, other}
use Rattle.graph.specs.Theorems.{LeadersDecide}
use Rattle.graph.proofs.OpenScopes.{Falling, falling, task_below, begun_pos, begun_mono, put_past}
use Rattle.graph.proofs.Places.{by_eqb, main_open, task_on, task_max, Placed, placed, placed_out, placed_below, placed_max, open_placed}

-- The places in a row: unordered from outward in, then before from inward out. The leader's place comes no later than an access's.
abbrev pub Covers : Place → Place → Type 0
Covers (unordered l) (unordered x) = l ≤ x
Covers (unordered l) (before x) = Unit {0}
Covers (before l) (unordered x) = ⊥
Covers (before l) (before x) = x ≤ l

covers_self : (p : Place) → Covers p p
covers_self (before s) = omega arith
covers_self (unordered s) = omega arith

pub put_cases : {d : Event} {h : History} {i : ℕ} {e : Event} {p : History} → Put (d ∷ h) i e p → ((i ≡ length h) × (e ≡ d) × (p ≡ h)) ⊎ Put h i e p
put_cases newest = inl (refl, refl, refl)
put_cases (older q) = inr q

access_cases : {d : Event} {h : History} (i c r t : ℕ) → Access (d ∷ h) i c r t → ((i ≡ length h) × (access c r ≡ d) × (innermost_task (scopes h) ≡ t)) ⊎ Access h i c r t
access_cases i c r t a = ⊎_elim (λ v. inl (v.0, v.1, ap (λ p. innermost_task (scopes p)) (sym v.2) ∙ a.by)) (λ q. inr (record { past = a.past; put = q; by = a.by })) (put_cases a.put)

wider : {d : Event} {h : History} {i c r t : ℕ} → Access h i c r t → Access (d ∷ h) i c r t
wider a = record { past = a.past; put = older a.put; by = a.by }

pub leader_access : {c r : ℕ} {h : History} {l u : ℕ} → Leader c r h l u → Access h l c r u
leader_access (first {h = h} n) = record { past = h; put = newest; by = refl }
leader_access (takes_over {h = h} k b) = record { past = h; put = newest; by = refl }
leader_access (remains k b) = wider (leader_access k)
leader_access (other n k) = wider (leader_access k)

access_begun : (h : History) (i c r t : ℕ) → Access h i c r t → t < begun h
access_begun h i c r t a =
    let k = task_below (begun a.past) (scopes a.past) (falling a.past) (begun_pos a.past) in
    let m = begun_mono (put_past a.put) in
    omega (arith, a.by)

-- s is the number of the scope that closes, and the scopes outward of it are ss
module _ (s : ℕ) (ss : List Scope) (f : Falling s ss) where
  to_task : (l x : Place) → Placed ss x → spot l ≡ s → Covers l x → Covers (unordered (innermost ss)) x
  to_task l (before n) px e c = tt
  to_task (before m) (unordered n) px e c = absurd c
  to_task (unordered m) (unordered n) px e c = let b = placed_below s ss (unordered n) f px in absurd (omega arith)

  from_task : (l x : Place) → Placed ss l → spot x ≡ s → Covers l x → Covers l (unordered (innermost ss))
  from_task (unordered m) x pl e c = placed_max s ss (unordered m) f pl
  from_task (before m) (before n) pl e c = let b = placed_below s ss (before m) f pl in absurd (omega arith)
  from_task (before m) (unordered n) pl e c = absurd c

  to_finish : (l x : Place) → Placed ss x → spot l ≡ s → Covers l x → Covers (before (innermost_task ss)) x
  to_finish l (before n) px e c = task_max s ss n f px
  to_finish (before m) (unordered n) px e c = absurd c
  to_finish (unordered m) (unordered n) px e c = let b = placed_below s ss (unordered n) f px in absurd (omega arith)

  from_finish : (l x : Place) → Placed ss l → spot x ≡ s → Covers l x → Covers l (before (innermost_task ss))
  from_finish (unordered m) x pl e c = tt
  from_finish (before m) (before n) pl e c = let b = placed_below s ss (before m) f pl in absurd (omega arith)
  from_finish (before m) (unordered n) pl e c = absurd c

covers_moved : (k : ℕ) (ss : List Scope) → Falling k ss → (l x : Place) → Placed ss l → Placed ss x → Covers l x → Covers (moved ss l) (moved ss x)
covers_moved k [] f l x pl px c = c
covers_moved k (task s ∷ ss) f l x pl px c = go (by_eqb (spot l) s (unordered (innermost ss)) l) (by_eqb (spot x) s (unordered (innermost ss)) x)
  where
    go : ((spot l ≡ s) × (moved (task s ∷ ss) l ≡ unordered (innermost ss))) ⊎ ((spot l ≢ s) × (moved (task s ∷ ss) l ≡ l)) → ((spot x ≡ s) × (moved (task s ∷ ss) x ≡ unordered (innermost ss))) ⊎ ((spot x ≢ s) × (moved (task s ∷ ss) x ≡ x)) → Covers (moved (task s ∷ ss) l) (moved (task s ∷ ss) x)
    go (inl u) (inl v) = subst₂ Covers (sym u.1) (sym v.1) (covers_self (unordered (innermost ss)))
    go (inl u) (inr v) = subst₂ Covers (sym u.1) (sym v.1) (to_task s ss f.1 l x (placed_out (task s) ss x px v.0) u.0 c)
    go (inr u) (inl v) = subst₂ Covers (sym u.1) (sym v.1) (from_task s ss f.1 l x (placed_out (task s) ss l pl u.0) v.0 c)
    go (inr u) (inr v) = subst₂ Covers (sym u.1) (sym v.1) c
covers_moved k (finish s ∷ ss) f l x pl px c = go (by_eqb (spot l) s (before (innermost_task ss)) l) (by_eqb (spot x) s (before (innermost_task ss)) x)
  where
    go : ((spot l ≡ s) × (moved (finish s ∷ ss) l ≡ before (innermost_task ss))) ⊎ ((spot l ≢ s) × (moved (finish s ∷ ss) l ≡ l)) → ((spot x ≡ s) × (moved (finish s ∷ ss) x ≡ before (innermost_task ss))) ⊎ ((spot x ≢ s) × (moved (finish s ∷ ss) x ≡ x)) → Covers (moved (finish s ∷ ss) l) (moved (finish s ∷ ss) x)
    go (inl u) (inl v) = subst₂ Covers (sym u.1) (sym v.1) (covers_self (before (innermost_task ss)))
    go (inl u) (inr v) = subst₂ Covers (sym u.1) (sym v.1) (to_finish s ss f.1 l x (placed_out (finish s) ss x px v.0) u.0 c)
    go (inr u) (inl v) = subst₂ Covers (sym u.1) (sym v.1) (from_finish s ss f.1 l x (placed_out (finish s) ss l pl u.0) v.0 c)
    go (inr u) (inr v) = subst₂ Covers (sym u.1) (sym v.1) c

covers_step : (e : Event) (h : History) → Accepted (e ∷ h) → (u t : ℕ) → u < begun h → t < begun h → Covers (place h u) (place h t) → Covers (place (e ∷ h) u) (place (e ∷ h) t)
covers_step open_task h a u t lu lt c =
    subst₂ Covers (old u lu) (old t lt) c
  where
    old : (v : ℕ) → v < begun h → place h v ≡ place (open_task ∷ h) v
    old v l = ⊎_elim (λ w. absurd (omega (arith, w.0))) (λ w. sym w.1) (by_eqb v (begun h) (before v) (place h v))
covers_step open_finish h a u t lu lt c = c
covers_step close h a u t lu lt c = covers_moved (begun h) (scopes h) (falling h) (place h u) (place h t) (placed h a.0 u) (placed h a.0 t) c
covers_step (access p q) h a u t lu lt c = c

pub older_accepted : (e : Event) (h : History) → Accepted (e ∷ h) → Accepted h
older_accepted open_task h a = a
older_accepted open_finish h a = a
older_accepted close h a = a.0
older_accepted (access c r) h a = a

covered : {c r : ℕ} {h : History} {l u : ℕ} → Leader c r h l u → Accepted h → (i t : ℕ) → Access h i c r t → Covers (place h u) (place h t)
covered {c} {r} (first {h = h} n) a i t x =
    ⊎_elim (λ v. subst (λ k. Covers (place h (innermost_task (scopes h))) (place h k)) v.2 (covers_self (place h (innermost_task (scopes h))))) (λ y. absurd (n i t y)) (access_cases i c r t x)
covered {c} {r} (takes_over {h = h} {t = u} k b) a i t x =
    ⊎_elim (λ v. subst (λ k. Covers (place h (innermost_task (scopes h))) (place h k)) v.2 (covers_self (place h (innermost_task (scopes h)))))
    (λ y. go (place h u) (place h t) b.1 (placed h a t) (covered k a i t y)) (access_cases i c r t x)
  where
    here : place h (innermost_task (scopes h)) ≡ before (innermost_task (scopes h))
    here = open_placed h (innermost_task (scopes h)) (task_on (scopes h) 0 (main_open h a))

    go : (p q : Place) → p ≡ before b.0 → Placed (scopes h) q → Covers p q → Covers (place h (innermost_task (scopes h))) q
    go (before m) (before n) e o w = subst⁻¹ (λ z. Covers z (before n)) here (task_max (begun h) (scopes h) n (falling h) o)
    go (before m) (unordered n) e o w = absurd w
    go (unordered m) q e o w = absurd (never e)
      where
        word : Place → ℕ
        word (before m) = 0
        word (unordered m) = 1

        never : unordered m ≡ before b.0 → ⊥
        never e = let d = ap word e in omega arith
covered {c} {r} (remains {h = h} {t = u} k b) a i t x =
    ⊎_elim (λ v. subst₂ Covers (sym b.1) (sym (ap (place h) (sym v.2) ∙ here)) tt) (λ y. covered k a i t y) (access_cases i c r t x)
  where
    here : place h (innermost_task (scopes h)) ≡ before (innermost_task (scopes h))
    here = open_placed h (innermost_task (scopes h)) (task_on (scopes h) 0 (main_open h a))
covered {c} {r} (other {e = e} {h = h} {i = l} {t = u} n k) a i t x =
    ⊎_elim (λ v. absurd (n (sym v.1)))
    (λ y. covers_step e h a u t (access_begun h l c r u (leader_access k)) (access_begun h i c r t y) (covered k (older_accepted e h a) i t y))
    (access_cases i c r t x)

decides : (p q : Place) → Covers p q → (s : ℕ) → q ≡ unordered s → (m : ℕ) × (p ≡ unordered m)
decides (unordered m) q w s e = (m, refl)
decides (before m) (unordered n) w s e = absurd w
decides (before m) (before n) w s e = absurd (never e)
  where
    word : Place → ℕ
    word (before m) = 0
    word (unordered m) = 1

    never : before n ≡ unordered s → ⊥
    never e = let d = ap word e in omega arith

event_is : (e : Event) (c r : ℕ) → Dec (e ≡ access c r)
event_is open_task c r = no never
  where
    never : open_task ≡ access c r → ⊥
    never e = let z : ◌≡◌ {A = ℕ} 0 1 = cc in omega arith
event_is open_finish c r = no never
  where
    never : open_finish ≡ access c r → ⊥
    never e = let z : ◌≡◌ {A = ℕ} 0 1 = cc in omega arith
event_is close c r = no never
  where
    never : close ≡ access c r → ⊥
    never e = let z : ◌≡◌ {A = ℕ} 0 1 = cc in omega arith
event_is (access a b) c r = go (ℕ_discrete a c) (ℕ_discrete b r)
  where
    go : Dec (a ≡ c) → Dec (b ≡ r) → Dec (access a b ≡ access c r)
    go (yes p) (yes q) = yes (cc)
    go (no n) q = no (λ e. n (cc))
    go (yes p) (no n) = no (λ e. n (cc))

pub leader_or_none : (h : History) (c r : ℕ) → ((l : ℕ) × (u : ℕ) × Leader c r h l u) ⊎ ((i t : ℕ) → ¬ Access h i c r t)
leader_or_none [] c r = inr (λ i t a. elim a.put [ ])
leader_or_none (e ∷ h) c r = go (event_is e c r) (leader_or_none h c r)
  where
    settle : (l u : ℕ) → Leader c r h l u → (p : Place) → place h u ≡ p → (l : ℕ) × (u : ℕ) × Leader c r (access c r ∷ h) l u
    settle l u k (before s) q = (length h, innermost_task (scopes h), takes_over k (s, q))
    settle l u k (unordered s) q = (l, u, remains k (s, q))

    go : Dec (e ≡ access c r) → ((l : ℕ) × (u : ℕ) × Leader c r h l u) ⊎ ((i t : ℕ) → ¬ Access h i c r t) → ((l : ℕ) × (u : ℕ) × Leader c r (e ∷ h) l u) ⊎ ((i t : ℕ) → ¬ Access (e ∷ h) i c r t)
    go (yes p) (inl (l, u, k)) = inl (subst⁻¹ (λ d. (l : ℕ) × (u : ℕ) × Leader c r (d ∷ h) l u) p (settle l u k (place h u) refl))
    go (yes p) (inr n) = inl (subst⁻¹ (λ d. (l : ℕ) × (u : ℕ) × Leader c r (d ∷ h) l u) p (length h, innermost_task (scopes h), first n))
    go (no m) (inl (l, u, k)) = inl (l, u, other m k)
    go (no m) (inr n) = inr (λ i t a. ⊎_elim (λ v. m (sym v.1)) (n i t) (access_cases i c r t a))

pub leaders_decide : LeadersDecide
leaders_decide h a c r = record {
  leads = λ i t x. ⊎_elim (λ k. k) (λ n. absurd (n i t x)) (leader_or_none h c r);
  only = λ l u k. leader_access k;
  decides = λ i t l u x k f. decides (place h u) (place h t) (covered k a i t x) f.0 f.1;
}
