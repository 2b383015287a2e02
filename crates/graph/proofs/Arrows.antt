-- What one event more does to the graph: the arrows and paths among the older events stay, and these lead to the new one.
use mathlib.Core.Path.{◌≡◌, refl, sym, ◌∙◌, subst, subst⁻¹, ap}
use mathlib.Core.Logic.{◌⊎◌, inl, inr, ◌≢◌, ◌↔◌, ⊎_elim}
use mathlib.Core.List.{List, ◌∷◌}
use Prim.Native.Nat.{ℕ, ◌<◌, ◌≤◌}
use native.Mathlib.Omega.{arith}
use lib.ListN.{length}
use Rattle.graph.specs.History.{Event, open_task, close, History, Scope, task, finish, number, begun, scopes, innermost_task}
use Rattle.graph.specs.Graph.{newest, older, Of, Opens, Closes, Within, Arrow, continue, spawn, join, Path, arrow, ◌then◌}
use Rattle.graph.proofs.OpenScopes.{falling, On, on_below, task_below, begun_pos, finish_on, begun_mono, put_lt, put_tail, put_past}
use Rattle.graph.proofs.PathsRise.{opened_first, arrow_up, arrow_end, path_up, path_end}
use Rattle.graph.proofs.LeadersDecide.{put_cases}

-- the newest event and the older ones
pub of_cases : {e : Event} {h : History} {i t : ℕ} → Of (e ∷ h) i t → ((i ≡ length h) × (innermost_task (scopes h) ≡ t)) ⊎ Of h i t
of_cases o = ⊎_elim (λ v. inl (v.0, ap (λ p. innermost_task (scopes p)) (sym v.2) ∙ o.by)) (λ q. inr (record { event = o.event; past = o.past; put = q; by = o.by })) (put_cases o.put)

pub of_older : {e : Event} {h : History} {i t : ℕ} → Of h i t → Of (e ∷ h) i t
of_older o = record { event = o.event; past = o.past; put = older o.put; by = o.by }

pub of_newest : (e : Event) (h : History) → Of (e ∷ h) (length h) (innermost_task (scopes h))
of_newest e h = record { event = e; past = h; put = newest; by = refl }

-- an event that is not the newest
pub of_back : {e : Event} {h : History} {i t : ℕ} → Of (e ∷ h) i t → i < length h → Of h i t
of_back o l = ⊎_elim (λ v. absurd (omega (arith, v.0))) (λ q. q) (of_cases o)

pub of_lt : {h : History} {i t : ℕ} → Of h i t → i < length h
of_lt o = put_lt o.put

pub of_begun : {h : History} {i t : ℕ} → Of h i t → t < begun h
of_begun o =
    let k = task_below (begun o.past) (scopes o.past) (falling o.past) (begun_pos o.past) in
    let m = begun_mono (put_past o.put) in
    omega (arith, o.by)

pub opens_cases : {e : Event} {h : History} {i t : ℕ} → Opens (e ∷ h) i t → ((i ≡ length h) × (open_task ≡ e) × (begun h ≡ t)) ⊎ Opens h i t
opens_cases o = ⊎_elim (λ v. inl (v.0, v.1, ap begun (sym v.2) ∙ o.next)) (λ q. inr (record { past = o.past; put = q; next = o.next })) (put_cases o.put)

opens_older : {e : Event} {h : History} {i t : ℕ} → Opens h i t → Opens (e ∷ h) i t
opens_older o = record { past = o.past; put = older o.put; next = o.next }

pub opens_begun : {h : History} {i t : ℕ} → Opens h i t → t < begun h
opens_begun o = let m = begun_mono (put_tail o.put) in omega (arith, o.next)

pub closes_cases : {e : Event} {h : History} {i : ℕ} {s : Scope} → Closes (e ∷ h) i s → ((i ≡ length h) × (close ≡ e) × ((out : List Scope) × (scopes h ≡ s ∷ out))) ⊎ Closes h i s
closes_cases o = ⊎_elim (λ v. inl (v.0, v.1, (o.out, ap scopes (sym v.2) ∙ o.top))) (λ q. inr (record { past = o.past; out = o.out; put = q; top = o.top })) (put_cases o.put)

pub closes_older : {e : Event} {h : History} {i : ℕ} {s : Scope} → Closes h i s → Closes (e ∷ h) i s
closes_older o = record { past = o.past; out = o.out; put = older o.put; top = o.top }

pub closes_newest : (h : History) (s : Scope) (out : List Scope) → scopes h ≡ s ∷ out → Closes (close ∷ h) (length h) s
closes_newest h s out e = record { past = h; out = out; put = newest; top = e }

closes_begun : {h : History} {i : ℕ} {s : Scope} → Closes h i s → number s < begun h
closes_begun {s = s} o =
    let k = on_below (begun o.past) (scopes o.past) s (falling o.past) (subst⁻¹ (λ ss. On ss s) o.top (inl refl)) in
    let m = begun_mono (put_past o.put) in
    omega arith

within_cases : {e : Event} {h : History} {t f : ℕ} → Within (e ∷ h) t f → ((open_task ≡ e) × (begun h ≡ t)) ⊎ Within h t f
within_cases w = ⊎_elim (λ v. inl (v.1, ap begun (sym v.2) ∙ w.next)) (λ q. inr (record { at = w.at; past = w.past; put = q; next = w.next; home = w.home })) (put_cases w.put)

pub within_older : {e : Event} {h : History} {t f : ℕ} → Within h t f → Within (e ∷ h) t f
within_older w = record { at = w.at; past = w.past; put = older w.put; next = w.next; home = w.home }

pub within_begun : {h : History} {t f : ℕ} → Within h t f → f < begun h
within_begun {f = f} w =
    let k = on_below (begun w.past) (scopes w.past) (finish f) (falling w.past) (finish_on (scopes w.past) f w.home) in
    let m = begun_mono (put_past w.put) in
    omega arith

-- event k is the close of a task that joins the finish f
pub record Joins (h : History) (k f : ℕ) : Type 0 where
  pub ended : ℕ
  pub closes : Closes h k (task ended)
  pub within : Within h ended f

open_is_not_close : open_task ≡ close → ⊥
open_is_not_close e = let z : ◌≡◌ {A = ℕ} 0 1 = cc in omega arith

pub joins_older : {e : Event} {h : History} {k f : ℕ} → Joins h k f → Joins (e ∷ h) k f
joins_older j = record { ended = j.ended; closes = closes_older j.closes; within = within_older j.within }

pub joins_cases : {e : Event} {h : History} {k f : ℕ} → Joins (e ∷ h) k f → ((k ≡ length h) × (close ≡ e) × ((t : ℕ) × (out : List Scope) × (scopes h ≡ task t ∷ out))) ⊎ Joins h k f
joins_cases {e} {h} {k} {f} j = go (closes_cases j.closes) (within_cases j.within)
  where
    go : ((k ≡ length h) × (close ≡ e) × ((out : List Scope) × (scopes h ≡ task j.ended ∷ out))) ⊎ Closes h k (task j.ended) → ((open_task ≡ e) × (begun h ≡ j.ended)) ⊎ Within h j.ended f → ((k ≡ length h) × (close ≡ e) × ((t : ℕ) × (out : List Scope) × (scopes h ≡ task t ∷ out))) ⊎ Joins h k f
    go (inl v) w = inl (v.0, v.1, (j.ended, v.2.0, v.2.1))
    go (inr c) (inl w) = let l = closes_begun c in absurd (omega (arith, w.1))
    go (inr c) (inr w) = inr (record { ended = j.ended; closes = c; within = w })

pub joins_lt : {h : History} {k f : ℕ} → Joins h k f → k < length h
joins_lt j = put_lt j.closes.put

-- event k is what the next event of the task s continues from: its last event or, if it has none, the one that opened it
abbrev pub Next : History → ℕ → ℕ → Type 0
Next h s k = (Of h k s × ((m : ℕ) → k < m → ¬ Of h m s)) ⊎ (Opens h k s × ((m : ℕ) → ¬ Of h m s))

pub next_lt : (h : History) (s k : ℕ) → Next h s k → k < length h
next_lt h s k (inl v) = put_lt v.0.put
next_lt h s k (inr v) = put_lt v.0.put

-- an arrow leads from k to the event e put after h
abbrev pub Into : Event → History → ℕ → Type 0
Into e h k = Next h (innermost_task (scopes h)) k ⊎ ((close ≡ e) × ((f : ℕ) × (out : List Scope) × (scopes h ≡ finish f ∷ out) × Joins h k f))

into_lt : (e : Event) (h : History) (k : ℕ) → Into e h k → k < length h
into_lt e h k (inl v) = next_lt h (innermost_task (scopes h)) k v
into_lt e h k (inr v) = joins_lt v.1.3

arrow_older : {e : Event} {h : History} {i j : ℕ} → Arrow h i j → Arrow (e ∷ h) i j
arrow_older (continue a b l n) = continue (of_older a) (of_older b) l (λ k p q o. n k p q (of_back o (let m = of_lt b in omega arith)))
arrow_older (spawn a b n) = spawn (opens_older a) (of_older b) (λ k p o. n k p (of_back o (let m = of_lt b in omega arith)))
arrow_older (join a b w) = join (closes_older a) (closes_older b) (within_older w)

arrow_newest : (e : Event) (h : History) (k : ℕ) → Into e h k → Arrow (e ∷ h) k (length h)
arrow_newest e h k (inl (inl (o, last))) = continue (of_older o) (of_newest e h) (of_lt o) (λ m p q x. last m p (of_back x q))
arrow_newest e h k (inl (inr (o, none))) = spawn (opens_older o) (of_newest e h) (λ m q x. none m (of_back x q))
arrow_newest e h k (inr (c, (f, out, top, j))) =
    subst (λ d. Arrow (d ∷ h) k (length h)) c (join (closes_older j.closes) (closes_newest h (finish f) out top) (within_older j.within))

arrow_cases : {e : Event} {h : History} {i j : ℕ} → Arrow (e ∷ h) i j → ((j ≡ length h) × Into e h i) ⊎ Arrow h i j
arrow_cases {e} {h} {i} {j} (continue {t = t} a b l n) = go (of_cases b)
  where
    go : ((j ≡ length h) × (innermost_task (scopes h) ≡ t)) ⊎ Of h j t → ((j ≡ length h) × Into e h i) ⊎ Arrow h i j
    go (inl v) = inl (v.0, inl (subst⁻¹ (λ s. Next h s i) v.1 (inl (of_back a (omega (arith, v.0)), (λ m p o. n m p (let q = of_lt o in omega (arith, v.0)) (of_older o))))))
    go (inr o) = let q = of_lt o in inr (continue (of_back a (omega arith)) o l (λ k p q x. n k p q (of_older x)))
arrow_cases {e} {h} {i} {j} (spawn {t = t} a b n) = go (of_cases b) (opens_cases a)
  where
    up : i < j
    up = opened_first (e ∷ h) i j t a b

    go : ((j ≡ length h) × (innermost_task (scopes h) ≡ t)) ⊎ Of h j t → ((i ≡ length h) × (open_task ≡ e) × (begun h ≡ t)) ⊎ Opens h i t → ((j ≡ length h) × Into e h i) ⊎ Arrow h i j
    go (inl v) (inr o) = inl (v.0, inl (subst⁻¹ (λ s. Next h s i) v.1 (inr (o, (λ m x. n m (let q = of_lt x in omega (arith, v.0)) (of_older x))))))
    go (inr x) (inr o) = inr (spawn o x (λ k p y. n k p (of_older y)))
    go (inl v) (inl w) = absurd (omega (arith, up, v.0, w.0))
    go (inr x) (inl w) = let q = of_lt x in absurd (omega (arith, up, w.0))
arrow_cases {e} {h} {i} {j} (join {t = t} {f = f} a b w) = go (closes_cases b) (closes_cases a) (within_cases w)
  where
    up : i < j
    up = arrow_up (join a b w)

    go : ((j ≡ length h) × (close ≡ e) × ((out : List Scope) × (scopes h ≡ finish f ∷ out))) ⊎ Closes h j (finish f) → ((i ≡ length h) × (close ≡ e) × ((out : List Scope) × (scopes h ≡ task t ∷ out))) ⊎ Closes h i (task t) → ((open_task ≡ e) × (begun h ≡ t)) ⊎ Within h t f → ((j ≡ length h) × Into e h i) ⊎ Arrow h i j
    go (inl v) (inl u) x = absurd (omega (arith, up, v.0, u.0))
    go (inr v) (inl u) x = let q = put_lt v.put in absurd (omega (arith, up, u.0))
    go v (inr u) (inl x) = let q = closes_begun u in absurd (omega (arith, x.1))
    go (inl v) (inr u) (inr x) = inl (v.0, inr (v.1, (f, v.2.0, v.2.1, record { ended = t; closes = u; within = x })))
    go (inr v) (inr u) (inr x) = inr (join u v x)

pub path_older : {e : Event} {h : History} {i j : ℕ} → Path h i j → Path (e ∷ h) i j
path_older (arrow a) = arrow (arrow_older a)
path_older (p then a) = path_older p then arrow_older a

-- the event itself, or one with a path to it
abbrev pub Upto : History → ℕ → ℕ → Type 0
Upto h i k = (i ≡ k) ⊎ Path h i k

pub upto_older : {e : Event} {h : History} (i k : ℕ) → Upto h i k → Upto (e ∷ h) i k
upto_older i k (inl p) = inl p
upto_older i k (inr p) = inr (path_older p)

pub path_cases : {e : Event} {h : History} {i j : ℕ} → Path (e ∷ h) i j → ((j ≡ length h) × ((k : ℕ) × Into e h k × Upto h i k)) ⊎ Path h i j
path_cases {i = i} (arrow a) = ⊎_elim (λ v. inl (v.0, (i, v.1, inl refl))) (λ b. inr (arrow b)) (arrow_cases a)
path_cases {e} {h} {i} {j} (◌then◌ {j = m} p a) = go (path_cases p) (arrow_cases a)
  where
    go : ((m ≡ length h) × ((k : ℕ) × Into e h k × Upto h i k)) ⊎ Path h i m → ((j ≡ length h) × Into e h m) ⊎ Arrow h m j → ((j ≡ length h) × ((k : ℕ) × Into e h k × Upto h i k)) ⊎ Path h i j
    go (inl u) (inl v) = let l = into_lt e h m v.1 in absurd (omega (arith, u.0))
    go (inl u) (inr b) = let l = arrow_up b in let q = arrow_end b in absurd (omega (arith, u.0))
    go (inr q) (inl v) = inl (v.0, (m, v.1, inr q))
    go (inr q) (inr b) = inr (q then b)

-- a path to the newest event
pub path_to_newest : (e : Event) (h : History) (i : ℕ) → Path (e ∷ h) i (length h) ↔ ((k : ℕ) × Into e h k × Upto h i k)
path_to_newest e h i = (λ p. ⊎_elim (λ v. v.1) (λ q. let l = path_end q in absurd (omega arith)) (path_cases p), λ v. forth v.0 v.1 v.2)
  where
    forth : (k : ℕ) → Into e h k → Upto h i k → Path (e ∷ h) i (length h)
    forth k x (inl p) = subst⁻¹ (λ m. Path (e ∷ h) m (length h)) p (arrow (arrow_newest e h k x))
    forth k x (inr p) = path_older p then arrow_newest e h k x

-- a path to an older event
pub upto_back : {e : Event} {h : History} (i k : ℕ) → k < length h → Upto (e ∷ h) i k → Upto h i k
upto_back i k l (inl p) = inl p
upto_back i k l (inr p) = ⊎_elim (λ v. absurd (omega (arith, v.0))) inr (path_cases p)

pub upto_le : {h : History} (i k : ℕ) → Upto h i k → i ≤ k
upto_le i k (inl p) = omega arith
upto_le i k (inr p) = let l = path_up p in omega arith

-- what the next event of a task continues from, after one event more
pub next_own : (e : Event) (h : History) → Next (e ∷ h) (innermost_task (scopes h)) (length h)
next_own e h = inl (of_newest e h, (λ m l o. let q = of_lt o in omega arith))

pub next_own_is : (e : Event) (h : History) (k : ℕ) → Next (e ∷ h) (innermost_task (scopes h)) k → k ≡ length h
next_own_is e h k (inl v) = ⊎_elim (λ w. w.0) (λ o. absurd (v.1 (length h) (of_lt o) (of_newest e h))) (of_cases v.0)
next_own_is e h k (inr v) = absurd (v.1 (length h) (of_newest e h))

pub next_new : (h : History) → Next (open_task ∷ h) (begun h) (length h)
next_new h = inr (record { past = h; put = newest; next = refl }, nothing)
  where
    nothing : (m : ℕ) → ¬ Of (open_task ∷ h) m (begun h)
    nothing m o = ⊎_elim (λ v. let k = task_below (begun h) (scopes h) (falling h) (begun_pos h) in omega (arith, v.1)) (λ x. let k = of_begun x in omega arith) (of_cases o)

pub next_new_is : (h : History) (k : ℕ) → Next (open_task ∷ h) (begun h) k → k ≡ length h
next_new_is h k (inl v) = absurd (⊎_elim (λ w. let b = task_below (begun h) (scopes h) (falling h) (begun_pos h) in omega (arith, w.1)) (λ x. let b = of_begun x in omega arith) (of_cases v.0))
next_new_is h k (inr v) = ⊎_elim (λ w. w.0) (λ x. let b = opens_begun x in absurd (omega arith)) (opens_cases v.0)

pub next_other : (e : Event) (h : History) (s k : ℕ) → s ≢ innermost_task (scopes h) → Next h s k → Next (e ∷ h) s k
next_other e h s k d (inl v) = inl (of_older v.0, (λ m l o. ⊎_elim (λ w. d (sym w.1)) (v.1 m l) (of_cases o)))
next_other e h s k d (inr v) = inr (opens_older v.0, (λ m o. ⊎_elim (λ w. d (sym w.1)) (v.1 m) (of_cases o)))

pub next_other_is : (e : Event) (h : History) (s k : ℕ) → s ≢ innermost_task (scopes h) → s < begun h → Next (e ∷ h) s k → Next h s k
next_other_is e h s k d l (inl v) = ⊎_elim (λ w. absurd (d (sym w.1))) (λ o. inl (o, (λ m q x. v.1 m q (of_older x)))) (of_cases v.0)
next_other_is e h s k d l (inr v) = ⊎_elim (λ w. absurd (omega (arith, w.2))) (λ o. inr (o, (λ m x. v.1 m (of_older x)))) (opens_cases v.0)
