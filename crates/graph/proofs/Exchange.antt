-- Paths are decidable, and with that two events that no path joins have the two orders.
use mathlib.Core.Path.{◌≡◌, refl, sym, ◌∙◌, subst, subst⁻¹, ap}
use mathlib.Core.Logic.{◌⊎◌, inl, inr, ◌≢◌, ◌↔◌, ⊎_elim}
use mathlib.Core.List.{List, [], ◌∷◌, ◌++◌}
use Prim.Native.Nat.{ℕ, zero, suc, ◌<◌}
use native.Mathlib.Omega.{arith}
use native.Mathlib.Decide.{ℕ_discrete}
use lib.ListN.{length}
use Rattle.graph.specs.History.{Event, open_task, open_finish, close, access, History, Scope, task, finish, begun, outward, scopes, innermost_task, Accepted, Before, Unordered}
use Rattle.graph.specs.Graph.{Of, Path}
use Rattle.graph.specs.Orders.{In, Ahead, Allowed, Listed, Exchangeable}
use Rattle.graph.specs.Theorems.{ExchangeExact}
use Rattle.graph.proofs.OpenScopes.{falling, On, ordered}
use Rattle.graph.proofs.Places.{main_open, task_on, task_max, Placed, placed}
use Rattle.graph.proofs.PathsRise.{path_up, path_end}
use Rattle.graph.proofs.Arrows.{of_older, of_newest, path_older, path_cases, next_own, next_own_is}
use Rattle.graph.proofs.RightPaths.{Reach, before_is_not, quiet, to_newest}
use Rattle.graph.proofs.RightCloses.{tops_differ}
use Rattle.graph.proofs.WordsArePaths.{right, word}
use Rattle.graph.proofs.SwappedOrders.{in_append, in_left, in_right, ahead_append, swapped_orders}
use Rattle.graph.proofs.LeadersDecide.{older_accepted}

pub of_exists : (h : History) (i : ℕ) → i < length h → (t : ℕ) × Of h i t
of_exists [] i l = absurd (omega arith)
of_exists (e ∷ h) i l = go (ordered i (length h)) (of_exists h i)
  where
    go : (i < length h) ⊎ ((i ≡ length h) ⊎ (length h < i)) → (i < length h → (t : ℕ) × Of h i t) → (t : ℕ) × Of (e ∷ h) i t
    go (inl m) ih = let o = ih m in (o.0, of_older o.1)
    go (inr (inl p)) ih = (innermost_task (scopes h), subst⁻¹ (λ k. Of (e ∷ h) k (innermost_task (scopes h))) p (of_newest e h))
    go (inr (inr m)) ih = absurd (omega arith)

-- whether an event reaches the next event of the innermost task
reach_dec : (h : History) → Accepted h → (i : ℕ) → i < length h → Dec (Reach h (innermost_task (scopes h)) i)
reach_dec h a i l = let o = of_exists h i l in go o.0 o.1 (word h o.0)
  where
    on : On (scopes h) (task (innermost_task (scopes h)))
    on = task_on (scopes h) 0 (main_open h a)

    go : (t : ℕ) → Of h i t → Before h t ⊎ Unordered h t → Dec (Reach h (innermost_task (scopes h)) i)
    go t o (inl (q, p)) = yes ((right h a).under (innermost_task (scopes h)) on i t o (q, p, task_max (begun h) (scopes h) q (falling h) (subst (Placed (scopes h)) p (placed h a t))))
    go t o (inr (s, p)) = no (λ r. let q = (right h a).reach (innermost_task (scopes h)) on i t o r in before_is_not q.0 s (sym q.1 ∙ p))

quiet_dec : (e : Event) (h : History) → Accepted h → ((f : ℕ) (out : List Scope) → close ≡ e → scopes h ≡ finish f ∷ out → ⊥) → (i : ℕ) → i < length h → Dec (Path (e ∷ h) i (length h))
quiet_dec e h a n i l = go (reach_dec h a i l)
  where
    go : Dec (Reach h (innermost_task (scopes h)) i) → Dec (Path (e ∷ h) i (length h))
    go (yes r) = yes (to_newest e h i r)
    go (no m) = no (λ p. m (quiet e h n i p))

newest_dec : (e : Event) (h : History) → Accepted (e ∷ h) → (i : ℕ) → i < length h → Dec (Path (e ∷ h) i (length h))
newest_dec open_task h a i l = quiet_dec open_task h a (λ f out e t. never e) i l
  where
    never : close ≡ open_task → ⊥
    never e = let z : ◌≡◌ {A = ℕ} 0 1 = cc in omega arith
newest_dec open_finish h a i l = quiet_dec open_finish h a (λ f out e t. never e) i l
  where
    never : close ≡ open_finish → ⊥
    never e = let z : ◌≡◌ {A = ℕ} 0 1 = cc in omega arith
newest_dec (access c r) h a i l = quiet_dec (access c r) h a (λ f out e t. never e) i l
  where
    never : close ≡ access c r → ⊥
    never e = let z : ◌≡◌ {A = ℕ} 0 1 = cc in omega arith
newest_dec close h a i l = go (scopes h) refl
  where
    -- the task that closes the finish goes on
    through : (g : ℕ) (ss : List Scope) → scopes h ≡ finish g ∷ ss → Dec (Reach (close ∷ h) (innermost_task (scopes (close ∷ h))) i) → Dec (Path (close ∷ h) i (length h))
    through g ss e d = back (subst (λ s. Dec (Reach (close ∷ h) s i)) (ap (λ z. innermost_task (outward z)) e ∙ sym (ap innermost_task e)) d)
      where
        back : Dec (Reach (close ∷ h) (innermost_task (scopes h)) i) → Dec (Path (close ∷ h) i (length h))
        back (yes (k, n, w)) = yes (⊎_elim (λ p. absurd (omega (arith, next_own_is close h k n))) (λ p. subst (λ z. Path (close ∷ h) i z) (next_own_is close h k n) p) w)
        back (no m) = no (λ p. m (length h, next_own close h, inr p))

    go : (ss : List Scope) → scopes h ≡ ss → Dec (Path (close ∷ h) i (length h))
    go [] e = absurd (subst (λ z. On z (task 0)) e (main_open h a.0))
    go (task v ∷ ss) e = quiet_dec close h a.0 (λ f out c t. tops_differ (scopes h) ss out v f e t) i l
    go (finish g ∷ ss) e = through g ss e (reach_dec (close ∷ h) a i (omega arith))

pub path_dec : (h : History) → Accepted h → (i j : ℕ) → Dec (Path h i j)
path_dec [] a i j = no (λ p. let l = path_end p in omega arith)
path_dec (e ∷ h) a i j = go (ordered j (length h)) (ordered i (length h)) (path_dec h (older_accepted e h a) i j)
  where
    older_path : j < length h → Dec (Path h i j) → Dec (Path (e ∷ h) i j)
    older_path l (yes p) = yes (path_older p)
    older_path l (no n) = no (λ p. ⊎_elim (λ v. omega (arith, v.0)) n (path_cases p))

    go : (j < length h) ⊎ ((j ≡ length h) ⊎ (length h < j)) → (i < length h) ⊎ ((i ≡ length h) ⊎ (length h < i)) → Dec (Path h i j) → Dec (Path (e ∷ h) i j)
    go (inl l) m d = older_path l d
    go (inr (inl p)) (inl m) d = subst⁻¹ (λ z. Dec (Path (e ∷ h) i z)) p (newest_dec e h a i m)
    go (inr (inl p)) (inr m) d = no (λ q. let l = path_up q in ⊎_elim (λ x. omega arith) (λ x. omega arith) m)
    go (inr (inr l)) m d = no (λ q. let k = path_end q in omega arith)

-- the numbers below n of which P, in rising order
pub listing : (P : ℕ → Type 0) → ((k : ℕ) → Dec (P k)) → (n : ℕ) → (l : List ℕ) × Listed (λ k. (k < n) × P k) l
listing P d zero = ([], record { those = λ i. (λ v. absurd (omega (arith, v.0)), λ v. absurd v); rising = λ i j v. absurd v })
listing P d (suc n) = go (d n) (listing P d n)
  where
    go : Dec (P n) → (l : List ℕ) × Listed (λ k. (k < n) × P k) l → (l : List ℕ) × Listed (λ k. (k < suc n) × P k) l
    go (yes p) (l, L) = (l ++ n ∷ [], record { those = λ i. (enter i, leave i); rising = λ i j v. rise i j (ahead_append l (n ∷ []) i j v) })
      where
        enter : (i : ℕ) → (i < suc n) × P i → In (l ++ n ∷ []) i
        enter i (m, q) = elim (ℕ_discrete n i) [ yes e ↦ in_right l (n ∷ []) i (inl e) | no e ↦ in_left l (n ∷ []) i ((L.those i).0 (omega arith, q)) ]

        last : (i : ℕ) → In (n ∷ []) i → (i < suc n) × P i
        last i (inl e) = (omega arith, subst P e p)
        last i (inr v) = absurd v

        leave : (i : ℕ) → In (l ++ n ∷ []) i → (i < suc n) × P i
        leave i v = ⊎_elim (λ x. let y = (L.those i).1 x in (omega (arith, y.0), y.1)) (last i) (in_append l (n ∷ []) i v)

        rise : (i j : ℕ) → Ahead l i j ⊎ ((In l i × In (n ∷ []) j) ⊎ Ahead (n ∷ []) i j) → i < j
        rise i j (inl v) = L.rising i j v
        rise i j (inr (inl (v, inl e))) = let y = (L.those i).1 v in omega (arith, y.0)
        rise i j (inr (inl (v, inr w))) = absurd w
        rise i j (inr (inr (inl v))) = absurd v.1
        rise i j (inr (inr (inr v))) = absurd v
    go (no m) (l, L) = (l, record { those = λ i. (λ v. (L.those i).0 (less i v, v.1), λ v. let y = (L.those i).1 v in (omega (arith, y.0), y.1)); rising = L.rising })
      where
        less : (i : ℕ) → (i < suc n) × P i → i < n
        less i (b, q) = elim (ℕ_discrete n i) [ yes e ↦ absurd (m (subst⁻¹ P e q)) | no e ↦ omega arith ]

relisted : {P Q : ℕ → Type 0} {l : List ℕ} → ((k : ℕ) → P k ↔ Q k) → Listed P l → Listed Q l
relisted f L = record { those = λ i. (λ q. (L.those i).0 ((f i).1 q), λ v. (f i).0 ((L.those i).1 v)); rising = L.rising }

either_dec : {A B : Type 0} → Dec A → Dec B → Dec (A ⊎ B)
either_dec (yes a) b = yes (inl a)
either_dec (no n) (yes b) = yes (inr b)
either_dec (no n) (no m) = no (⊎_elim n m)

rest_dec : {A B C : Type 0} → Dec A → Dec B → Dec C → Dec ((¬ A) × (¬ B) × (¬ C))
rest_dec (yes a) b c = no (λ v. v.0 a)
rest_dec (no n) (yes b) c = no (λ v. v.1 b)
rest_dec (no n) (no m) (yes c) = no (λ v. v.2 c)
rest_dec (no n) (no m) (no o) = yes (n, m, o)

exchange : (h : History) → Accepted h → (i j : ℕ) → i < j → j < length h → ¬ Path h i j → Exchangeable h i j
exchange h a i j l m n =
    let either : (k : ℕ) → Dec (Path h k i ⊎ Path h k j) = λ k. either_dec (path_dec h a k i) (path_dec h a k j) in
    let pre = listing (λ k. Path h k i ⊎ Path h k j) either (length h) in
    let post = listing (λ k. (k ≢ i) × (k ≢ j) × (¬ (Path h k i ⊎ Path h k j))) (λ k. rest_dec (ℕ_discrete k i) (ℕ_discrete k j) (either k)) (length h) in
    let r = swapped_orders h i j l m n pre.0 post.0
    (relisted (λ k. (λ v. v.1, λ v. (⊎_elim (λ p. let u = path_up p in omega arith) (λ p. let u = path_up p in omega arith) v, v))) pre.1)
    (relisted (λ k. (λ v. (v.0, v.1.0, v.1.1, v.1.2), λ v. (v.0, (v.1, v.2, v.3)))) post.1) in
    (pre.0, post.0, r.0, r.1)

ahead_right : (a b : List ℕ) (x y : ℕ) → Ahead b x y → Ahead (a ++ b) x y
ahead_right [] b x y v = v
ahead_right (z ∷ a) b x y v = inr (ahead_right a b x y v)

pub exchange_exact : ExchangeExact
exchange_exact h a i j li lj = (λ v. back v.0 v.1 v.2 v.3, λ v. forth (ordered i j) v.0 v.1 v.2)
  where
    back : (pre post : List ℕ) → Allowed h (pre ++ i ∷ j ∷ post) → Allowed h (pre ++ j ∷ i ∷ post) → (i ≢ j) × (¬ Path h i j) × (¬ Path h j i)
    back pre post p q =
        let x : Ahead (pre ++ i ∷ j ∷ post) i j = ahead_right pre (i ∷ j ∷ post) i j (inl (refl, inl refl)) in
        ((λ e. p.once i (subst⁻¹ (λ z. Ahead (pre ++ i ∷ j ∷ post) i z) e x)), q.kept j i (ahead_right pre (j ∷ i ∷ post) j i (inl (refl, inl refl))), p.kept i j x)

    forth : (i < j) ⊎ ((i ≡ j) ⊎ (j < i)) → i ≢ j → ¬ Path h i j → ¬ Path h j i → Exchangeable h i j
    forth (inl l) n p q = exchange h a i j l lj p
    forth (inr (inl e)) n p q = absurd (n e)
    forth (inr (inr l)) n p q = let v = exchange h a j i l li q in (v.0, v.1, v.3, v.2)
