-- Two events that no path joins stand side by side in two allowed orders, either way round.
use mathlib.Core.Path.{◌≡◌, sym, ◌∙◌, subst, subst₂}
use mathlib.Core.Logic.{◌⊎◌, inl, inr, ◌≢◌, ⊎_elim, ⊎_swap}
use mathlib.Core.List.{List, [], ◌∷◌, ◌++◌}
use Prim.Native.Nat.{ℕ, ◌<◌}
use native.Mathlib.Omega.{arith}
use native.Mathlib.Decide.{ℕ_discrete}
use lib.ListN.{length}
use Rattle.graph.specs.History.{History}
use Rattle.graph.specs.Graph.{Path}
use Rattle.graph.specs.Orders.{In, Ahead, Allowed, Listed}
use Rattle.graph.specs.Theorems.{SwappedOrders}
use Rattle.graph.proofs.PathsRise.{path_up, path_end, path_trans}

pub in_append : (a b : List ℕ) (x : ℕ) → In (a ++ b) x → In a x ⊎ In b x
in_append [] b x p = inr p
in_append (y ∷ a) b x (inl e) = inl (inl e)
in_append (y ∷ a) b x (inr p) = ⊎_elim (λ q. inl (inr q)) inr (in_append a b x p)

pub in_left : (a b : List ℕ) (x : ℕ) → In a x → In (a ++ b) x
in_left [] b x p = absurd p
in_left (y ∷ a) b x (inl e) = inl e
in_left (y ∷ a) b x (inr p) = inr (in_left a b x p)

pub in_right : (a b : List ℕ) (x : ℕ) → In b x → In (a ++ b) x
in_right [] b x p = p
in_right (y ∷ a) b x p = inr (in_right a b x p)

pub ahead_append : (a b : List ℕ) (x y : ℕ) → Ahead (a ++ b) x y → Ahead a x y ⊎ ((In a x × In b y) ⊎ Ahead b x y)
ahead_append [] b x y p = inr (inr p)
ahead_append (z ∷ a) b x y (inl p) = ⊎_elim (λ q. inl (inl (p.0, q))) (λ q. inr (inl (inl p.0, q))) (in_append a b y p.1)
ahead_append (z ∷ a) b x y (inr p) = ⊎_elim (λ q. inl (inr q)) (⊎_elim (λ q. inr (inl (inr q.0, q.1))) (λ q. inr (inr q))) (ahead_append a b x y p)

pub in_dec : (l : List ℕ) (x : ℕ) → Dec (In l x)
in_dec [] x = no (λ p. p)
in_dec (y ∷ l) x = go (ℕ_discrete y x) (in_dec l x)
  where
    go : Dec (y ≡ x) → Dec (In l x) → Dec (In (y ∷ l) x)
    go (yes p) q = yes (inl p)
    go (no n) (yes q) = yes (inr q)
    go (no n) (no m) = no (⊎_elim n m)

module _ (h : History) (a b : ℕ) (a_lt : a < length h) (b_lt : b < length h) (apart : a ≢ b) (ab : ¬ Path h a b) (ba : ¬ Path h b a)
    (pre post : List ℕ)
    (front : Listed (λ k. Path h k a ⊎ Path h k b) pre)
    (rest : Listed (λ k. (k < length h) × (k ≢ a) × (k ≢ b) × (¬ (Path h k a ⊎ Path h k b))) post) where
  -- what has a path to something in front is itself in front
  down : (x y : ℕ) → In pre x → Path h y x → Path h y a ⊎ Path h y b
  down x y i p = ⊎_elim (λ q. inl (path_trans p q)) (λ q. inr (path_trans p q)) ((front.those x).1 i)

  -- and it is none of the two, nor of the rest
  not_behind : (y : ℕ) → In (a ∷ b ∷ post) y → Path h y a ⊎ Path h y b → ⊥
  not_behind y (inl e) (inl p) = let k = path_up p in omega arith
  not_behind y (inl e) (inr p) = ab (subst (λ z. Path h z b) (sym e) p)
  not_behind y (inr (inl e)) (inl p) = ba (subst (λ z. Path h z a) (sym e) p)
  not_behind y (inr (inl e)) (inr p) = let k = path_up p in omega arith
  not_behind y (inr (inr i)) p = ((rest.those y).1 i).3 p

  one_allowed : Allowed h (pre ++ a ∷ b ∷ post)
  one_allowed = record { all = λ k. (all_in k, all_out k); once = λ k p. once k (ahead_append pre (a ∷ b ∷ post) k k p); kept = λ x y p. kept x y (ahead_append pre (a ∷ b ∷ post) x y p) }
    where
      all_in : (k : ℕ) → k < length h → In (pre ++ a ∷ b ∷ post) k
      all_in k l = go (in_dec pre k) (ℕ_discrete a k) (ℕ_discrete b k)
        where
          go : Dec (In pre k) → Dec (a ≡ k) → Dec (b ≡ k) → In (pre ++ a ∷ b ∷ post) k
          go (yes p) d e = in_left pre (a ∷ b ∷ post) k p
          go (no n) (yes p) e = in_right pre (a ∷ b ∷ post) k (inl p)
          go (no n) (no m) (yes p) = in_right pre (a ∷ b ∷ post) k (inr (inl p))
          go (no n) (no m) (no o) = in_right pre (a ∷ b ∷ post) k (inr (inr ((rest.those k).0 (l, (λ e. m (sym e)), (λ e. o (sym e)), (λ p. n ((front.those k).0 p))))))

      all_out : (k : ℕ) → In (pre ++ a ∷ b ∷ post) k → k < length h
      all_out k i = go (in_append pre (a ∷ b ∷ post) k i)
        where
          go : In pre k ⊎ In (a ∷ b ∷ post) k → k < length h
          go (inl p) = ⊎_elim (λ q. let u = path_up q in let e = path_end q in omega arith) (λ q. let u = path_up q in let e = path_end q in omega arith) ((front.those k).1 p)
          go (inr (inl e)) = omega arith
          go (inr (inr (inl e))) = omega arith
          go (inr (inr (inr p))) = ((rest.those k).1 p).0

      once : (k : ℕ) → Ahead pre k k ⊎ ((In pre k × In (a ∷ b ∷ post) k) ⊎ Ahead (a ∷ b ∷ post) k k) → ⊥
      once k (inl p) = let l = front.rising k k p in omega arith
      once k (inr (inl p)) = not_behind k p.1 ((front.those k).1 p.0)
      once k (inr (inr (inl (e, inl f)))) = apart (e ∙ sym f)
      once k (inr (inr (inl (e, inr p)))) = ((rest.those k).1 p).1 (sym e)
      once k (inr (inr (inr (inl (e, p))))) = ((rest.those k).1 p).2 (sym e)
      once k (inr (inr (inr (inr p)))) = let l = rest.rising k k p in omega arith

      kept : (x y : ℕ) → Ahead pre x y ⊎ ((In pre x × In (a ∷ b ∷ post) y) ⊎ Ahead (a ∷ b ∷ post) x y) → Path h y x → ⊥
      kept x y (inl p) q = let l = front.rising x y p in let u = path_up q in omega arith
      kept x y (inr (inl p)) q = not_behind y p.1 (down x y p.0 q)
      kept x y (inr (inr (inl (e, inl f)))) q = ba (subst₂ (λ u v. Path h u v) (sym f) (sym e) q)
      kept x y (inr (inr (inl (e, inr p)))) q = ((rest.those y).1 p).3 (inl (subst (λ z. Path h y z) (sym e) q))
      kept x y (inr (inr (inr (inl (e, p))))) q = ((rest.those y).1 p).3 (inr (subst (λ z. Path h y z) (sym e) q))
      kept x y (inr (inr (inr (inr p)))) q = let l = rest.rising x y p in let u = path_up q in omega arith

pub swapped_orders : SwappedOrders
swapped_orders h i j l m np pre post front rest = (
  one_allowed h i j (omega arith) m (omega arith) np back pre post front rest,
  one_allowed h j i m (omega arith) (omega arith) back np pre post
      (record { those = λ k. (λ p. (front.those k).0 (⊎_swap p), λ p. ⊎_swap ((front.those k).1 p)); rising = front.rising })
      (record { those = λ k. (λ p. (rest.those k).0 (p.0, p.2, p.1, (λ q. p.3 (⊎_swap q))), λ p. let q = (rest.those k).1 p in (q.0, q.2, q.1, (λ u. q.3 (⊎_swap u)))); rising = rest.rising }),
)
  where
    back : ¬ Path h j i
    back p = let k = path_up p in omega arith
