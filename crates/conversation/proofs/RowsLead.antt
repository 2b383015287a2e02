-- The row that a history gives by settling access after access, and that it holds the leaders.
use Rattle.std.proofs.Common.{◌≡◌, ℕ, Bool, true, false, cond, eqb, ◌≢◌, ◌⊎◌, ◌↔◌, List, [], ◌∷◌, length, sym, refl, ◌∙◌, subst, inl, inr, ⊎_elim, arith}
use mathlib.Core.Path.{subst⁻¹}
use native.Mathlib.Decide.{ℕ_discrete}
use Rattle.graph.specs.History.{Event, open_task, open_finish, close, access, History, Place, before, unordered, place, is_unordered, scopes, innermost_task, Before, Unordered}
use Rattle.graph.specs.Leaders.{Access, Leader, first, takes_over, remains, other}
use Rattle.graph.proofs.Places.{by_eqb}
use Rattle.graph.proofs.LeadersDecide.{leader_access, leader_or_none}
use Rattle.rows.specs.declared.row.Slot.{Slot}
use Rattle.rows.specs.Slots.{settled}

-- whether a task is unordered after the history h
abbrev pub is_free : History → ℕ → Bool
is_free h t = is_unordered (place h t)

abbrev pub slot : ℕ → ℕ → ℕ → Slot
slot c n t = record { class = c; event = n; task = t }

-- the slots after an access of class c by the task t, event n
abbrev pub settle : History → ℕ → ℕ → ℕ → List Slot → List Slot
settle h c n t row = settled (is_free h) (slot c n t) row

-- the filled slots of the row of record r
abbrev pub row : History → ℕ → List Slot
row [] r = []
row (open_task ∷ h) r = row h r
row (open_finish ∷ h) r = row h r
row (close ∷ h) r = row h r
row (access c q ∷ h) r = cond (eqb q r) (settle h c (length h) (innermost_task (scopes h)) (row h r)) (row h r)

-- a slot holds event i, an access of class c by the task t
abbrev pub Holds : List Slot → ℕ → ℕ → ℕ → Type 0
Holds [] c i t = ⊥
Holds (s ∷ row) c i t = ((s.class ≡ c) × (s.event ≡ i) × (s.task ≡ t)) ⊎ Holds row c i t

-- the slots hold the leaders at record r, one for each class that has reached the record
abbrev pub RowRight : History → ℕ → List Slot → Type 0
RowRight h r row = (c i t : ℕ) → Leader c r h i t ↔ Holds row c i t

-- what an access of class c to record r does to the leader of that class there
abbrev Changed : ℕ → ℕ → History → ℕ → ℕ → Type 0
Changed c r h i t =
    (((j u : ℕ) → ¬ Access h j c r u) × (i ≡ length h) × (innermost_task (scopes h) ≡ t)) ⊎
    ((((l : ℕ) × (u : ℕ) × Leader c r h l u × Before h u) × (i ≡ length h) × (innermost_task (scopes h) ≡ t)) ⊎
    (Leader c r h i t × Unordered h t))

leader_cases : {c r : ℕ} {e : Event} {h : History} {i t : ℕ} → Leader c r (e ∷ h) i t → ((access c r ≡ e) × Changed c r h i t) ⊎ ((e ≢ access c r) × Leader c r h i t)
leader_cases (first n) = inl (refl, inl (n, refl, refl))
leader_cases (takes_over {i = l} {t = u} k b) = inl (refl, inr (inl ((l, u, k, b), refl, refl)))
leader_cases (remains k f) = inl (refl, inr (inr (k, f)))
leader_cases (other n k) = inr (n, k)

leader_changed : (c r : ℕ) (h : History) (i t : ℕ) → Changed c r h i t → Leader c r (access c r ∷ h) i t
leader_changed c r h i t (inl (n, p, q)) = subst⁻¹ (λ k. Leader c r (access c r ∷ h) k t) p (subst (Leader c r (access c r ∷ h) (length h)) q (first n))
leader_changed c r h i t (inr (inl ((l, u, k, b), p, q))) = subst⁻¹ (λ k. Leader c r (access c r ∷ h) k t) p (subst (Leader c r (access c r ∷ h) (length h)) q (takes_over k b))
leader_changed c r h i t (inr (inr (k, f))) = remains k f

-- no class has two slots
abbrev pub Once : List Slot → Type 0
Once [] = Unit {0}
Once (s ∷ ρ) = ((i t : ℕ) → ¬ Holds ρ s.class i t) × Once ρ

both_words : {A : Type 0} (h : History) (t : ℕ) → Before h t → Unordered h t → A
both_words h t (s, e) (m, f) = let z : ◌≡◌ {A = ℕ} 0 1 = cc in absurd (omega arith)

module _ (h : History) (c n u : ℕ) where
  -- the slots of other classes stay
  other_class : (ρ : List Slot) (d i t : ℕ) → d ≢ c → Holds (settle h c n u ρ) d i t ↔ Holds ρ d i t
  other_class [] d i t ne = (⊎_elim (λ v. absurd (ne (sym v.0))) (λ x. x), λ x. absurd x)
  other_class (s ∷ ρ) d i t ne = go (by_eqb s.class c (cond (is_unordered (place h s.task)) s (slot c n u) ∷ ρ) (s ∷ settle h c n u ρ)) (other_class ρ d i t ne)
    where
      head : (b : Bool) → s.class ≡ c → ¬ (((cond b s (slot c n u)).class ≡ d) × ((cond b s (slot c n u)).event ≡ i) × ((cond b s (slot c n u)).task ≡ t))
      head true p v = ne (sym v.0 ∙ p)
      head false p v = ne (sym v.0)

      go : ((s.class ≡ c) × (settle h c n u (s ∷ ρ) ≡ cond (is_unordered (place h s.task)) s (slot c n u) ∷ ρ)) ⊎ ((s.class ≢ c) × (settle h c n u (s ∷ ρ) ≡ s ∷ settle h c n u ρ)) → Holds (settle h c n u ρ) d i t ↔ Holds ρ d i t → Holds (settle h c n u (s ∷ ρ)) d i t ↔ Holds (s ∷ ρ) d i t
      go (inl (p, q)) ih = ((λ x. ⊎_elim (λ v. absurd (head (is_unordered (place h s.task)) p v)) inr (subst (λ z. Holds z d i t) q x)), (λ x. subst⁻¹ (λ z. Holds z d i t) q (⊎_elim (λ v. absurd (ne (sym v.0 ∙ p))) inr x)))
      go (inr (p, q)) ih = ((λ x. ⊎_elim inl (λ y. inr (ih.0 y)) (subst (λ z. Holds z d i t) q x)), (λ x. subst⁻¹ (λ z. Holds z d i t) q (⊎_elim inl (λ y. inr (ih.1 y)) x)))

  once_settled : (ρ : List Slot) → Once ρ → Once (settle h c n u ρ)
  once_settled [] o = ((λ i t x. x), tt)
  once_settled (s ∷ ρ) (o, os) = go (by_eqb s.class c (cond (is_unordered (place h s.task)) s (slot c n u) ∷ ρ) (s ∷ settle h c n u ρ)) (once_settled ρ os)
    where
      head : (b : Bool) → s.class ≡ c → (i t : ℕ) → ¬ Holds ρ (cond b s (slot c n u)).class i t
      head true p i t x = o i t x
      head false p i t x = o i t (subst⁻¹ (λ z. Holds ρ z i t) p x)

      go : ((s.class ≡ c) × (settle h c n u (s ∷ ρ) ≡ cond (is_unordered (place h s.task)) s (slot c n u) ∷ ρ)) ⊎ ((s.class ≢ c) × (settle h c n u (s ∷ ρ) ≡ s ∷ settle h c n u ρ)) → Once (settle h c n u ρ) → Once (settle h c n u (s ∷ ρ))
      go (inl (p, q)) ih = subst⁻¹ Once q (head (is_unordered (place h s.task)) p, os)
      go (inr (p, q)) ih = subst⁻¹ Once q ((λ i t x. o i t ((other_class ρ s.class i t p).0 x)), ih)

  -- what the row has of class c afterwards
  abbrev Own : List Slot → ℕ → ℕ → Type 0
  Own ρ i t =
      (((l w : ℕ) → ¬ Holds ρ c l w) × (n ≡ i) × (u ≡ t)) ⊎
      ((((l : ℕ) × (w : ℕ) × Holds ρ c l w × Before h w) × (n ≡ i) × (u ≡ t)) ⊎
      (Holds ρ c i t × Unordered h t))

  own_class : (ρ : List Slot) → Once ρ → (i t : ℕ) → Holds (settle h c n u ρ) c i t ↔ Own ρ i t
  own_class [] o i t = (⊎_elim (λ v. inl ((λ l w x. x), v.1, v.2)) (λ x. absurd x), ⊎_elim (λ v. inl (refl, v.1, v.2)) (⊎_elim (λ v. absurd v.0.2) (λ v. absurd v.0)))
  own_class (s ∷ ρ) (o, os) i t = go (by_eqb s.class c (cond (is_unordered (place h s.task)) s (slot c n u) ∷ ρ) (s ∷ settle h c n u ρ)) (own_class ρ os i t)
    where
      gone : {A : Type 0} → s.class ≡ c → (l w : ℕ) → Holds ρ c l w → A
      gone p l w x = absurd (o l w (subst⁻¹ (λ z. Holds ρ z l w) p x))

      -- the slot of the class comes first
      here : s.class ≡ c → (p : Place) → place h s.task ≡ p → Holds (cond (is_unordered p) s (slot c n u) ∷ ρ) c i t ↔ Own (s ∷ ρ) i t
      here p (unordered m) e = (to, from)
        where
          free : Unordered h s.task
          free = (m, e)

          to : Holds (s ∷ ρ) c i t → Own (s ∷ ρ) i t
          to (inl v) = inr (inr (inl v, subst (Unordered h) v.2 free))
          to (inr x) = gone p i t x

          from : Own (s ∷ ρ) i t → Holds (s ∷ ρ) c i t
          from (inl v) = absurd (v.0 s.event s.task (inl (p, refl, refl)))
          from (inr (inl ((l, w, inl x, b), v, v'))) = both_words h w b (subst (Unordered h) x.2 free)
          from (inr (inl ((l, w, inr x, b), v, v'))) = gone p l w x
          from (inr (inr v)) = v.0
      here p (before m) e = (to, from)
        where
          bound : Before h s.task
          bound = (m, e)

          to : Holds (slot c n u ∷ ρ) c i t → Own (s ∷ ρ) i t
          to (inl v) = inr (inl ((s.event, s.task, inl (p, refl, refl), bound), v.1, v.2))
          to (inr x) = gone p i t x

          from : Own (s ∷ ρ) i t → Holds (slot c n u ∷ ρ) c i t
          from (inl v) = absurd (v.0 s.event s.task (inl (p, refl, refl)))
          from (inr (inl v)) = inl (refl, v.1, v.2)
          from (inr (inr (inl x, f))) = both_words h t (subst (Before h) x.2 bound) f
          from (inr (inr (inr x, f))) = gone p i t x

      -- or further on
      later : s.class ≢ c → Holds (settle h c n u ρ) c i t ↔ Own ρ i t → Holds (s ∷ settle h c n u ρ) c i t ↔ Own (s ∷ ρ) i t
      later p ih = (to, from)
        where
          narrow : (l w : ℕ) → Holds (s ∷ ρ) c l w → Holds ρ c l w
          narrow l w (inl v) = absurd (p v.0)
          narrow l w (inr x) = x

          to : Holds (s ∷ settle h c n u ρ) c i t → Own (s ∷ ρ) i t
          to (inl v) = absurd (p v.0)
          to (inr x) = ⊎_elim (λ v. inl ((λ l w y. v.0 l w (narrow l w y)), v.1, v.2)) (⊎_elim (λ v. inr (inl ((v.0.0, v.0.1, inr v.0.2, v.0.3), v.1, v.2))) (λ v. inr (inr (inr v.0, v.1)))) (ih.0 x)

          from : Own (s ∷ ρ) i t → Holds (s ∷ settle h c n u ρ) c i t
          from (inl v) = inr (ih.1 (inl ((λ l w y. v.0 l w (inr y)), v.1, v.2)))
          from (inr (inl v)) = inr (ih.1 (inr (inl ((v.0.0, v.0.1, narrow v.0.0 v.0.1 v.0.2, v.0.3), v.1, v.2))))
          from (inr (inr v)) = inr (ih.1 (inr (inr (narrow i t v.0, v.1))))

      go : ((s.class ≡ c) × (settle h c n u (s ∷ ρ) ≡ cond (is_unordered (place h s.task)) s (slot c n u) ∷ ρ)) ⊎ ((s.class ≢ c) × (settle h c n u (s ∷ ρ) ≡ s ∷ settle h c n u ρ)) → Holds (settle h c n u ρ) c i t ↔ Own ρ i t → Holds (settle h c n u (s ∷ ρ)) c i t ↔ Own (s ∷ ρ) i t
      go (inl (p, q)) ih = subst⁻¹ (λ z. Holds z c i t ↔ Own (s ∷ ρ) i t) q (here p (place h s.task) refl)
      go (inr (p, q)) ih = subst⁻¹ (λ z. Holds z c i t ↔ Own (s ∷ ρ) i t) q (later p ih)

-- the row stays where the event is no access to its record
row_stays : (e : Event) (h : History) (r : ℕ) → ((c : ℕ) → e ≢ access c r) → (ρ : List Slot) → RowRight h r ρ → RowRight (e ∷ h) r ρ
row_stays e h r n ρ R c i t = ((λ k. ⊎_elim (λ v. absurd (n c (sym v.0))) (λ v. (R c i t).0 v.1) (leader_cases k)), (λ x. other (n c) ((R c i t).1 x)))

row_settled : (d : ℕ) (h : History) (r : ℕ) (ρ : List Slot) → RowRight h r ρ → Once ρ → RowRight (access d r ∷ h) r (settle h d (length h) (innermost_task (scopes h)) ρ)
row_settled d h r ρ R o c i t = go (ℕ_discrete c d)
  where
    n : ℕ
    n = length h

    u : ℕ
    u = innermost_task (scopes h)

    go : Dec (c ≡ d) → Leader c r (access d r ∷ h) i t ↔ Holds (settle h d n u ρ) c i t
    go (no ne) = ((λ k. (other_class h d n u ρ c i t ne).1 (⊎_elim (λ v. absurd (ne (class v.0))) (λ v. (R c i t).0 v.1) (leader_cases k))), (λ x. other (λ e. ne (class (sym e))) ((R c i t).1 ((other_class h d n u ρ c i t ne).0 x))))
      where
        class : access c r ≡ access d r → c ≡ d
        class e = cc
    go (yes e) = subst (λ z. Leader c r (access z r ∷ h) i t ↔ Holds (settle h z n u ρ) c i t) e ((λ k. (own_class h c n u ρ o i t).1 (⊎_elim (λ v. to v.1) (λ v. absurd (v.0 refl)) (leader_cases k))), (λ x. leader_changed c r h i t (from ((own_class h c n u ρ o i t).0 x))))
      where
        to : Changed c r h i t → Own h c n u ρ i t
        to (inl (m, p, q)) = inl ((λ l w x. m l w (leader_access ((R c l w).1 x))), sym p, q)
        to (inr (inl ((l, w, k, b), p, q))) = inr (inl ((l, w, (R c l w).0 k, b), sym p, q))
        to (inr (inr (k, f))) = inr (inr ((R c i t).0 k, f))

        from : Own h c n u ρ i t → Changed c r h i t
        from (inl (m, p, q)) = ⊎_elim (λ k. absurd (m k.0 k.1 ((R c k.0 k.1).0 k.2))) (λ none. inl (none, sym p, q)) (leader_or_none h c r)
        from (inr (inl ((l, w, x, b), p, q))) = inr (inl ((l, w, (R c l w).1 x, b), sym p, q))
        from (inr (inr (x, f))) = inr (inr ((R c i t).1 x, f))

pub row_leads : (h : History) (r : ℕ) → RowRight h r (row h r) × Once (row h r)
row_leads [] r = ((λ c i t. (λ k. elim k [ ], λ x. absurd x)), tt)
row_leads (open_task ∷ h) r = (row_stays open_task h r (λ c e. let z : ◌≡◌ {A = ℕ} 0 1 = cc in omega arith) (row h r) (row_leads h r).0, (row_leads h r).1)
row_leads (open_finish ∷ h) r = (row_stays open_finish h r (λ c e. let z : ◌≡◌ {A = ℕ} 0 1 = cc in omega arith) (row h r) (row_leads h r).0, (row_leads h r).1)
row_leads (close ∷ h) r = (row_stays close h r (λ c e. let z : ◌≡◌ {A = ℕ} 0 1 = cc in omega arith) (row h r) (row_leads h r).0, (row_leads h r).1)
row_leads (access d q ∷ h) r = go (by_eqb q r (settle h d (length h) (innermost_task (scopes h)) (row h r)) (row h r)) (row_leads h r)
  where
    go : ((q ≡ r) × (row (access d q ∷ h) r ≡ settle h d (length h) (innermost_task (scopes h)) (row h r))) ⊎ ((q ≢ r) × (row (access d q ∷ h) r ≡ row h r)) → RowRight h r (row h r) × Once (row h r) → RowRight (access d q ∷ h) r (row (access d q ∷ h) r) × Once (row (access d q ∷ h) r)
    go (inl (p, e)) (R, o) = (
      subst⁻¹ (RowRight (access d q ∷ h) r) e (subst⁻¹ (λ z. RowRight (access d z ∷ h) r (settle h d (length h) (innermost_task (scopes h)) (row h r))) p (row_settled d h r (row h r) R o)),
      subst⁻¹ Once e (once_settled h d (length h) (innermost_task (scopes h)) (row h r) o),
    )
    go (inr (p, e)) (R, o) = (subst⁻¹ (RowRight (access d q ∷ h) r) e (row_stays (access d q) h r (λ c f. p (cc)) (row h r) R), subst⁻¹ Once e o)
