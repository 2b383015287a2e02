-- The slots that hold the leaders answer right: a clash exactly when some earlier access clashes and has no path.
use Rattle.std.proofs.Common.{Some, None, Option, ◌≡◌, ℕ, Bool, true, false, cond, ◌&&◌, T, ◌⊎◌, List, [], ◌∷◌, length, sym, refl, ap, ◌∙◌, subst, inl, inr, arith}
use mathlib.Core.Path.{subst⁻¹}
use Rattle.graph.specs.History.{History, Accepted, Place, before, unordered, place, is_unordered, Unordered}
use Rattle.graph.specs.Leaders.{LeaderClashes, AccessClashes}
use Rattle.graph.proofs.LeadersFind.{leaders_find_clashes}
use Rattle.rows.specs.declared.row.Slot.{Slot}
use Rattle.rows.specs.Slots.{first_clash}
use Rattle.conversation.proofs.RowsLead.{is_free, Holds, RowRight}

-- what an access of class c put next finds in the slots
abbrev pub answer : (ℕ → ℕ → Bool) → History → ℕ → List Slot → Option (ℕ × ℕ)
answer clash h c row = first_clash clash (is_free h) c (length h) row

module _ (clash : ℕ → ℕ → Bool) (h : History) (c : ℕ) where
  -- a slot that makes the answer
  record Hit (row : List Slot) (i : ℕ) : Type 0 where
    class : ℕ
    task : ℕ
    held : Holds row class i task
    clashes : T (clash class c)
    free : Unordered h task

  -- either the answer shows a hit, or there is none
  abbrev Answered : Option (ℕ × ℕ) → List Slot → Type 0
  Answered f row = ((i : ℕ) × (f ≡ Some (i, length h)) × Hit row i) ⊎ ((f ≡ None) × ((i : ℕ) → ¬ Hit row i))

  hit_later : (s : Slot) (row : List Slot) (i : ℕ) → Hit row i → Hit (s ∷ row) i
  hit_later s row i x = record { class = x.class; task = x.task; held = inr x.held; clashes = x.clashes; free = x.free }

  answered : (row : List Slot) → Answered (answer clash h c row) row
  answered [] = inr (refl, (λ i x. x.held))
  answered (s ∷ row) = go (clash s.class c) (λ x. x) (λ x. x) (place h s.task) refl (answered row)
    where
      here : (i class t : ℕ) → Holds (s ∷ row) class i t → T (clash class c) → Unordered h t → (T (clash s.class c) → Unordered h s.task → ⊥) → Hit row i
      here i class t (inl (p, q, w)) k f n = absurd (n (subst⁻¹ (λ z. T (clash z c)) p k) (subst⁻¹ (Unordered h) w f))
      here i class t (inr x) k f n = record { class = class; task = t; held = x; clashes = k; free = f }

      later : (T (clash s.class c) → Unordered h s.task → ⊥) → Answered (answer clash h c row) row → Answered (answer clash h c row) (s ∷ row)
      later n (inl (i, e, x)) = inl (i, e, hit_later s row i x)
      later n (inr (e, m)) = inr (e, (λ i x. m i (here i x.class x.task x.held x.clashes x.free n)))

      go : (b : Bool) → (T b → T (clash s.class c)) → (T (clash s.class c) → T b) → (p : Place) → place h s.task ≡ p → Answered (answer clash h c row) row → Answered (cond (b && is_unordered p) (Some (s.event, length h)) (answer clash h c row)) (s ∷ row)
      go true f g (unordered m) e r = inl (s.event, refl, record { class = s.class; task = s.task; held = inl (refl, refl, refl); clashes = f tt; free = (m, e) })
      go true f g (before m) e r = later (λ k x. never m x.0 (sym e ∙ x.1)) r
        where
          never : (a b : ℕ) → before a ≡ unordered b → ⊥
          never a b e = let z : ◌≡◌ {A = ℕ} 0 1 = cc in omega arith
      go false f g p e r = later (λ k x. g k) r

-- An access of class c to record r, put next, is answered clash exactly when some earlier access clashes, and one that does is shown.
pub record Exact (clash : ℕ → ℕ → Bool) (h : History) (c r : ℕ) (f : Option (ℕ × ℕ)) : Type 0 where
  pub shown : (i k : ℕ) → f ≡ Some (i, k) → AccessClashes clash h c r i × (k ≡ length h)
  pub clear : f ≡ None → (i : ℕ) → ¬ AccessClashes clash h c r i

pub answer_exact : (clash : ℕ → ℕ → Bool) (h : History) → Accepted h → (c r : ℕ) (row : List Slot) → RowRight h r row → Exact clash h c r (answer clash h c row)
answer_exact clash h a c r row right = go (answer clash h c row) (answered clash h c row)
  where
    to_leader : (i : ℕ) → Hit clash h c row i → LeaderClashes clash h c r i
    to_leader i x = record { class = x.class; task = x.task; leader = (right x.class i x.task).1 x.held; clashes = x.clashes; free = x.free }

    of_leader : (i : ℕ) → LeaderClashes clash h c r i → Hit clash h c row i
    of_leader i x = record { class = x.class; task = x.task; held = (right x.class i x.task).0 x.leader; clashes = x.clashes; free = x.free }

    apart : (p : ℕ × ℕ) → None ≡ Some p → ⊥
    apart p e = let z : ◌≡◌ {A = ℕ} 0 1 = cc in omega arith

    go : (f : Option (ℕ × ℕ)) → Answered clash h c f row → Exact clash h c r f
    go f (inl (i, e, x)) =
        let k = (leaders_find_clashes clash h a c r).1 i (to_leader i x) in
        record {
          shown = λ j l q. (let w : ◌≡◌ {A = ℕ × ℕ} (i, length h) (j, l) = cc in (subst (AccessClashes clash h c r) (ap (λ (v : ℕ × ℕ). v.0) w) k, sym (ap (λ (v : ℕ × ℕ). v.1) w)));
          clear = λ q. absurd (apart (i, length h) (sym q ∙ e));
        }
    go f (inr (e, n)) = record {
      shown = λ j l q. absurd (apart (j, l) (sym e ∙ q));
      clear = λ q j k. (let x = (leaders_find_clashes clash h a c r).0 (j, k) in n x.0 (of_leader x.0 x.1));
    }
