-- The slots that a history gives are whole, and the ordering's meaning answers for the history.
use Rattle.std.proofs.Common.{◌≡◌, ℕ, suc, ◌<◌, ◌≤◌, Bool, true, false, cond, ◌&&◌, T, eqb, ltb, List, [], ◌∷◌, length, Some, Option, refl, ap, ◌∙◌, inl, inr, arith, ltb-true, lt-ltb, eqb-true}
use Rattle.graph.specs.History.{Event, open_task, open_finish, close, access, History, scopes, innermost_task, Place, before, unordered, place}
use Rattle.orderings.specs.declared.words.Kind.TheVariants.{Task}
use Rattle.orderings.specs.Meaning.{Meaning, Begun, kind_at, word_of}
use Rattle.orderings.specs.Past.{kind_of, as_begun, Means}
use Rattle.orderings.proofs.Means.{kind_stays, kind_innermost}
use Rattle.orderings.proofs.Telling.{kind_as}
use Rattle.rows.specs.declared.row.Slot.{Slot}
use Rattle.rows.specs.Slots.{holds_class, has_room, first_clash, settled}
use Rattle.rows.specs.Rows.{is_unordered_in, says_unordered, says_task, slots_whole}
use Rattle.conversation.specs.Replies.{Setting}
use Rattle.conversation.proofs.RowsLead.{is_free, slot, settle, row, Holds, Once}
use Rattle.conversation.proofs.Runs.{Good}

module _ (s : Setting) where
  -- the class is known, the task begun, and the event among those of the history
  abbrev pub Sane : History → Slot → Type 0
  Sane h x = T (s.known x.class) × (kind_of h x.task ≡ Some Task) × (x.event < length h)

  abbrev pub AllSane : History → List Slot → Type 0
  AllSane h [] = Unit {0}
  AllSane h (x ∷ l) = Sane h x × AllSane h l

  all_stay : (e : Event) (h : History) (l : List Slot) → AllSane h l → AllSane (e ∷ h) l
  all_stay e h [] a = tt
  all_stay e h (x ∷ l) ((k, o, b), a) = ((k, kind_stays e h x.task o, omega arith), all_stay e h l a)

  all_settled : (free : ℕ → Bool) (h : History) (c n t : ℕ) (l : List Slot) → Sane h (slot c n t) → AllSane h l → AllSane h (settled free (slot c n t) l)
  all_settled free h c n t [] x a = (x, tt)
  all_settled free h c n t (y ∷ l) x (b, a) = go (eqb y.class c) (free y.task) (all_settled free h c n t l x a)
    where
      go : (p q : Bool) → AllSane h (settled free (slot c n t) l) → AllSane h (cond p (cond q y (slot c n t) ∷ l) (y ∷ settled free (slot c n t) l))
      go true true ih = (b, a)
      go true false ih = (x, a)
      go false q ih = (b, ih)

  pub rows_sane : (h : History) → Good s h → (r : ℕ) → AllSane h (row h r)
  rows_sane [] g r = tt
  rows_sane (open_task ∷ h) g r = all_stay open_task h (row h r) (rows_sane h g r)
  rows_sane (open_finish ∷ h) g r = all_stay open_finish h (row h r) (rows_sane h g r)
  rows_sane (close ∷ h) g r = all_stay close h (row h r) (rows_sane h (g.0.0, g.1) r)
  rows_sane (access c q ∷ h) g r = go (eqb q r) (all_stay (access c q) h (row h r) (rows_sane h (g.0, g.1.1) r))
    where
      go : (b : Bool) → AllSane (access c q ∷ h) (row h r) → AllSane (access c q ∷ h) (cond b (settle h c (length h) (innermost_task (scopes h)) (row h r)) (row h r))
      go true a = all_settled (is_free h) (access c q ∷ h) c (length h) (innermost_task (scopes h)) (row h r) (g.1.0, kind_stays (access c q) h (innermost_task (scopes h)) (kind_innermost h g.0), omega arith) a
      go false a = a

not_held : (c : ℕ) (l : List Slot) → ((i t : ℕ) → ¬ Holds l c i t) → holds_class c l ≡ false
not_held c [] n = refl
not_held c (x ∷ l) n = go (eqb x.class c) refl (not_held c l (λ i t y. n i t (inr y)))
  where
    go : (b : Bool) → eqb x.class c ≡ b → holds_class c l ≡ false → cond b true (holds_class c l) ≡ false
    go true e ih = absurd (n x.event x.task (inl (eqb-true x.class c e, refl, refl)))
    go false e ih = ih

is_true : (b : Bool) → T b → b ≡ true
is_true true t = refl
is_true false t = absurd t

module _ (n : ℕ) (h : History) (m : Meaning) (M : Means n h m) where
  free_as : (t : ℕ) → kind_of h t ≡ Some Task → is_unordered_in m.begun t ≡ is_free h t
  free_as t k = ap (λ (o : Option Begun). says_unordered (word_of o)) (M.scope t ∙ ap (as_begun h t) k) ∙ go (place h t) refl
    where
      go : (p : Place) → place h t ≡ p → says_unordered (word_of (as_begun h t (Some Task))) ≡ is_free h t
      go (before x) e = rw e
      go (unordered x) e = rw e

  pub rows_whole : (s : Setting) (l : List Slot) → AllSane s h l → Once l → slots_whole s.known m.begun (length h) l ≡ true
  rows_whole s [] a o = refl
  rows_whole s (x ∷ l) ((k, t, b), a) (o, os) =
      let p = is_true (s.known x.class) k in
      let q = not_held x.class l o in
      let r : says_task (kind_at m.begun x.task) ≡ true = ap says_task (kind_as n h m M x.task ∙ t) in
      let v = lt-ltb x.event (length h) b in
      simp (p, q, r, v) (rows_whole s l a os)

  pub first_same : (s : Setting) (c n : ℕ) (l : List Slot) → AllSane s h l → first_clash s.clash (is_unordered_in m.begun) c n l ≡ first_clash s.clash (is_free h) c n l
  first_same s c n [] a = refl
  first_same s c n (x ∷ l) ((k, t, b), a) =
      ap (λ (z : Bool). cond (s.clash x.class c && z) (Some (x.event, n)) (first_clash s.clash (is_unordered_in m.begun) c n l)) (free_as x.task t) ∙
      ap (λ (f : Option (ℕ × ℕ)). cond (s.clash x.class c && is_free h x.task) (Some (x.event, n)) f) (first_same s c n l a)

  pub settled_same : (s : Setting) (c e u : ℕ) (l : List Slot) → AllSane s h l → settled (is_unordered_in m.begun) (slot c e u) l ≡ settle h c e u l
  settled_same s c e u [] a = refl
  settled_same s c e u (x ∷ l) ((k, t, b), a) =
      ap (λ (z : Bool). cond (eqb x.class c) (cond z x (slot c e u) ∷ l) (x ∷ settled (is_unordered_in m.begun) (slot c e u) l)) (free_as x.task t) ∙
      ap (λ (z : List Slot). cond (eqb x.class c) (cond (is_free h x.task) x (slot c e u) ∷ l) (x ∷ z)) (settled_same s c e u l a)

settled_length : (free : ℕ → Bool) (c n t : ℕ) (l : List Slot) → length (settled free (slot c n t) l) ≡ cond (holds_class c l) (length l) (suc (length l))
settled_length free c n t [] = refl
settled_length free c n t (x ∷ l) = go (eqb x.class c) (free x.task) (holds_class c l) (settled_length free c n t l)
  where
    go : (p q r : Bool) → length (settled free (slot c n t) l) ≡ cond r (length l) (suc (length l)) → length (cond p (cond q x (slot c n t) ∷ l) (x ∷ settled free (slot c n t) l)) ≡ cond (cond p true r) (suc (length l)) (suc (suc (length l)))
    go true true r ih = refl
    go true false r ih = refl
    go false q true ih = ap suc ih
    go false q false ih = ap suc ih

pub settled_more : (free : ℕ → Bool) (c n t : ℕ) (l : List Slot) → length l ≤ length (settled free (slot c n t) l)
settled_more free c n t l = go (holds_class c l) (settled_length free c n t l)
  where
    go : (b : Bool) → length (settled free (slot c n t) l) ≡ cond b (length l) (suc (length l)) → length l ≤ length (settled free (slot c n t) l)
    go true e = omega arith
    go false e = omega arith

pub settled_few : (free : ℕ → Bool) (c n t : ℕ) (l : List Slot) → length l ≤ 8 → has_room c l ≡ true → length (settled free (slot c n t) l) ≤ 8
settled_few free c n t l h room = go (holds_class c l) (settled_length free c n t l) room
  where
    go : (b : Bool) → length (settled free (slot c n t) l) ≡ cond b (length l) (suc (length l)) → cond b true (ltb (length l) 8) ≡ true → length (settled free (slot c n t) l) ≤ 8
    go true e r = omega arith
    go false e r = let k = ltb-true (length l) 8 r in omega arith
