-- The slots that a history gives are the leaders of the classes that reached the record, in the order of their first access.
use Rattle.std.proofs.Common.{◌≡◌, ℕ, ◌-◌, Bool, true, false, cond, ◌&&◌, eqb, ltb, ◌≢◌, List, [], ◌∷◌, ◌++◌, map, length, replicate, Some, Option, sym, refl, ap, ◌∙◌, inl, inr, eq-eqb, ne_eqb, eqb-true}
use borrow.Author.Tests.{eqb-false}
use Rattle.std.proofs.lemmas.List.{length-map, take_at}
use Rattle.graph.specs.History.{open_task, open_finish, close, access, History, scopes, innermost_task}
use Rattle.rows.specs.declared.row.Row.{Row}
use Rattle.rows.specs.declared.row.Slot.{Slot}
use Rattle.rows.specs.declared.words.Leader.{Leader}
use Rattle.rows.specs.Slots.{holds_class, has_room, leader_in, led_by, first_clash, settled}
use Rattle.rows.specs.Rows.{no_slot, filled}
use Rattle.conversation.specs.Leaders.{with_class, reached, newest, taken_over, leader, slot_of, slots_of, row_of}
use Rattle.conversation.specs.Replies.{Setting, is_among, room_for, clash_or, first_found}
use Rattle.conversation.proofs.RowsLead.{is_free, slot, row, Holds, Once, row_leads}
use Rattle.conversation.proofs.FirstClash.{answer}

abbrev classes : List Slot → List ℕ
classes l = map (λ (x : Slot). x.class) l

settled_classes : (free : ℕ → Bool) (c n t : ℕ) (l : List Slot) → with_class c (classes l) ≡ classes (settled free (slot c n t) l)
settled_classes free c n t [] = refl
settled_classes free c n t (x ∷ l) = go (eqb x.class c) refl (free x.task) (settled_classes free c n t l)
  where
    go : (p : Bool) → eqb x.class c ≡ p → (q : Bool) → with_class c (classes l) ≡ classes (settled free (slot c n t) l) → cond p (x.class ∷ classes l) (x.class ∷ with_class c (classes l)) ≡ classes (cond p (cond q x (slot c n t) ∷ l) (x ∷ settled free (slot c n t) l))
    go true e true ih = refl
    go true e false ih = ap (λ (d : ℕ). d ∷ classes l) (eqb-true x.class c e)
    go false e q ih = ap (λ (ds : List ℕ). x.class ∷ ds) ih

reached_as : (h : History) (r : ℕ) → reached h r ≡ classes (row h r)
reached_as [] r = refl
reached_as (open_task ∷ h) r = reached_as h r
reached_as (open_finish ∷ h) r = reached_as h r
reached_as (close ∷ h) r = reached_as h r
reached_as (access c q ∷ h) r = go (eqb q r) (reached_as h r)
  where
    go : (b : Bool) → reached h r ≡ classes (row h r) → cond b (with_class c (reached h r)) (reached h r) ≡ classes (cond b (settled (is_free h) (slot c (length h) (innermost_task (scopes h))) (row h r)) (row h r))
    go true e = ap (with_class c) e ∙ settled_classes (is_free h) c (length h) (innermost_task (scopes h)) (row h r)
    go false e = e

among_as : (c : ℕ) (l : List Slot) → is_among c (classes l) ≡ holds_class c l
among_as c [] = refl
among_as c (x ∷ l) = ap (cond (eqb x.class c) true) (among_as c l)

pub room_as : (h : History) (c r : ℕ) → room_for c (reached h r) ≡ has_room c (row h r)
room_as h c r = ap (room_for c) (reached_as h r) ∙ ap (λ (b : Bool). cond b true (ltb (length (classes (row h r))) 8)) (among_as c (row h r)) ∙ ap (λ (n : ℕ). cond (holds_class c (row h r)) true (ltb n 8)) (length-map (row h r) (λ (x : Slot). x.class))

-- settling changes the leader of one class
module _ (h : History) (d : ℕ) where
  abbrev after_it : List Slot → List Slot
  after_it l = settled (is_free h) (slot d (length h) (innermost_task (scopes h))) l

  leader_settled : (l : List Slot) (c : ℕ) → cond (eqb d c) (taken_over h (leader_in l c)) (leader_in l c) ≡ leader_in (after_it l) c
  leader_settled [] c = refl
  leader_settled (x ∷ l) c = go (eqb x.class d) refl (leader_settled l c)
    where
      here : (a f : Bool) → cond a (cond f (Some (led_by x)) (Some (newest h))) (leader_in l c) ≡ cond a (Some (led_by (cond f x (slot d (length h) (innermost_task (scopes h)))))) (leader_in l c)
      here true true = refl
      here true false = refl
      here false f = refl

      same_class : (f : Bool) → x.class ≡ d → eqb (cond f x (slot d (length h) (innermost_task (scopes h)))).class c ≡ eqb d c
      same_class true e = ap (λ (k : ℕ). eqb k c) e
      same_class false e = refl

      inside : (a : Bool) → cond a (taken_over h (cond a (Some (led_by x)) (leader_in l c))) (cond a (Some (led_by x)) (leader_in l c)) ≡ cond a (cond (is_free h x.task) (Some (led_by x)) (Some (newest h))) (leader_in l c)
      inside true = refl
      inside false = refl

      apart : (a b : Bool) → eqb x.class c ≡ a → eqb d c ≡ b → x.class ≢ d → cond b (taken_over h (leader_in l c)) (leader_in l c) ≡ leader_in (after_it l) c → cond b (taken_over h (cond a (Some (led_by x)) (leader_in l c))) (cond a (Some (led_by x)) (leader_in l c)) ≡ cond a (Some (led_by x)) (leader_in (after_it l) c)
      apart true true p q ne ih = absurd (ne (eqb-true x.class c p ∙ sym (eqb-true d c q)))
      apart true false p q ne ih = refl
      apart false b p q ne ih = ih

      go : (p : Bool) → eqb x.class d ≡ p → cond (eqb d c) (taken_over h (leader_in l c)) (leader_in l c) ≡ leader_in (after_it l) c → cond (eqb d c) (taken_over h (leader_in (x ∷ l) c)) (leader_in (x ∷ l) c) ≡ leader_in (cond p (cond (is_free h x.task) x (slot d (length h) (innermost_task (scopes h))) ∷ l) (x ∷ after_it l)) c
      go true e ih =
          let q = eqb-true x.class d e in
          ap (λ (k : ℕ). cond (eqb d c) (taken_over h (cond (eqb k c) (Some (led_by x)) (leader_in l c))) (cond (eqb k c) (Some (led_by x)) (leader_in l c))) q ∙
          inside (eqb d c) ∙
          here (eqb d c) (is_free h x.task) ∙
          ap (λ (a : Bool). cond a (Some (led_by (cond (is_free h x.task) x (slot d (length h) (innermost_task (scopes h)))))) (leader_in l c)) (sym (same_class (is_free h x.task) q))
      go false e ih = apart (eqb x.class c) (eqb d c) refl refl (eqb-false x.class d e) ih

leader_as : (h : History) (c r : ℕ) → leader h c r ≡ leader_in (row h r) c
leader_as [] c r = refl
leader_as (open_task ∷ h) c r = leader_as h c r
leader_as (open_finish ∷ h) c r = leader_as h c r
leader_as (close ∷ h) c r = leader_as h c r
leader_as (access d q ∷ h) c r = go (eqb q r) (leader_as h c r)
  where
    go : (b : Bool) → leader h c r ≡ leader_in (row h r) c → cond b (cond (eqb d c) (taken_over h (leader h c r)) (leader h c r)) (leader h c r) ≡ leader_in (cond b (settled (is_free h) (slot d (length h) (innermost_task (scopes h))) (row h r)) (row h r)) c
    go true e = ap (λ (o : Option Leader). cond (eqb d c) (taken_over h o) o) e ∙ leader_settled h d (row h r) c
    go false e = e

-- the slots of a row lead their classes
abbrev Each : (ℕ → Option Leader) → List Slot → Type 0
Each f [] = Unit {0}
Each f (x ∷ l) = (f x.class ≡ Some (led_by x)) × Each f l

each_past : (x : Slot) (f : ℕ → Option Leader) (l : List Slot) → ((i t : ℕ) → ¬ Holds l x.class i t) → Each f l → Each (λ c. cond (eqb x.class c) (Some (led_by x)) (f c)) l
each_past x f [] n e = tt
each_past x f (y ∷ l) n (e, es) = (rw (ne_eqb x.class y.class (λ q. n y.event y.task (inl (sym q, refl, refl)))) e, each_past x f l (λ i t k. n i t (inr k)) es)

each : (l : List Slot) → Once l → Each (leader_in l) l
each [] o = tt
each (x ∷ l) (o, os) = (rw (eq-eqb x.class x.class refl), each_past x (leader_in l) l o (each l os))

found_each : (s : Setting) (h : History) (c r : ℕ) (l : List Slot) → Each (λ d. leader h d r) l → first_found s h c r (classes l) ≡ first_clash s.clash (is_free h) c (length h) l
found_each s h c r [] e = refl
found_each s h c r (x ∷ l) (e, es) =
    ap (λ (o : Option Leader). cond (s.clash x.class c) (clash_or h o (first_found s h c r (classes l))) (first_found s h c r (classes l))) e ∙
    ap (λ (f : Option (ℕ × ℕ)). cond (s.clash x.class c) (cond (is_free h x.task) (Some (x.event, length h)) f) f) (found_each s h c r l es) ∙
    go (s.clash x.class c) (is_free h x.task) (first_clash s.clash (is_free h) c (length h) l)
  where
    go : (a b : Bool) (f : Option (ℕ × ℕ)) → cond a (cond b (Some (x.event, length h)) f) f ≡ cond (a && b) (Some (x.event, length h)) f
    go true b f = refl
    go false b f = refl

each_leads : (h : History) (r : ℕ) (l : List Slot) → Each (leader_in (row h r)) l → Each (λ d. leader h d r) l
each_leads h r [] e = tt
each_leads h r (x ∷ l) (e, es) = (leader_as h x.class r ∙ e, each_leads h r l es)

row_each : (h : History) (r : ℕ) → Each (λ d. leader h d r) (row h r)
row_each h r = each_leads h r (row h r) (each (row h r) (row_leads h r).1)

-- what an access put next finds among the leaders is what the slots answer
pub found_as : (s : Setting) (h : History) (c r : ℕ) → first_found s h c r (reached h r) ≡ answer s.clash h c (row h r)
found_as s h c r = ap (first_found s h c r) (reached_as h r) ∙ found_each s h c r (row h r) (row_each h r)

slots_each : (h : History) (r : ℕ) (l : List Slot) → Each (λ d. leader h d r) l → slots_of h r (classes l) ≡ l
slots_each h r [] e = refl
slots_each h r (x ∷ l) (e, es) = ap (λ (o : Option Leader). slot_of x.class o ∷ slots_of h r (classes l)) e ∙ ap (λ (k : List Slot). x ∷ k) (slots_each h r l es)

pub slots_as : (h : History) (r : ℕ) → slots_of h r (reached h r) ≡ row h r
slots_as h r = ap (slots_of h r) (reached_as h r) ∙ slots_each h r (row h r) (row_each h r)

pub length_as : (h : History) (r : ℕ) → length (reached h r) ≡ length (row h r)
length_as h r = ap length (reached_as h r) ∙ length-map (row h r) (λ (x : Slot). x.class)

pub filled_as : (h : History) (r : ℕ) → filled (row_of h r) ≡ row h r
filled_as h r = take_at (slots_of h r (reached h r)) _ (length (reached h r)) (length-map (reached h r) (λ (d : ℕ). slot_of d (leader h d r))) ∙ slots_as h r

-- a row of n slots filled, and zeros behind them
abbrev with_zeros : ℕ → List Slot → Row
with_zeros n l = record { count = n; slots = l ++ replicate (8 - n) no_slot }

abbrev pub row_from : List Slot → Row
row_from l = with_zeros (length l) l

pub row_of_as : (h : History) (r : ℕ) → row_of h r ≡ row_from (row h r)
row_of_as h r = ap (λ (n : ℕ). with_zeros n (slots_of h r (reached h r))) (length_as h r) ∙ ap (with_zeros (length (row h r))) (slots_as h r)
