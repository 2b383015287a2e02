-- One call: the reply is that of the history, and what is kept follows the history.
use Rattle.std.proofs.Common.{◌≡◌, ℕ, zero, suc, ◌+◌, ◌-◌, ◌<◌, ◌≤◌, Bool, true, false, cond, not, eqb, ltb, leb, ◌≢◌, ◌⊎◌, List, [], ◌∷◌, ◌++◌, length, get_or, drop, set, replicate, is_err, Option, Ok, Err, Result, sym, refl, ap, ◌∙◌, inl, inr, add-zero, arith, ltb-false, ltb-true, eq-eqb, ne_eqb, le-leb, leb-false, leb-true}
use mathlib.Core.Path.{subst⁻¹}
use borrow.Author.Tests.{lt-leb}
use Rattle.std.proofs.lemmas.List.{get_or-set_same, get_or-set_other, length-set, drop-replicate}
use Rattle.graph.specs.History.{Event, open_task, open_finish, close, access, History, Scope, begun, scopes, innermost, innermost_task}
use Rattle.graph.proofs.Places.{by_eqb}
use Rattle.orderings.specs.declared.questions.Told.{Told}
use Rattle.orderings.specs.declared.words.Fault.{Fault}
use Rattle.orderings.specs.declared.words.Fault.TheVariants.{NoNumberLeft, MainAlone}
use Rattle.orderings.specs.declared.words.Kind.{Kind}
use Rattle.orderings.specs.declared.words.Kind.TheVariants.{Task, Finish}
use Rattle.orderings.specs.Meaning.{Meaning, with_scope, without_innermost}
use Rattle.orderings.specs.Past.{Means}
use Rattle.orderings.proofs.Means.{means_open, means_close, means_access}
use Rattle.orderings.proofs.Telling.{telling_as}
use Rattle.rows.specs.declared.row.Row.{Row}
use Rattle.rows.specs.declared.row.Slot.{Slot}
use Rattle.rows.specs.declared.words.RowFault.{RowFault}
use Rattle.rows.specs.declared.words.RowFault.TheVariants.{Full, Damaged}
use Rattle.rows.specs.Slots.{has_room, first_clash, settled}
use Rattle.rows.specs.Rows.{no_slot, no_row, filled, refilled, is_unordered_in, slots_whole, row_whole, row_answer}
use Rattle.trace_check.specs.declared.words.Call.{Call}
use Rattle.trace_check.specs.declared.words.Call.TheVariants.{Open, Close, Access, Ask}
use Rattle.trace_check.specs.declared.words.Refusal.{Refusal}
use Rattle.trace_check.specs.declared.words.Refusal.TheVariants.{LimitReached, NoSuchRecord, UnknownClass, Row as RowRefuses, Order}
use Rattle.trace_check.specs.declared.words.Reply.{Reply}
use Rattle.trace_check.specs.declared.words.Reply.TheVariants.{Opened, Closed, Found, Told as ToldSo}
use Rattle.conversation.specs.Leaders.{reached, row_of}
use Rattle.orderings.specs.Inquiries.{opens, noted}
use Rattle.orderings.specs.Questions.{ok_as}
use Rattle.conversation.specs.Exchanges.{Answer}
use Rattle.conversation.specs.Replies.{Setting, reply_to, event_of, room_for, first_found, accesses, clashes_found}
use Rattle.trace_check.specs.Calls.{View, by_ordering, by_row, one_more, access_answer, one_clash, one_access, access_rows}
use Rattle.trace_check.specs.Puts.{Store, reply_of, left_by}
use Rattle.conversation.specs.State.{State}
use Rattle.conversation.proofs.RowsLead.{slot, settle, row, row_leads}
use Rattle.conversation.proofs.RowsOfHistory.{room_as, found_as, length_as, filled_as, row_from, row_of_as}
use Rattle.conversation.proofs.Runs.{Good}
use Rattle.conversation.proofs.RowsWhole.{AllSane, rows_sane, rows_whole, first_same, settled_same, settled_few, settled_more}

none_left : (l b n : ℕ) → l + b ≡ n + 1 → eqb l 0 ≡ not (leb b n)
none_left l b n e = go (leb b n) refl
  where
    go : (t : Bool) → leb b n ≡ t → eqb l 0 ≡ not t
    go true q = let k = leb-true b n q in ne_eqb l 0 (λ z. omega arith)
    go false q = let k = leb-false b n q in eq-eqb l 0 (omega arith)

main_alone : (n : ℕ) → leb n 1 ≡ not (ltb 1 n)
main_alone n = go (ltb 1 n) refl
  where
    go : (t : Bool) → ltb 1 n ≡ t → leb n 1 ≡ not t
    go true q = let k = ltb-true 1 n q in lt-leb n 1 (omega arith)
    go false q = let k = ltb-false 1 n q in le-leb n 1 (omega arith)

-- what lies behind n slots of a row with zeros at its end
zeros_behind : (l : List Slot) (n k : ℕ) → length l ≤ n → drop n (l ++ replicate k no_slot) ≡ replicate ((k + length l) - n) no_slot
zeros_behind [] n k h = drop-replicate n k no_slot ∙ ap (λ (j : ℕ). replicate (j - n) no_slot) (sym (add-zero k))
zeros_behind (x ∷ l) zero k h = absurd (omega arith)
zeros_behind (x ∷ l) (suc n) k h = zeros_behind l n k (omega arith) ∙ ap (λ (j : ℕ). replicate j no_slot) (omega arith)

-- a row with more slots filled
refilled_from : (l more : List Slot) → length l ≤ length more → length more ≤ 8 → refilled (row_from l) more ≡ row_from more
refilled_from l more a b = ap (λ (z : List Slot). record { count = length more; slots = more ++ z }) (zeros_behind l (length more) (8 - length l) a ∙ ap (λ (j : ℕ). replicate j no_slot) (omega arith))

module _ (s : Setting) (h : History) (σ : Store) (S : State s h σ) (g : Good s h) where
  abbrev k : View
  k = σ.check

  abbrev m : Meaning
  m = σ.meaning

  room : ltb k.events k.limit ≡ ltb (length h) s.limit
  room = ap (λ (n : ℕ). ltb n k.limit) S.events ∙ ap (ltb (length h)) S.limit

  -- an event that is no access
  quiet : (e : Event) (n : ℕ) (next : Meaning) → Means s.numbers (e ∷ h) next → accesses (e ∷ h) ≡ accesses h → clashes_found s (e ∷ h) ≡ clashes_found s h → ((r : ℕ) → row_of (e ∷ h) r ≡ row_of h r) → ((r : ℕ) → reached (e ∷ h) r ≡ reached h r) → State s (e ∷ h) (record { check = one_more k (Ok n); meaning = next; rows = σ.rows })
  quiet e n next M a c rs ls = record {
    limit = S.limit;
    events = let q = S.events in omega arith;
    accesses = S.accesses ∙ sym a;
    clashes = S.clashes ∙ sym c;
    meaning = M;
    records = S.records;
    rows = λ r l. S.rows r l ∙ sym (rs r);
    few = λ r l. let q = ap length (ls r) in let f = S.few r l in omega arith;
  }

  -- an open or a close: x tells whether there is room for an event, y whether the ordering refuses
  module _ (told : ℕ → Reply) (fault : Fault) (e : Event) (next : Meaning) where
    abbrev outcome : Bool → Bool → ℕ → Result ℕ Refusal
    outcome x y n = cond x (by_ordering (cond y (Err fault) (Ok n))) (Err LimitReached)

    abbrev wanted : Bool → Bool → ℕ → Answer
    wanted a b n = cond a (cond b (Ok (told n)) (Err (Order fault))) (Err LimitReached)

    abbrev Goal : Bool → Bool → ℕ → Bool → Bool → ℕ → Type 0
    Goal a b n x y z = (ok_as told (outcome x y z) ≡ wanted a b n) × State s (cond (is_err (wanted a b n)) h (e ∷ h)) (record { check = one_more k (outcome x y z); meaning = cond x (cond y m next) m; rows = σ.rows })

    goal : (a b : Bool) (n : ℕ) → (b ≡ true → State s (e ∷ h) (record { check = one_more k (Ok n); meaning = next; rows = σ.rows })) → Goal a b n a (not b) n
    goal true true n f = (refl, f refl)
    goal true false n f = (refl, S)
    goal false b n f = (refl, S)

    done : (a b : Bool) (n : ℕ) (x y : Bool) (z : ℕ) → x ≡ a → y ≡ not b → z ≡ n → (b ≡ true → State s (e ∷ h) (record { check = one_more k (Ok n); meaning = next; rows = σ.rows })) → Goal a b n x y z
    done a b n x y z p q r f = subst⁻¹ (λ (t : Bool). Goal a b n t y z) p (subst⁻¹ (λ (t : Bool). Goal a b n a t z) q (subst⁻¹ (λ (t : ℕ). Goal a b n a (not b) t) r (goal a b n f)))

  abbrev Follows : Call → Type 0
  Follows call = (reply_of s.known s.clash σ call ≡ reply_to s h call) × State s (cond (is_err (reply_to s h call)) h (noted (event_of call) h)) (left_by s.known s.clash σ call)

  some_left : leb (begun h) s.numbers ≡ true → m.left ≢ 0
  some_left b z = let q = S.meaning.left in let l = leb-true (begun h) s.numbers b in omega arith

  step_open : (kind : Kind) → Follows (Open kind)
  step_open kind =
      done Opened NoNumberLeft (opens kind) (with_scope kind m) (ltb (length h) s.limit) (leb (begun h) s.numbers) (begun h) (ltb k.events k.limit) (eqb m.left 0) (length m.begun) room (none_left m.left (begun h) s.numbers S.meaning.left) S.meaning.count
      (λ b. opened kind (means_open s.numbers h m S.meaning kind (some_left b)))
    where
      opened : (kind : Kind) → Means s.numbers (opens kind ∷ h) (with_scope kind m) → State s (opens kind ∷ h) (record { check = one_more k (Ok (begun h)); meaning = with_scope kind m; rows = σ.rows })
      opened Task M = quiet open_task (begun h) (with_scope Task m) M refl refl (λ r. refl) (λ r. refl)
      opened Finish M = quiet open_finish (begun h) (with_scope Finish m) M refl refl (λ r. refl) (λ r. refl)

  step_close : Follows Close
  step_close =
      done Closed MainAlone close (without_innermost m) (ltb (length h) s.limit) (ltb 1 (length (scopes h))) (innermost (scopes h)) (ltb k.events k.limit) (leb (length m.opened) 1) (innermost m.opened) room (ap (λ (ss : List Scope). leb (length ss) 1) S.meaning.opened ∙ main_alone (length (scopes h))) (ap innermost S.meaning.opened)
      (λ b. quiet close (innermost (scopes h)) (without_innermost m) (means_close s.numbers h m S.meaning) refl refl (λ r. refl) (λ r. refl))

  module _ (c r : ℕ) where
    abbrev ρ : Row
    ρ = get_or σ.rows r no_row

    abbrev F : Option (ℕ × ℕ)
    F = first_found s h c r (reached h r)

    abbrev free : ℕ → Bool
    free = is_unordered_in m.begun

    sane : AllSane s h (row h r)
    sane = rows_sane s h g r

    slots_are : r < s.records → filled ρ ≡ row h r
    slots_are l = ap filled (S.rows r l) ∙ filled_as h r

    count_few : r < s.records → ρ.count ≤ 8
    count_few l = let q = ap (λ (x : Row). x.count) (S.rows r l) in let f = S.few r l in omega arith

    found_is : r < s.records → first_clash s.clash free c k.events (filled ρ) ≡ F
    found_is l =
        ap (λ (n : ℕ). first_clash s.clash free c n (filled ρ)) S.events ∙
        ap (first_clash s.clash free c (length h)) (slots_are l) ∙
        first_same s.numbers h m S.meaning s c (length h) (row h r) sane ∙
        sym (found_as s h c r)

    room_is : r < s.records → has_room c (filled ρ) ≡ room_for c (reached h r)
    room_is l = ap (has_room c) (slots_are l) ∙ sym (room_as h c r)

    whole_is : r < s.records → row_whole s.known m.begun k.events ρ ≡ true
    whole_is l =
        rw (le-leb ρ.count 8 (count_few l))
        (ap (slots_whole s.known m.begun k.events) (slots_are l) ∙
        ap (λ (n : ℕ). slots_whole s.known m.begun n (row h r)) S.events ∙
        rows_whole s.numbers h m S.meaning s (row h r) sane (row_leads h r).1)

    row_is : r < s.records → row_answer s.known s.clash m k.events c ρ ≡ cond (room_for c (reached h r)) (Ok F) (Err Full)
    row_is l =
        ap (λ (t : Bool). cond t (cond (has_room c (filled ρ)) (Ok (first_clash s.clash free c k.events (filled ρ))) (Err Full)) (Err Damaged)) (whole_is l) ∙
        ap (λ (t : Bool). cond t (Ok (first_clash s.clash free c k.events (filled ρ))) (Err Full)) (room_is l) ∙
        ap (λ (f : Option (ℕ × ℕ)). cond (room_for c (reached h r)) (Ok f) (Err Full)) (found_is l)

    abbrev outcome_of : Bool → Bool → Bool → Bool → Result (Option (ℕ × ℕ)) Refusal
    outcome_of a b d e = cond a (cond b (cond d (by_row (cond e (Ok F) (Err Full))) (Err UnknownClass)) (Err NoSuchRecord)) (Err LimitReached)

    abbrev answer_now : Result (Option (ℕ × ℕ)) Refusal
    answer_now = outcome_of (ltb (length h) s.limit) (ltb r s.records) (s.known c) (room_for c (reached h r))

    answer_is : access_answer s.known s.clash k m σ.rows c r ≡ answer_now
    answer_is =
        ap (λ (t : Bool). cond t (cond (ltb r (length σ.rows)) (cond (s.known c) (by_row (row_answer s.known s.clash m k.events c ρ)) (Err UnknownClass)) (Err NoSuchRecord)) (Err LimitReached)) room ∙
        ap (λ (n : ℕ). cond (ltb (length h) s.limit) (cond (ltb r n) (cond (s.known c) (by_row (row_answer s.known s.clash m k.events c ρ)) (Err UnknownClass)) (Err NoSuchRecord)) (Err LimitReached)) S.records ∙
        ap (λ (x : Result (Option (ℕ × ℕ)) Refusal). cond (ltb (length h) s.limit) x (Err LimitReached)) (go (ltb r s.records) refl)
      where
        go : (b : Bool) → ltb r s.records ≡ b → cond b (cond (s.known c) (by_row (row_answer s.known s.clash m k.events c ρ)) (Err UnknownClass)) (Err NoSuchRecord) ≡ cond b (cond (s.known c) (by_row (cond (room_for c (reached h r)) (Ok F) (Err Full))) (Err UnknownClass)) (Err NoSuchRecord)
        go true e = ap (λ (x : Result (Option (ℕ × ℕ)) RowFault). cond (s.known c) (by_row x) (Err UnknownClass)) (row_is (ltb-true r s.records e))
        go false e = refl

    abbrev settled_now : List Slot
    settled_now = settle h c (length h) (innermost_task (scopes h)) (row h r)

    settled_is : r < s.records → settled free (slot c k.events (innermost_task m.opened)) (filled ρ) ≡ settled_now
    settled_is l =
        ap (settled free (slot c k.events (innermost_task m.opened))) (slots_are l) ∙
        ap (λ (n : ℕ). settled free (slot c n (innermost_task m.opened)) (row h r)) S.events ∙
        ap (λ (ss : List Scope). settled free (slot c (length h) (innermost_task ss)) (row h r)) S.meaning.opened ∙
        settled_same s.numbers h m S.meaning s c (length h) (innermost_task (scopes h)) (row h r) sane

    row_few : r < s.records → length (row h r) ≤ 8
    row_few l = let q = length_as h r in let f = S.few r l in omega arith

    settled_short : r < s.records → room_for c (reached h r) ≡ true → length settled_now ≤ 8
    settled_short l e = settled_few _ c (length h) (innermost_task (scopes h)) (row h r) (row_few l) (sym (room_as h c r) ∙ e)

    abbrev new_row : Row
    new_row = refilled ρ (settled free (slot c k.events (innermost_task m.opened)) (filled ρ))

    new_row_is : r < s.records → room_for c (reached h r) ≡ true → new_row ≡ row_from settled_now
    new_row_is l e =
        ap (refilled ρ) (settled_is l) ∙
        ap (λ (x : Row). refilled x settled_now) (S.rows r l ∙ row_of_as h r) ∙
        refilled_from (row h r) settled_now (settled_more _ c (length h) (innermost_task (scopes h)) (row h r)) (settled_short l e)

    -- the row of the record, and the others
    abbrev Then : ℕ → Type 0
    Then q = ((r ≡ q) × (row (access c r ∷ h) q ≡ settle h c (length h) (innermost_task (scopes h)) (row h q))) ⊎ ((r ≢ q) × (row (access c r ∷ h) q ≡ row h q))

    access_state : r < s.records → room_for c (reached h r) ≡ true → State s (access c r ∷ h) (record { check = one_access k (Ok F); meaning = m; rows = set σ.rows r new_row })
    access_state l e = record {
      limit = S.limit;
      events = let q = S.events in omega arith;
      accesses = let q = S.accesses in omega arith;
      clashes = ap (one_clash F) S.clashes;
      meaning = means_access s.numbers h m S.meaning c r;
      records = length-set σ.rows r new_row ∙ S.records;
      rows = λ q b. row_now q b (slots_then q) ∙ sym (row_of_as (access c r ∷ h) q);
      few = λ q b. let n = length_as (access c r ∷ h) q in let f = short_now q b (slots_then q) in omega arith;
    }
      where
        slots_then : (q : ℕ) → Then q
        slots_then q = by_eqb r q (settle h c (length h) (innermost_task (scopes h)) (row h q)) (row h q)

        low : r < length σ.rows
        low = let q = S.records in omega arith

        own : (q : ℕ) → r ≡ q → settled_now ≡ settle h c (length h) (innermost_task (scopes h)) (row h q)
        own q p = ap (λ (i : ℕ). settle h c (length h) (innermost_task (scopes h)) (row h i)) p

        row_now : (q : ℕ) → q < s.records → Then q → get_or (set σ.rows r new_row) q no_row ≡ row_from (row (access c r ∷ h) q)
        row_now q b (inl (p, f)) =
            ap (λ (i : ℕ). get_or (set σ.rows r new_row) i no_row) (sym p) ∙
            get_or-set_same σ.rows r new_row no_row low ∙
            new_row_is l e ∙
            ap row_from (own q p ∙ sym f)
        row_now q b (inr (p, f)) = get_or-set_other σ.rows r q new_row no_row (λ z. p (sym z)) ∙ S.rows q b ∙ row_of_as h q ∙ ap row_from (sym f)

        short_now : (q : ℕ) → q < s.records → Then q → length (row (access c r ∷ h) q) ≤ 8
        short_now q b (inl (p, f)) = let n = ap length (own q p ∙ sym f) in let z = settled_short l e in omega arith
        short_now q b (inr (p, f)) = let n = ap length f in let z = length_as h q in let y = S.few q b in omega arith

    abbrev reply : Bool → Bool → Bool → Bool → Answer
    reply a b d e = cond a (cond b (cond d (cond e (Ok (Found F)) (Err (RowRefuses Full))) (Err UnknownClass)) (Err NoSuchRecord)) (Err LimitReached)

    -- what the access comes to, where it was answered x
    abbrev ComesTo : Answer → Result (Option (ℕ × ℕ)) Refusal → Type 0
    ComesTo y x = (ok_as Found x ≡ y) × State s (cond (is_err y) h (access c r ∷ h)) (record { check = one_access k x; meaning = m; rows = access_rows k m σ.rows c r x })

    access_goal : (a b d e : Bool) → (b ≡ true → e ≡ true → State s (access c r ∷ h) (record { check = one_access k (Ok F); meaning = m; rows = set σ.rows r new_row })) → ComesTo (reply a b d e) (outcome_of a b d e)
    access_goal true true true true f = (refl, f refl refl)
    access_goal true true true false f = (refl, S)
    access_goal true true false e f = (refl, S)
    access_goal true false d e f = (refl, S)
    access_goal false b d e f = (refl, S)

    step_access : Follows (Access c r)
    step_access = subst⁻¹ (ComesTo (reply_to s h (Access c r))) answer_is (access_goal (ltb (length h) s.limit) (ltb r s.records) (s.known c) (room_for c (reached h r)) (λ b e. access_state (ltb-true r s.records b) e))

  -- a question changes nothing
  asked_state : (b : Bool) → State s (cond b h h) σ
  asked_state true = S
  asked_state false = S

  pub step : (call : Call) → Follows call
  step (Open kind) = step_open kind
  step Close = step_close
  step (Access c r) = step_access c r
  step (Ask q) = (ap (λ (x : Result Told Fault). ok_as ToldSo (by_ordering x)) (telling_as s.numbers h m S.meaning q), asked_state (is_err (reply_to s h (Ask q))))
