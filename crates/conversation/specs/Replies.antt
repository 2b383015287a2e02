-- The reply to a call, from the events accepted before it.
use Rattle.std.specs.Prelude.{ℕ, ◌+◌, Bool, true, false, cond, List, [], ◌∷◌, length, is_err, Some, None, Option, Ok, Err, ◌==◌, nat_le, nat_lt}
use Rattle.graph.specs.History.{Event, open_task, open_finish, close, access, History, begun, scopes, innermost, place, is_unordered}
use Rattle.orderings.specs.declared.words.Fault.TheVariants.{NoNumberLeft, MainAlone}
use Rattle.orderings.specs.Exchanges.{after_each}
use Rattle.orderings.specs.Inquiries.{opens, noted}
use Rattle.orderings.specs.Questions.{ok_as, telling_past}
use Rattle.trace_check.specs.declared.words.Call.{Call}
use Rattle.trace_check.specs.declared.words.Call.TheVariants.{Open, Close, Access, Ask}
use Rattle.trace_check.specs.declared.words.Refusal.TheVariants.{LimitReached, NoSuchRecord, UnknownClass, Row, Order}
use Rattle.trace_check.specs.declared.words.Reply.TheVariants.{Opened, Closed, Found, Told}
use Rattle.conversation.specs.Exchanges.{Answer, Exchange}
use Rattle.rows.specs.declared.words.Leader.{Leader}
use Rattle.rows.specs.declared.words.RowFault.TheVariants.{Full}
use Rattle.trace_check.specs.Calls.{by_ordering, one_clash}
use Rattle.conversation.specs.Leaders.{reached, leader}

-- What stays as it is throughout: the event limit, the scope numbers that were left at the start, the number of records, and the rule.
pub record Setting : Type 0 where
  pub limit : ℕ
  pub numbers : ℕ
  pub records : ℕ
  pub known : ℕ → Bool
  pub clash : ℕ → ℕ → Bool

-- a record has room for a class that has reached it, and for an eighth class
abbrev pub is_among : ℕ → List ℕ → Bool
is_among c [] = false
is_among c (d ∷ ds) = cond (d == c) true (is_among c ds)

abbrev pub room_for : ℕ → List ℕ → Bool
room_for c ds = cond (is_among c ds) true (nat_lt (length ds) 8)

-- a clash of the access put next with the leader, if there is one and its task is unordered
abbrev pub clash_or : History → Option Leader → Option (ℕ × ℕ) → Option (ℕ × ℕ)
clash_or h None other = other
clash_or h (Some l) other = cond (is_unordered (place h l.task)) (Some (l.event, length h)) other

-- an access of class c to record r finds the first of these classes that clashes with c and whose leader's task is unordered
abbrev pub first_found : Setting → History → ℕ → ℕ → List ℕ → Option (ℕ × ℕ)
first_found s h c r [] = None
first_found s h c r (d ∷ ds) = cond (s.clash d c) (clash_or h (leader h d r) (first_found s h c r ds)) (first_found s h c r ds)

-- how many accesses there were, and how many of them found a clash
abbrev pub accesses : History → ℕ
accesses [] = 0
accesses (open_task ∷ h) = accesses h
accesses (open_finish ∷ h) = accesses h
accesses (close ∷ h) = accesses h
accesses (access c r ∷ h) = accesses h + 1

abbrev pub clashes_found : Setting → History → ℕ
clashes_found s [] = 0
clashes_found s (open_task ∷ h) = clashes_found s h
clashes_found s (open_finish ∷ h) = clashes_found s h
clashes_found s (close ∷ h) = clashes_found s h
clashes_found s (access c r ∷ h) = one_clash (first_found s h c r (reached h r)) (clashes_found s h)

-- opens, closes and accesses are refused once there are as many events as the limit
abbrev pub within_limit : Setting → History → Answer → Answer
within_limit s h reply = cond (nat_lt (length h) s.limit) reply (Err LimitReached)

abbrev pub open_reply : Setting → History → Answer
open_reply s h = cond (nat_le (begun h) s.numbers) (Ok (Opened (begun h))) (Err (Order NoNumberLeft))

abbrev pub close_reply : History → Answer
close_reply h = cond (nat_lt 1 (length (scopes h))) (Ok (Closed (innermost (scopes h)))) (Err (Order MainAlone))

abbrev pub access_reply : Setting → History → ℕ → ℕ → Answer
access_reply s h c r =
    cond (nat_lt r s.records)
    (cond (s.known c)
    (cond (room_for c (reached h r)) (Ok (Found (first_found s h c r (reached h r)))) (Err (Row Full)))
    (Err UnknownClass))
    (Err NoSuchRecord)

abbrev pub reply_to : Setting → History → Call → Answer
reply_to s h (Open k) = within_limit s h (open_reply s h)
reply_to s h Close = within_limit s h (close_reply h)
reply_to s h (Access c r) = within_limit s h (access_reply s h c r)
reply_to s h (Ask q) = ok_as Told (by_ordering (telling_past s.numbers h q))

-- the event that a call is, if it is accepted
abbrev pub event_of : Call → Option Event
event_of (Open k) = Some (opens k)
event_of Close = Some close
event_of (Access c r) = Some (access c r)
event_of (Ask q) = None

-- the history after an exchange: a call that is not refused adds the event that it is
abbrev pub after : Exchange → History → History
after x h = cond (is_err x.reply) h (noted (event_of x.call) h)

abbrev pub after_all : List Exchange → History → History
after_all xs h = after_each (λ k x. after x k) h xs

-- the events accepted in a conversation
abbrev pub events : List Exchange → History
events xs = after_all xs []
