-- The number and the layer of each refusal, and what it says in words.
use Rattle.std.specs.Prelude.{ℕ, List, codes}
use Rattle.refusals.specs.declared.Code.{Code}
use Rattle.refusals.specs.declared.Layer.TheVariants.{Check}
use Rattle.orderings.specs.Numbers.{fault_code, fault_text}
use Rattle.rows.specs.Numbers.{fault_code as row_code}
use Rattle.rows.specs.Texts.{fault_text as row_text}
use Rattle.trace_check.specs.declared.words.Refusal.{Refusal}
use Rattle.trace_check.specs.declared.words.Refusal.TheVariants.{NoSuchRecord, UnknownClass, BadStart, LimitReached, ScopeOpen, AlreadyBegun, Row, Order}

abbrev pub refusal_code : Refusal → Code
refusal_code NoSuchRecord = record { number = 9; layer = Check }
refusal_code UnknownClass = record { number = 10; layer = Check }
refusal_code BadStart = record { number = 13; layer = Check }
refusal_code LimitReached = record { number = 23; layer = Check }
refusal_code ScopeOpen = record { number = 26; layer = Check }
refusal_code AlreadyBegun = record { number = 27; layer = Check }
-- 24 where the row is full, 25 where it is damaged
refusal_code (Row f) = row_code f
-- 12, 21 and 22
refusal_code (Order f) = fault_code f

abbrev pub refusal_text : Refusal → List ℕ
refusal_text NoSuchRecord = codes "there is no such record"
refusal_text UnknownClass = codes "the rule does not know the class"
refusal_text BadStart = codes "the check cannot start so"
refusal_text LimitReached = codes "there are as many events as the limit"
refusal_text ScopeOpen = codes "a scope besides main is open"
refusal_text AlreadyBegun = codes "the ordering has begun more than main"
refusal_text (Row f) = row_text f
refusal_text (Order f) = fault_text f
