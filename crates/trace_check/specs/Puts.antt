-- One call of any kind, put to a check: the reply, and what it leaves.
use Rattle.std.specs.Prelude.{ℕ, Bool, List, Option, Result}
use Rattle.orderings.specs.declared.questions.Question.{Question}
use Rattle.orderings.specs.declared.questions.Told.{Told}
use Rattle.orderings.specs.Meaning.{Meaning, opening, after_open, closing, after_close}
use Rattle.orderings.specs.Questions.{ok_as, telling}
use Rattle.rows.specs.declared.row.Row.{Row}
use Rattle.trace_check.specs.declared.state.Check.{Check}
use Rattle.trace_check.specs.declared.words.Call.{Call}
use Rattle.trace_check.specs.declared.words.Call.TheVariants.{Open, Close, Access, Ask}
use Rattle.trace_check.specs.declared.words.Refusal.{Refusal}
use Rattle.trace_check.specs.declared.words.Reply.{Reply}
use Rattle.trace_check.specs.declared.words.Reply.TheVariants.{Opened, Closed, Found, Told as ToldSo}
use Rattle.trace_check.specs.Calls.{View, view, limited, by_ordering, when_room, one_more, access_answer, one_access, access_rows}

-- the check, what the ordering means, and the rows
pub record Store : Type 0 where
  pub check : View
  pub meaning : Meaning
  pub rows : List Row

abbrev pub store : Check → Meaning → List Row → Store
store k m rows = record { check = view k; meaning = m; rows = rows }

-- a question is refused as the ordering refuses
abbrev pub question_answer : Store → Question → Result Told Refusal
question_answer σ q = by_ordering (telling σ.meaning q)

abbrev pub open_answer : Store → Result ℕ Refusal
open_answer σ = limited σ.check (by_ordering (opening σ.meaning))

abbrev pub close_answer : Store → Result ℕ Refusal
close_answer σ = limited σ.check (by_ordering (closing σ.meaning))

module _ (known : ℕ → Bool) (clash : ℕ → ℕ → Bool) (σ : Store) where
  abbrev pub reply_of : Call → Result Reply Refusal
  reply_of (Open k) = ok_as Opened (open_answer σ)
  reply_of Close = ok_as Closed (close_answer σ)
  reply_of (Access c r) = ok_as Found (access_answer known clash σ.check σ.meaning σ.rows c r)
  reply_of (Ask q) = ok_as ToldSo (question_answer σ q)

  -- after an open or a close that was answered so, where the ordering would leave m
  abbrev pub after_event : Result ℕ Refusal → Meaning → Store
  after_event answer m = record { check = one_more σ.check answer; meaning = when_room σ.check σ.meaning m; rows = σ.rows }

  abbrev pub after_access : ℕ → ℕ → Result (Option (ℕ × ℕ)) Refusal → Store
  after_access c r answer = record { check = one_access σ.check answer; meaning = σ.meaning; rows = access_rows σ.check σ.meaning σ.rows c r answer }

  -- questions change nothing
  abbrev pub left_by : Call → Store
  left_by (Open k) = after_event (open_answer σ) (after_open k σ.meaning)
  left_by Close = after_event (close_answer σ) (after_close σ.meaning)
  left_by (Access c r) = after_access c r (access_answer known clash σ.check σ.meaning σ.rows c r)
  left_by (Ask q) = σ
