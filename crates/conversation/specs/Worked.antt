-- Conversations worked through: what each call is answered.
use Rattle.std.specs.Prelude.{◌≡◌, ℕ, Bool, List, [], ◌∷◌, Some, None, Ok, Err}
use Rattle.graph.specs.History.{History}
use Rattle.rules.specs.Classes.{plain_knows, depot_knows, field_knows}
use Rattle.rules.specs.Rules.{plain, depot, field}
use Rattle.orderings.specs.declared.words.Fault.TheVariants.{NoNumberLeft}
use Rattle.trace_check.specs.declared.words.Call.{Call}
use Rattle.trace_check.specs.declared.words.Call.TheVariants.{Open, Close, Access}
use Rattle.trace_check.specs.declared.words.Refusal.TheVariants.{LimitReached, Row, Order}
use Rattle.rows.specs.declared.words.RowFault.TheVariants.{Full}
use Rattle.orderings.specs.declared.words.Kind.TheVariants.{Task, Finish}
use Rattle.trace_check.specs.declared.words.Reply.TheVariants.{Opened, Closed, Found}
use Rattle.conversation.specs.Exchanges.{Answer}
use Rattle.conversation.specs.Replies.{Setting, reply_to, after}

-- the replies to calls put one after the other
abbrev replies : Setting → History → List Call → List Answer
replies s h [] = []
replies s h (c ∷ cs) = reply_to s h c ∷ replies s (after (record { call = c; reply = reply_to s h c }) h) cs

-- 16 records, under a rule, with an event limit and scope numbers left
abbrev under : (ℕ → Bool) → (ℕ → ℕ → Bool) → (limit numbers : ℕ) → Setting
under known clash limit numbers = record { limit = limit; numbers = numbers; records = 16; known = known; clash = clash }

abbrev by_plain : List Call → List Answer
by_plain cs = replies (under plain_knows plain 1000000 1024) [] cs

abbrev by_depot : List Call → List Answer
by_depot cs = replies (under depot_knows depot 1000000 1024) [] cs

abbrev by_field : List Call → List Answer
by_field cs = replies (under field_knows field 1000000 1024) [] cs

abbrev T : Call
T = Open Task

abbrev F : Call
F = Open Finish

abbrev r : ℕ → Call
r record_number = Access 0 record_number

abbrev w : ℕ → Call
w record_number = Access 1 record_number

abbrev a : ℕ → Call
a record_number = Access 2 record_number

abbrev opened : ℕ → Answer
opened n = Ok (Opened n)

abbrev closed : ℕ → Answer
closed n = Ok (Closed n)

abbrev clear : Answer
clear = Ok (Found None)

abbrev clash : ℕ → ℕ → Answer
clash i j = Ok (Found (Some (i, j)))

pub record Worked : Type 0 where
  -- T w5 ) r5
  pub one : by_plain (T ∷ w 5 ∷ Close ∷ r 5 ∷ []) ≡ opened 1 ∷ clear ∷ closed 1 ∷ clash 1 3 ∷ []
  -- F T w5 ) ) r5
  pub two : by_plain (F ∷ T ∷ w 5 ∷ Close ∷ Close ∷ r 5 ∷ []) ≡ opened 1 ∷ opened 2 ∷ clear ∷ closed 2 ∷ closed 1 ∷ clear ∷ []
  -- T w5 ) F T w6 ) ) r5 r6
  pub three : by_plain (T ∷ w 5 ∷ Close ∷ F ∷ T ∷ w 6 ∷ Close ∷ Close ∷ r 5 ∷ r 6 ∷ []) ≡ opened 1 ∷ clear ∷ closed 1 ∷ opened 2 ∷ opened 3 ∷ clear ∷ closed 3 ∷ closed 2 ∷ clash 1 8 ∷ clear ∷ []
  -- F T T w5 ) ) r5 ) r5
  pub four : by_plain (F ∷ T ∷ T ∷ w 5 ∷ Close ∷ Close ∷ r 5 ∷ Close ∷ r 5 ∷ []) ≡ opened 1 ∷ opened 2 ∷ opened 3 ∷ clear ∷ closed 3 ∷ closed 2 ∷ clash 3 6 ∷ closed 1 ∷ clear ∷ []
  -- F F T w5 ) ) r5 )
  pub five : by_plain (F ∷ F ∷ T ∷ w 5 ∷ Close ∷ Close ∷ r 5 ∷ Close ∷ []) ≡ opened 1 ∷ opened 2 ∷ opened 3 ∷ clear ∷ closed 3 ∷ closed 2 ∷ clear ∷ closed 1 ∷ []
  -- T w5 ) w5 r5
  pub six : by_plain (T ∷ w 5 ∷ Close ∷ w 5 ∷ r 5 ∷ []) ≡ opened 1 ∷ clear ∷ closed 1 ∷ clash 1 3 ∷ clash 1 4 ∷ []
  -- T r5 ) r5 w5
  pub seven : by_plain (T ∷ r 5 ∷ Close ∷ r 5 ∷ w 5 ∷ []) ≡ opened 1 ∷ clear ∷ closed 1 ∷ clear ∷ clash 1 4 ∷ []
  -- depot: T a7 ) a7 r7
  pub eight : by_depot (T ∷ a 7 ∷ Close ∷ a 7 ∷ r 7 ∷ []) ≡ opened 1 ∷ clear ∷ closed 1 ∷ clear ∷ clash 1 4 ∷ []
  -- field: T 10@3 ) 02@3 01@3
  pub nine : by_field (T ∷ Access 0x10 3 ∷ Close ∷ Access 0x02 3 ∷ Access 0x01 3 ∷ []) ≡ opened 1 ∷ clear ∷ closed 1 ∷ clear ∷ clash 1 4 ∷ []
  -- eight classes fill a record
  pub full : by_field (Access 1 3 ∷ Access 2 3 ∷ Access 3 3 ∷ Access 4 3 ∷ Access 5 3 ∷ Access 6 3 ∷ Access 7 3 ∷ Access 8 3 ∷ Access 9 3 ∷ Access 1 3 ∷ []) ≡ clear ∷ clear ∷ clear ∷ clear ∷ clear ∷ clear ∷ clear ∷ clear ∷ Err (Row Full) ∷ clear ∷ []
  -- one number, and a limit of two events
  pub numbers : replies (under plain_knows plain 1000000 1) [] (T ∷ Close ∷ F ∷ []) ≡ opened 1 ∷ closed 1 ∷ Err (Order NoNumberLeft) ∷ []
  pub limit : replies (under plain_knows plain 2 1024) [] (T ∷ Close ∷ Close ∷ []) ≡ opened 1 ∷ closed 1 ∷ Err LimitReached ∷ []
