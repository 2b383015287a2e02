-- The calls that a plan is, and what their check comes to.
use Rattle.std.specs.Prelude.{◌≡◌, List, [], ◌∷◌}
use Rattle.rules.specs.declared.Rule.{Rule}
use Rattle.rules.specs.Any.{known_under, clash_under}
use Rattle.orderings.specs.declared.questions.Question.TheVariants.{WordOf, InnermostTask}
use Rattle.orderings.specs.declared.words.Kind.TheVariants.{Task, Finish}
use Rattle.orderings.specs.Exchanges.{calls_of}
use Rattle.trace_check.specs.declared.words.Call.{Call}
use Rattle.trace_check.specs.declared.words.Call.TheVariants.{Open, Close, Access, Ask}
use Rattle.conversation.specs.declared.words.Ending.{Ending}
use Rattle.conversation.specs.Exchanges.{Exchange}
use Rattle.conversation.specs.Replies.{Setting, events}
use Rattle.conversation.specs.Theorem.{RepliesRight, Facts}
use Rattle.conversation.specs.Conversation.{ending}
use Rattle.shorthand.specs.declared.words.Action.{Action}
use Rattle.shorthand.specs.declared.words.Action.TheVariants.{OpenTask as opens_task, OpenFinish as opens_finish, Close as closes, Access as accesses, Ask as asks}

abbrev pub call_of : Action → Call
call_of opens_task = Open Task
call_of opens_finish = Open Finish
call_of closes = Close
call_of (accesses c r) = Access c r
call_of (asks t) = Ask (WordOf t)

-- ahead of each action, the question which task is innermost
abbrev pub calls_for : List Action → List Call
calls_for [] = []
calls_for (a ∷ rest) = Ask InnermostTask ∷ call_of a ∷ calls_for rest

-- up to 1,000,000 events, 1,024 scope numbers and 256 records
abbrev pub walk_setting : Rule → Setting
walk_setting rule = record { limit = 1000000; numbers = 1024; records = 256; known = known_under rule; clash = clash_under rule }

-- The calls were put, each was answered as it should, and the end is that of the events accepted.
pub record Checked (rule : Rule) (put : List Call) (all : List Exchange) (last : Ending) : Type 0 where
  pub calls : calls_of all ≡ put
  pub replies : RepliesRight (walk_setting rule) all
  pub facts : Facts (walk_setting rule) all
  pub ends : last ≡ ending (walk_setting rule) (events all)
