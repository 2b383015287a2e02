use Rattle.std.proofs.Common.{◌≡◌, [], take}
use Rattle.conversation.specs.Replies.{events}
use Rattle.trace_check.specs.Puts.{store}
use Rattle.conversation.specs.State.{State}
use Rattle.orderings.specs.Exchanges.{calls_of}
use Rattle.conversation.specs.Conversation.{setting}
use Rattle.conversation.proofs.Turns.{InTurn}
use Rattle.conversation.proofs.run.Given as goal

abbrev pub invariant-loop-exchange : goal.invariant-loop-exchange
invariant-loop-exchange g l =
    (g.O.Ordering.sound l.initial.ordering → g.O.Ordering.sound l.ordering) ×
    (calls_of l.exchanges ≡ calls_of l.initial.exchanges) ×
    (g.O.Ordering.sound l.initial.ordering →
    State (setting l.initial.check.limit (g.O.Ordering.meaning l.initial.ordering) l.initial.rows (g.R.ClashRule.known l.rule) (g.R.ClashRule.clash l.rule)) [] (store l.initial.check (g.O.Ordering.meaning l.initial.ordering) l.initial.rows) →
    InTurn (setting l.initial.check.limit (g.O.Ordering.meaning l.initial.ordering) l.initial.rows (g.R.ClashRule.known l.rule) (g.R.ClashRule.clash l.rule)) [] (take l.exchange-index l.exchanges) ×
    State (setting l.initial.check.limit (g.O.Ordering.meaning l.initial.ordering) l.initial.rows (g.R.ClashRule.known l.rule) (g.R.ClashRule.clash l.rule)) (events (take l.exchange-index l.exchanges)) (store l.check (g.O.Ordering.meaning l.ordering) l.rows))
