use Rattle.trace_check.specs.Calls.{view}
use Rattle.trace_check.specs.Puts.{store}
use Rattle.conversation.proofs.Whole.{conversed}
use Rattle.conversation.proofs.converse.Goals as goal

pub returns-clause-conversed : goal.returns-clause-conversed
returns-clause-conversed g c = λ sound.
    conversed c.args.limit (g.R.ClashRule.known c.args.rule.now) (g.R.ClashRule.clash c.args.rule.now) (g.O.Ordering.meaning c.args.ordering.now) c.args.rows.now c.start.new.rows (view c.in_ok-check.check) _ c.run.new.exchanges (store c.run.new.check (g.O.Ordering.meaning c.run.new.ordering) c.run.new.rows) c.end.result
    (g.met.O.Ordering.formed c.args.ordering.now sound) (c.in_ok-check.ensures.answer sound) c.in_ok-check.ensures.rows c.run.ensures.calls (c.run.ensures.ran sound) (c.end.ensures (c.run.ensures.kept sound))
