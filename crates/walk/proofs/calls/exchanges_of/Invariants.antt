use Rattle.std.proofs.Common.{◌≡◌, ◌++◌, drop, vec_items}
use Rattle.orderings.specs.Exchanges.{calls_of}
use Rattle.walk.specs.Calls.{calls_for}
use Rattle.walk.proofs.calls.exchanges_of.Given as goal

abbrev pub invariant-loop-action : goal.invariant-loop-action
invariant-loop-action l = calls_of (vec_items l.exchanges) ++ calls_for (drop l.action-index l.actions) ≡ calls_for l.actions
