use Rattle.std.proofs.Common.{rules}
use Rattle.walk.specs.Calls.{walk_setting}
use Rattle.walk.specs.Walk.{Walked}
use Rattle.walk.proofs.Plainly.{walked_plainly}
use Rattle.walk.proofs.Rightly.{walked_in}
use Rattle.walk.proofs.steps.walk_through.Goals as goal

pub returns : goal.returns
returns c = search (rules, walked_in, c.in_ok-exchanges.ensures, c.in_ok-steps.ensures)

pub invariant_of-result : goal.invariant_of-result
invariant_of-result c =
    let w : Walked (walk_setting c.args.rule.now) c.args.actions.now c.in_ok-steps.steps.items c.check_plan-ending.result =
    search (rules, walked_in, c.in_ok-exchanges.ensures, c.in_ok-steps.ensures) in
    record { plainly = walked_plainly w }
