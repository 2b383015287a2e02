use Rattle.std.proofs.Common.{◌≡◌, length}
use Rattle.rows.specs.Rows.{slots_whole}
use Rattle.rows.proofs.leaders.is_whole.Given as goal

abbrev pub invariant-loop-slot : goal.invariant-loop-slot
invariant-loop-slot g l =
    g.O.Ordering.sound l.ordering →
    slots_whole (g.R.ClashRule.known l.rule) (g.O.Ordering.meaning l.ordering).begun l.events l.slots ≡ slots_whole (g.R.ClashRule.known l.rule) (g.O.Ordering.meaning l.ordering).begun l.events l.rest

abbrev pub decreases-loop-slot : goal.decreases-loop-slot
decreases-loop-slot g l = length l.rest
