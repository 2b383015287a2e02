use Rattle.std.proofs.Common.{◌≡◌, drop}
use Rattle.rows.specs.Slots.{first_clash}
use Rattle.rows.specs.Rows.{is_unordered_in}
use Rattle.rows.proofs.leaders.look.Given as goal

abbrev pub invariant-loop-slot : goal.invariant-loop-slot
invariant-loop-slot g l =
    g.O.Ordering.sound l.initial.ordering →
    (g.O.Ordering.sound l.ordering) ×
    (g.O.Ordering.meaning l.ordering ≡ g.O.Ordering.meaning l.initial.ordering) ×
    (first_clash (g.R.ClashRule.clash l.rule) (is_unordered_in (g.O.Ordering.meaning l.initial.ordering).begun) l.«class» l.event l.slots ≡ first_clash (g.R.ClashRule.clash l.rule) (is_unordered_in (g.O.Ordering.meaning l.initial.ordering).begun) l.«class» l.event (drop l.slot-index l.slots))
