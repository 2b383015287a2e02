use Rattle.std.proofs.Common.{◌≡◌, take}
use Rattle.orderings.specs.Inquiries.{after_requests}
use Rattle.orderings.specs.Exchanges.{calls_of}
use Rattle.orderings.proofs.Inquiring.{InTurn}
use Rattle.orderings.proofs.inquiries.inquire.Given as goal

abbrev pub invariant-loop-inquiry : goal.invariant-loop-inquiry
invariant-loop-inquiry g l =
    (g.O.Ordering.sound l.initial.ordering → g.O.Ordering.sound l.ordering) ×
    (calls_of l.inquiries ≡ calls_of l.initial.inquiries) ×
    (g.O.Ordering.sound l.initial.ordering →
    InTurn (g.O.Ordering.meaning l.initial.ordering) (take l.inquiry-index l.inquiries) ×
    (g.O.Ordering.meaning l.ordering ≡ after_requests (g.O.Ordering.meaning l.initial.ordering) (take l.inquiry-index l.inquiries)))
