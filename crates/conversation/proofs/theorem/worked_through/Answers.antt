use Rattle.std.proofs.Common.{refl}
use Rattle.conversation.proofs.theorem.worked_through.Goals as goal

pub returns : goal.returns
returns c = record { one = refl; two = refl; three = refl; four = refl; five = refl; six = refl; seven = refl; eight = refl; nine = refl; full = refl; numbers = refl; limit = refl }
