use Rattle.graph.proofs.LeadersDecide.{leaders_decide}
use Rattle.graph.proofs.leaders_decide.Goals as goal

pub returns : goal.returns
returns c = leaders_decide
