use Rattle.graph.proofs.LeadersFind.{leaders_find_clashes}
use Rattle.graph.proofs.leaders_find_clashes.Goals as goal

pub returns : goal.returns
returns c = leaders_find_clashes
