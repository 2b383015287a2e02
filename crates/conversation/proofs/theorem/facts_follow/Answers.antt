use Rattle.conversation.proofs.Follow.{facts_follow}
use Rattle.conversation.proofs.theorem.facts_follow.Goals as goal

pub returns : goal.returns
returns c = facts_follow
