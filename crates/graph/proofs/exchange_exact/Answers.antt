use Rattle.graph.proofs.Exchange.{exchange_exact}
use Rattle.graph.proofs.exchange_exact.Goals as goal

pub returns : goal.returns
returns c = exchange_exact
