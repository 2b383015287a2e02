use Rattle.graph.proofs.SwappedOrders.{swapped_orders}
use Rattle.graph.proofs.swapped_orders.Goals as goal

pub returns : goal.returns
returns c = swapped_orders
