use Rattle.std.proofs.Common.{arith}
use Rattle.orderings.specs.Store.{frames, contents}
use Rattle.orderings.specs.Table.{entries}
use Rattle.orderings.specs.Bags.{place_of}
use Rattle.orderings.proofs.Placed.{all_begun}
use Rattle.orderings.proofs.bags.ordering.BagsOrdering.begun.Goals as goal

pub returns : goal.returns
returns c =
    let b = c.args.self.now in
    let all = all_begun (frames (entries b.store)) (place_of (contents (entries b.store))) b.scopes.begun in
    λ _. omega arith
