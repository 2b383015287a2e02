use Rattle.std.proofs.Common.{arith}
use Rattle.orderings.proofs.Placed.{all_begun}
use Rattle.tree.specs.ProgramTree.{tree, place_of}
use Rattle.tree.proofs.ordering.TreeOrdering.begun.Goals as goal

pub returns : goal.returns
returns c =
    let t = c.args.self.now in
    let all = all_begun (tree t) (place_of (tree t) t.scopes.begun t.scopes.inner) t.scopes.begun in
    λ _. omega arith
