use Rattle.std.proofs.Common.{ℕ, ◌+◌, ◌≤◌}
use Rattle.orderings.specs.Table.{entries}
use Rattle.tree.specs.Nodes.{marks, Turns}
use Rattle.tree.specs.ProgramTree.{tree, Closed, side_of}
use Rattle.tree.proofs.Tree.side.Given as goal

-- what is left of the search ends at the side of x within what is left of the turns
abbrev pub invariant-loop : goal.invariant-loop
invariant-loop l = Closed l.self l.at × (k : ℕ) × (k + l.counter ≤ 48) × Turns (tree l.self) (marks (entries l.self.nodes)) k l.at (side_of l.self l.x)
