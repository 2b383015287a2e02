use Rattle.std.proofs.Common.{◌≡◌, ℕ, ◌<◌, ◌≤◌, ap, ◌∙◌, arith}
use Rattle.tree.specs.declared.Tree.{Tree}
use Rattle.tree.specs.declared.node.Node.{Node}
use Rattle.orderings.specs.Table.{entries}
use Rattle.tree.specs.Nodes.{node_at, Marks, marks}
use Rattle.tree.specs.ProgramTree.{tree}
use Rattle.tree.proofs.Jumps.{leads}
use Rattle.tree.specs.Props.{reveal_tree}
use Rattle.tree.proofs.Tree.next_jump.Goals as goal

-- the jump of the node read at s leads up
up : (t : Tree) (s : ℕ) (e : Node) → e ≡ node_at (entries t.nodes) s → s < t.scopes.begun → (e.jump ≤ s) × ((f : Node) → f ≡ node_at (entries t.nodes) e.jump → f.depth ≤ e.depth)
up t s e read l =
    let m : Marks = marks (entries t.nodes) in
    let to = leads (tree t) m t.scopes.begun t.scopes.inner (reveal_tree t.sound).framed (reveal_tree t.sound).marked s l in
    let jump : e.jump ≡ m.jump s = ap (λ (x : Node). x.jump) read in
    let depth : e.depth ≡ m.depth s = ap (λ (x : Node). x.depth) read in
    (omega arith, λ f there. let far : f.depth ≡ m.depth (m.jump s) = ap (λ (x : Node). x.depth) there ∙ ap m.depth jump in omega arith)

-- the innermost scope is begun
begun : (t : Tree) (s : ℕ) → s ≡ t.scopes.inner → s < t.scopes.begun
begun t s e = let inside = t.scopes.innermost in omega arith

pub node-far-requires : goal.node-far-requires
node-far-requires c =
    let t = c.args.self.now in
    let one = (up t c.innermost-inner.result c.node-parent.result c.node-parent.ensures (begun t _ c.innermost-inner.ensures)).0 in
    omega arith

pub node-farther-requires : goal.node-farther-requires
node-farther-requires c =
    let t = c.args.self.now in
    let one = (up t c.innermost-inner.result c.node-parent.result c.node-parent.ensures (begun t _ c.innermost-inner.ensures)).0 in
    let two = (up t c.node-parent.result.jump c.node-far.result c.node-far.ensures (omega arith)).0 in
    omega arith

pub overflow_sub-parent : goal.overflow_sub-parent
overflow_sub-parent c = let t = c.args.self.now in (up t c.innermost-inner.result c.node-parent.result c.node-parent.ensures (begun t _ c.innermost-inner.ensures)).1 c.node-far.result c.node-far.ensures

pub overflow_sub-far : goal.overflow_sub-far
overflow_sub-far c =
    let t = c.args.self.now in
    let one = (up t c.innermost-inner.result c.node-parent.result c.node-parent.ensures (begun t _ c.innermost-inner.ensures)).0 in
    (up t c.node-parent.result.jump c.node-far.result c.node-far.ensures (omega arith)).1 c.node-farther.result c.node-farther.ensures
