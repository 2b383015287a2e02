use Rattle.std.proofs.Common.{◌≡◌, ℕ, ◌+◌, ◌<◌, ◌≤◌, false, sym, ap, ◌∙◌, subst, arith}
use Rattle.std.proofs.lemmas.Bool.{cond-true, cond-false, cond_both}
use Rattle.tree.specs.declared.Tree.{Tree}
use Rattle.tree.specs.declared.node.Node.{Node}
use Rattle.orderings.specs.Table.{entries}
use Rattle.tree.specs.Nodes.{node_at, Marks, marks, Turns}
use Rattle.tree.specs.ProgramTree.{tree, Closed}
use Rattle.tree.proofs.Jumps.{leads}
use Rattle.tree.proofs.Sides.{closed_not_main}
use Rattle.tree.proofs.Search.{sound_of, closed_off, not_live, within_48}
use Rattle.tree.proofs.Turns.{next, turned}
use Rattle.tree.proofs.Tree.side.Goals.{then-far, else-far}
use Rattle.tree.proofs.Tree.side.Goals as goal

-- the parent and the jump of a closed scope are begun
parent_begun : (t : Tree) (x : ℕ) → Closed t x → (tree t).outward x < t.scopes.begun
parent_begun t x c =
    let s = sound_of t in
    let l = c.begun in
    let low = s.framed.inward x l (closed_not_main (tree t).outward t.scopes.begun s.framed.inward t.scopes.inner t.scopes.innermost x (closed_off t x c)) in
    omega arith

jump_begun : (t : Tree) (x : ℕ) → Closed t x → (marks (entries t.nodes)).jump x < t.scopes.begun
jump_begun t x c =
    let s = sound_of t in
    let l = c.begun in
    let low = (leads (tree t) (marks (entries t.nodes)) t.scopes.begun t.scopes.inner s.framed s.marked x l).low in
    omega arith

-- a turn leads to a closed scope again, with one turn less to go
one_turn :
    (t : Tree) (x to b k i : ℕ) → Closed t x → k + i ≤ 48 → Turns (tree t) (marks (entries t.nodes)) k x b → (marks (entries t.nodes)).live ((tree t).outward x) ≡ false
    → to ≡ next (tree t) (marks (entries t.nodes)) x → Closed t to × (j : ℕ) × (j + (i + 1) ≤ 48) × Turns (tree t) (marks (entries t.nodes)) j to b
one_turn t x to b k i c left turns shut is =
    let m : Marks = marks (entries t.nodes) in
    let rest = turned (tree t) m k x b turns shut in
    let less = rest.1 in (
      subst (Closed t) (sym is)
          (cond_both (m.live (m.jump x)) ((tree t).outward x) (m.jump x) (Closed t) (λ _. not_live t ((tree t).outward x) (parent_begun t x c) shut) (λ e. not_live t (m.jump x) (jump_begun t x c) e)),
      rest.0,
      omega arith,
      subst (λ (j : ℕ). Turns (tree t) m rest.0 j b) (sym is) rest.2,
    )

pub loop-init : goal.loop-init
loop-init c = let end = within_48 c.args.self.now c.args.x c.requires in let most = end.1 in (c.requires, end.0, omega arith, end.2)

pub node-above-requires : goal.node-above-requires
node-above-requires c =
    let t = c.args.self.now in
    let l = parent_begun t c.loop.at c.loop.invariant.0 in
    let read = ap (λ (e : Node). e.parent) c.node-node.ensures in
    omega arith

pub node-far-requires : goal.node-far-requires
node-far-requires c =
    let t = c.args.self.now in
    let l = jump_begun t c.loop.at c.loop.invariant.0 in
    let read = ap (λ (e : Node). e.jump) c.node-node.ensures in
    omega arith

pub loop-preserved : goal.loop-preserved
loop-preserved c =
    let t = c.args.self.now in
    let at = c.loop.at in
    let inv = c.loop.invariant in
    let m : Marks = marks (entries t.nodes) in
    let node = c.node-node.ensures in
    let above : c.node-above.result ≡ node_at (entries t.nodes) ((tree t).outward at) = c.node-above.ensures ∙ ap (λ (e : Node). node_at (entries t.nodes) e.parent) node in
    let far : c.node-far.result ≡ node_at (entries t.nodes) (m.jump at) = c.node-far.ensures ∙ ap (λ (e : Node). node_at (entries t.nodes) e.jump) node in
    let live : c.node-far.result.live ≡ m.live (m.jump at) = ap (λ (e : Node). e.live) far in
    one_turn t at c.if-far.at _ inv.1 c.loop.counter inv.0 inv.2 inv.3 (sym (ap (λ (e : Node). e.live) above) ∙ c.if-above.false)
    (elim c.if-far.branch [
      | then-far v ↦ v.at-is ∙ ap (λ (e : Node). e.parent) node ∙ sym (cond-true (m.live (m.jump at)) _ _ (sym live ∙ v.if-far.true))
      | else-far v ↦ v.at-is ∙ ap (λ (e : Node). e.jump) node ∙ sym (cond-false (m.live (m.jump at)) _ _ (sym live ∙ v.if-far.false))
    ])
