use Rattle.std.proofs.Common.{Some, sym, ap, ◌∙◌, arith}
use Rattle.std.proofs.lemmas.List.{get_or_default}
use Rattle.orderings.specs.Table.{entries}
use Rattle.orderings.proofs.Numbers.{begun_room}
use Rattle.orderings.proofs.Placed.{kind_some, kind_none}
use Rattle.tree.specs.declared.node.Node.{Node}
use Rattle.tree.specs.Nodes.{no_node}
use Rattle.tree.specs.ProgramTree.{tree, place_of}
use Rattle.tree.proofs.ordering.TreeOrdering.kind_of.Goals as goal

pub returns-then-number-begun : goal.returns-then-number-begun
returns-then-number-begun c =
    let t = c.args.self.now in
    let begun = c.begun.ensures in
    let l = c.if-number-begun.true in
    λ _. ap (λ (e : Node). Some e.kind) (c.entry.ensures ∙ get_or_default (entries t.nodes) c.args.number t.nodes.main no_node (let room = begun_room t.scopes _ t.numbers in omega arith))
    ∙ sym (kind_some (tree t) (place_of (tree t) t.scopes.begun t.scopes.inner) t.scopes.begun c.args.number (omega arith))

pub returns-else-number-begun : goal.returns-else-number-begun
returns-else-number-begun c =
    let t = c.args.self.now in
    let begun = c.begun.ensures in
    let l = c.if-number-begun.false in
    λ _. sym (kind_none (tree t) (place_of (tree t) t.scopes.begun t.scopes.inner) t.scopes.begun c.args.number (omega arith))
