use Rattle.std.proofs.Common.{sym, ap, ◌∙◌}
use Rattle.tree.specs.declared.node.Node.{Node}
use Rattle.tree.specs.ProgramTree.{tree}
use Rattle.orderings.proofs.Framed.{innermost_task_is}
use Rattle.tree.specs.Props.{reveal_tree}
use Rattle.tree.proofs.ordering.TreeOrdering.innermost_task.Goals as goal

pub returns : goal.returns
returns c =
    let t = c.args.self.now in
    λ _. ap (λ (e : Node). e.within) c.node.ensures ∙ ap (tree t).within c.innermost.ensures ∙ sym (innermost_task_is (tree t) t.scopes.begun (reveal_tree t.sound).framed t.scopes.begun t.scopes.inner t.scopes.innermost t.scopes.innermost)
