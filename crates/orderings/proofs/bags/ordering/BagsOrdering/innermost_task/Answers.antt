use Rattle.std.proofs.Common.{sym, ap, ◌∙◌}
use Rattle.orderings.specs.declared.bags.entry.Entry.{Entry}
use Rattle.orderings.specs.Store.{frames}
use Rattle.orderings.specs.Table.{entries}
use Rattle.orderings.specs.Props.{reveal}
use Rattle.orderings.proofs.Framed.{innermost_task_is}
use Rattle.orderings.proofs.bags.ordering.BagsOrdering.innermost_task.Goals as goal

pub returns : goal.returns
returns c =
    let b = c.args.self.now in
    λ _. ap (λ (e : Entry). e.within) c.at.ensures
    ∙ ap (frames (entries b.store)).within c.innermost.ensures
    ∙ sym (innermost_task_is (frames (entries b.store)) b.scopes.begun (reveal b.sound).framed b.scopes.begun b.scopes.inner b.scopes.innermost b.scopes.innermost)
