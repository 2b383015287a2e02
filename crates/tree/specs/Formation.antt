-- The meaning of a tree is well formed.
use Rattle.std.proofs.lemmas.Bool.{cond-true}
use Rattle.orderings.specs.Meaning.{WellFormed}
use Rattle.orderings.specs.Store.{chain}
use Rattle.orderings.specs.Formation.{formed_placed}
use Rattle.tree.specs.declared.Tree.{Tree}
use Rattle.tree.specs.Ancestors.{on}
use Rattle.tree.specs.Chains.{main_open}
use Rattle.tree.specs.ProgramTree.{tree, place_of, meaning}
use Rattle.tree.specs.Props.{reveal_tree}

pub formed_tree : (t : Tree) → WellFormed (meaning t)
formed_tree t =
    let fr = tree t in
    let w = (reveal_tree t.sound).framed in
    formed_placed fr (place_of fr t.scopes.begun t.scopes.inner) _ t.scopes.begun t.scopes.inner w t.scopes.innermost (cond-true (on (chain fr.outward t.scopes.begun t.scopes.inner) 0) _ _ (main_open fr.outward t.scopes.begun w.inward t.scopes.inner t.scopes.innermost))
