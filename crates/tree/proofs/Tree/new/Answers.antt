use Rattle.std.proofs.Common.{ℕ, min, List, ◌∷◌, length, sym, refl, ap, ◌∙◌, subst}
use Rattle.orderings.specs.Placed.{placed}
use Rattle.orderings.proofs.Numbers.{at_numbers}
use Rattle.orderings.proofs.Placed.{placed_main}
use Rattle.orderings.proofs.Tables.{new_size}
use Rattle.tree.specs.declared.node.Node.{Node}
use Rattle.tree.specs.Nodes.{shape, marks, SoundTree}
use Rattle.tree.specs.ProgramTree.{place_of}
use Rattle.tree.proofs.Making.{main_node, sound_root, main_place}
use Rattle.tree.proofs.Tree.new.Goals as goal

pub invariant_of-result : goal.invariant_of-result
invariant_of-result c =
    let scopes = c.new-scopes.ensures in
    let n = c.new-scopes.result in
    record {
      numbers = scopes.numbers ∙ ap (λ (l : ℕ). min l 65535) (sym (new_size c.new.result _ _ c.new.ensures));
      sound = ∣ subst (λ (ns : List Node). SoundTree (shape ns) (marks ns) n.begun n.inner n.count) (sym c.new.ensures) (at_numbers (SoundTree (shape (main_node ∷ c.args.table.now)) (marks (main_node ∷ c.args.table.now))) _ _ _ _ _ _ (sound_root c.args.table.now) scopes.begun scopes.inner scopes.count) ∣₁;
    }

pub returns : goal.returns
returns c =
    let scopes = c.new-scopes.ensures in
    let nodes = c.new.ensures in
    let ns : List Node = main_node ∷ c.args.table.now in
    let size = new_size c.new.result _ _ nodes in
    (λ j. placed (shape (nodes j)) (place_of (shape (nodes j)) (scopes.begun j) (scopes.inner j)) (size j) (scopes.begun j) (scopes.inner j)) ∙ placed_main (shape ns) (place_of (shape ns) 1 0) (length c.args.table.now) refl (main_place c.args.table.now)
