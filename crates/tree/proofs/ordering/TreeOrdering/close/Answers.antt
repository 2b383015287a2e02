use Rattle.std.proofs.Common.{◌≡◌, ℕ, ◌<◌, min, List, length, set, Ok, sym, refl, ap, ◌∙◌, subst, arith}
use Rattle.orderings.specs.declared.scopes.Scopes.{Scopes}
use Rattle.orderings.specs.Meaning.{closing, after_close}
use Rattle.orderings.specs.Placed.{placed}
use Rattle.orderings.specs.Scopes.{ClosedTo}
use Rattle.orderings.proofs.Numbers.{at_numbers, begun_room}
use Rattle.orderings.proofs.Tables.{kept_size}
use Rattle.tree.specs.declared.Tree.{Tree}
use Rattle.tree.specs.declared.node.Node.{Node}
use Rattle.orderings.specs.Table.{entries}
use Rattle.tree.specs.Nodes.{node_at, shut, shape, marks, SoundTree}
use Rattle.tree.specs.ProgramTree.{tree, place_of, meaning}
use Rattle.tree.specs.Props.{reveal_tree}
use Rattle.tree.proofs.Closes.{inner_not_main, parent_low, closing_closed}
use Rattle.tree.proofs.Writes.{tree_shut, placed_shut}
use Rattle.tree.proofs.ordering.TreeOrdering.close.Goals as goal

-- the innermost open scope, of the number s, closes
module _ (t : Tree) (now : Scopes) (s : ℕ) (number-is : s ≡ t.scopes.inner) (node : Node) (node-is : node ≡ node_at (entries t.nodes) s) (out : ClosedTo node.parent t.scopes now) where
  sound : SoundTree (tree t) (marks (entries t.nodes)) t.scopes.begun s t.scopes.count
  sound = subst (λ (i : ℕ). SoundTree (tree t) (marks (entries t.nodes)) t.scopes.begun i t.scopes.count) (sym number-is) (reveal_tree t.sound)

  inside : s < t.scopes.begun
  inside = let inside = t.scopes.innermost in omega arith

  room : s < length (entries t.nodes)
  room = let room = begun_room t.scopes _ t.numbers in let l = inside in omega arith

  inner-is : now.inner ≡ (tree t).outward s
  inner-is =
      let read = ap (λ (e : Node). e.parent) node-is in
      let low = parent_low (tree t) (marks (entries t.nodes)) t.scopes.begun s t.scopes.count sound inside out.more in
      let inner = out.inner in
      omega arith

  answer_close : Ok s ≡ closing (meaning t)
  answer_close = sym (closing_closed (tree t) (marks (entries t.nodes)) t.scopes.begun s t.scopes.count sound inside out.more (length t.nodes.lent.now)) ∙ ap (λ (i : ℕ). closing (placed (tree t) (place_of (tree t) t.scopes.begun i) (length t.nodes.lent.now) t.scopes.begun i)) number-is

  module _ (us : List Node) (put : us ≡ set (entries t.nodes) s (shut (node_at (entries t.nodes) s))) where
    sound_close : SoundTree (shape us) (marks us) now.begun now.inner now.count
    sound_close = at_numbers (SoundTree (shape us) (marks us)) _ _ _ _ _ _ (tree_shut (entries t.nodes) us t.scopes.begun s t.scopes.count now.inner room inside out.more sound put inner-is) out.begun refl out.count

    meaning_close : (size : ℕ) → size ≡ length t.nodes.lent.now → placed (shape us) (place_of (shape us) now.begun now.inner) size now.begun now.inner ≡ after_close (meaning t)
    meaning_close size same =
        (λ j. placed (shape us) (place_of (shape us) (out.begun j) now.inner) size (out.begun j) now.inner)
        ∙ placed_shut (entries t.nodes) us t.scopes.begun s t.scopes.count now.inner room inside out.more sound put inner-is size (length t.nodes.lent.now) same
        ∙ ap (λ (i : ℕ). after_close (placed (tree t) (place_of (tree t) t.scopes.begun i) (length t.nodes.lent.now) t.scopes.begun i)) number-is

pub shut-requires : goal.shut-requires
shut-requires c =
    let t = c.args.self.now in
    let out = c.in_ok-scopes.ensures in
    let number = c.innermost-number.ensures in
    let ne = inner_not_main (tree t) (marks (entries t.nodes)) t.scopes.begun t.scopes.inner t.scopes.count (reveal_tree t.sound) t.scopes.innermost out.more in
    let inside = t.scopes.innermost in
    let room = begun_room t.scopes _ t.numbers in
    (omega arith, omega arith)

pub invariant_of-self : goal.invariant_of-self
invariant_of-self c =
    let t = c.args.self.now in
    let out = c.in_ok-scopes.ensures in
    record {
      numbers = out.numbers ∙ t.numbers ∙ ap (λ (l : ℕ). min l 65535) (sym (kept_size t.nodes c.shut.new.nodes _ _ c.shut.ensures));
      sound = ∣ sound_close t c.in_ok-scopes.scopes _ c.innermost-number.ensures c.node-node.result c.node-node.ensures out _ c.shut.ensures ∣₁;
    }

pub returns-clause-answer : goal.returns-clause-answer
returns-clause-answer c = λ _. answer_close c.args.self.now c.in_ok-scopes.scopes _ c.innermost-number.ensures c.node-node.result c.node-node.ensures c.in_ok-scopes.ensures

pub returns-clause-after : goal.returns-clause-after
returns-clause-after c = λ _.
    let t = c.args.self.now in
    meaning_close t c.in_ok-scopes.scopes _ c.innermost-number.ensures c.node-node.result c.node-node.ensures c.in_ok-scopes.ensures _ c.shut.ensures _ (kept_size t.nodes c.shut.new.nodes _ _ c.shut.ensures)
