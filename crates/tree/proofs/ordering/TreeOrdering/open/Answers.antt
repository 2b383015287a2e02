use Rattle.std.proofs.Common.{◌≡◌, ℕ, ◌+◌, ◌<◌, ◌≤◌, min, true, List, length, set, Ok, sym, refl, ap, ◌∙◌, arith}
use Rattle.orderings.specs.declared.words.Kind.{Kind}
use Rattle.orderings.specs.declared.scopes.Scopes.{Scopes}
use Rattle.orderings.specs.Meaning.{after_open}
use Rattle.orderings.specs.Placed.{placed}
use Rattle.orderings.specs.Scopes.{Opened, task_within}
use Rattle.orderings.proofs.Numbers.{at_numbers, begun_few}
use Rattle.orderings.proofs.Placed.{opening_placed}
use Rattle.orderings.proofs.Tables.{kept_size}
use Rattle.tree.specs.declared.Tree.{Tree}
use Rattle.tree.specs.declared.node.Node.{Node}
use Rattle.orderings.specs.Table.{entries}
use Rattle.tree.specs.Nodes.{node_at, shape, marks, jump_under, SoundTree}
use Rattle.tree.specs.ProgramTree.{tree, place_of, meaning}
use Rattle.tree.specs.Props.{reveal_tree}
use Rattle.tree.proofs.Jumps.{leads}
use Rattle.tree.proofs.Writes.{Fits, tree_opened, placed_opened}
use Rattle.tree.proofs.ordering.TreeOrdering.open.Goals as goal

-- the node e of the new scope, which the node above tells of
module _ (t : Tree) (k : Kind) (now : Scopes) (o : Opened t.scopes now) (number parent within jump : ℕ) (above : Node) (number-is : number ≡ now.inner) (parent-is : parent ≡ t.scopes.inner) (above-is : above ≡ node_at (entries t.nodes) parent)
    (within-is : within ≡ task_within k now.inner above.within) (jump-is : jump ≡ jump_under (marks (entries t.nodes)) t.scopes.inner) where
  abbrev n : ℕ
  n = t.scopes.begun

  abbrev e : Node
  e = record { kind = k; live = true; parent = parent; within = within; depth = above.depth + 1; jump = jump }

  read : above ≡ node_at (entries t.nodes) t.scopes.inner
  read = above-is ∙ ap (node_at (entries t.nodes)) parent-is

  fit : Fits (tree t) (marks (entries t.nodes)) n t.scopes.inner e
  fit = record {
    parent = parent-is;
    within = within-is ∙ (λ j. task_within k (o.inner j) (read j).within);
    live = refl;
    depth = ap (λ (x : Node). x.depth + 1) read;
    jump = jump-is;
  }

  free : n ≤ min (length t.nodes.lent.now) 65535
  free = let numbers = t.numbers in let free = o.free in omega arith

  room : n < length (entries t.nodes)
  room = let l = free in omega arith

  module _ (us : List Node) (written : us ≡ set (entries t.nodes) number e) where
    put : us ≡ set (entries t.nodes) n e
    put = written ∙ (λ j. set (entries t.nodes) ((number-is ∙ o.inner) j) e)

    sound_open : SoundTree (shape us) (marks us) now.begun now.inner now.count
    sound_open = at_numbers (SoundTree (shape us) (marks us)) _ _ _ _ _ _ (tree_opened (entries t.nodes) n t.scopes.inner t.scopes.count e room t.scopes.innermost (reveal_tree t.sound) fit us put) o.begun o.inner o.count

    meaning_open : (size : ℕ) → size ≡ length t.nodes.lent.now → placed (shape us) (place_of (shape us) now.begun now.inner) size now.begun now.inner ≡ after_open k (meaning t)
    meaning_open size same =
        (λ j. placed (shape us) (place_of (shape us) (o.begun j) (o.inner j)) size (o.begun j) (o.inner j))
        ∙ placed_opened (entries t.nodes) n t.scopes.inner t.scopes.count e room t.scopes.innermost (reveal_tree t.sound) fit us put size (length t.nodes.lent.now) same
        ∙ sym (opening_placed (tree t) (place_of (tree t) n t.scopes.inner) (length t.nodes.lent.now) n t.scopes.inner k free).1

pub overflow_add-above : goal.overflow_add-above
overflow_add-above c =
    let t = c.args.self.now in
    let s = reveal_tree t.sound in
    let few = begun_few t.scopes in
    let low = (leads (tree t) (marks (entries t.nodes)) t.scopes.begun t.scopes.inner s.framed s.marked t.scopes.inner t.scopes.innermost).shallow in
    let read = ap (λ (x : Node). x.depth) c.node-above.ensures ∙ ap (marks (entries t.nodes)).depth c.innermost-parent.ensures in
    let inside = t.scopes.innermost in
    omega arith

pub set_node-requires : goal.set_node-requires
set_node-requires c =
    let t = c.args.self.now in
    let o = c.in_ok-scopes.ensures in
    let number = c.innermost-number.ensures ∙ o.inner in
    let numbers = t.numbers in
    let free = o.free in
    let some = t.scopes.some in
    let fewer = t.scopes.fewer in
    (omega arith, omega arith)

pub invariant_of-self : goal.invariant_of-self
invariant_of-self c =
    let t = c.args.self.now in
    let o = c.in_ok-scopes.ensures in
    record {
      numbers = o.numbers ∙ t.numbers ∙ ap (λ (l : ℕ). min l 65535) (sym (kept_size t.nodes c.set_node.new.nodes _ _ c.set_node.ensures));
      sound = ∣ sound_open t c.args.kind c.in_ok-scopes.scopes o _ _ _ _ c.node-above.result c.innermost-number.ensures c.innermost-parent.ensures c.node-above.ensures c.within-within.ensures c.next_jump-jump.ensures _ c.set_node.ensures ∣₁;
    }

pub returns-clause-answer : goal.returns-clause-answer
returns-clause-answer c = λ _.
    let t = c.args.self.now in
    let o = c.in_ok-scopes.ensures in
    let numbers = t.numbers in
    let free = o.free in
    sym ((opening_placed (tree t) (place_of (tree t) t.scopes.begun t.scopes.inner) (length t.nodes.lent.now) t.scopes.begun t.scopes.inner c.args.kind (omega arith)).0 ∙ ap (λ (j : ℕ). Ok j) (sym (c.innermost-number.ensures ∙ o.inner)))

pub returns-clause-after : goal.returns-clause-after
returns-clause-after c = λ _.
    let t = c.args.self.now in
    meaning_open t c.args.kind c.in_ok-scopes.scopes c.in_ok-scopes.ensures _ _ _ _ c.node-above.result c.innermost-number.ensures c.innermost-parent.ensures c.node-above.ensures c.within-within.ensures c.next_jump-jump.ensures _ c.set_node.ensures _ (kept_size t.nodes c.set_node.new.nodes _ _ c.set_node.ensures)
