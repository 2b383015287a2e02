-- What the program structure tree means, and its query.
use Rattle.std.specs.Prelude.{◌≡◌, ℕ, ◌*◌, ◌^◌, ◌<◌, ◌≤◌, cond, ◌⊎◌, ◌↔◌, List, [], ◌∷◌, length}
use Rattle.graph.specs.History.{Scope, number, Place, before, unordered}
use Rattle.orderings.specs.declared.words.Kind.{Kind}
use Rattle.orderings.specs.declared.words.Kind.TheVariants.{Task, Finish}
use Rattle.orderings.specs.declared.words.Word.{Word}
use Rattle.orderings.specs.declared.words.Word.TheVariants.{Before, Unordered}
use Rattle.tree.specs.declared.Tree.{Tree}
use Rattle.orderings.specs.Meaning.{Meaning}
use Rattle.orderings.specs.Store.{Frames, chain}
use Rattle.orderings.specs.Placed.{placed}
use Rattle.tree.specs.Ancestors.{Above, ChildTowards, on, side}
use Rattle.orderings.specs.Table.{entries}
use Rattle.tree.specs.Nodes.{shape, marks, Turns}

-- the scopes, each within its parent
abbrev pub tree : Tree → Frames
tree t = shape (entries t.nodes)

-- the tasks under b, which is closed while its parent is open: unordered at the parent if b is a task, else before at the innermost task there
abbrev pub place_by : Kind → ℕ → ℕ → Place
place_by Task parent within = unordered parent
place_by Finish parent within = before within

abbrev pub place_under : Frames → ℕ → Place
place_under fr b = place_by (fr.kind b) (fr.outward b) (fr.within (fr.outward b))

-- the place of x in a tree of n scopes, y the innermost open one
abbrev pub place_of : Frames → (n y x : ℕ) → Place
place_of fr n y x = cond (on (chain fr.outward n y) x) (before x) (place_under fr (side fr.outward n y x))

-- what the tree means: the scopes open are the chain up from the innermost one, and each task has that place
abbrev pub meaning : Tree → Meaning
meaning t = placed (tree t) (place_of (tree t) t.scopes.begun t.scopes.inner) (length t.nodes.lent.now) t.scopes.begun t.scopes.inner

-- the scope s is on a list of open scopes
abbrev pub Has : List Scope → ℕ → Type 0
Has [] s = ⊥
Has (x ∷ ss) s = (number x ≡ s) ⊎ Has ss s

-- the open scopes are exactly the innermost one and its ancestors
abbrev pub OpenAbove : Tree → Type 0
OpenAbove t = (s : ℕ) → Has (meaning t).opened s ↔ Above (tree t).outward s t.scopes.inner

-- the word of a closed task, by the kind of the child on its side
abbrev pub word_under : Kind → Word
word_under Task = Unordered
word_under Finish = Before

-- The word w of the task x, y the innermost open scope: before while x is open. Once it is closed, unordered if the child on its side of the least
-- common ancestor of x and y is a task, before if it is a finish.
pub record Says (fr : Frames) (y x : ℕ) (w : Word) : Type 0 where
  pub while_open : Above fr.outward x y → w ≡ Before
  pub once_closed : (Above fr.outward x y → ⊥) → (b : ℕ) → ChildTowards fr.outward x y b → w ≡ word_under (fr.kind b)
  pub has_child : (Above fr.outward x y → ⊥) → (b : ℕ) × ChildTowards fr.outward x y b

-- what the tree says of the task x
abbrev pub Query : Tree → ℕ → Word → Type 0
Query t x w = Says (tree t) t.scopes.inner x w

-- x is begun and not open
pub record Closed (t : Tree) (x : ℕ) : Type 0 where
  pub begun : x < t.scopes.begun
  pub shut : Above (tree t).outward x t.scopes.inner → ⊥

-- the child on the side of x, where x meets the innermost open scope
abbrev pub side_of : Tree → ℕ → ℕ
side_of t x = side (tree t).outward t.scopes.begun t.scopes.inner x

-- each search from a closed scope finds the child on its side in so many turns at most
abbrev pub Within : ℕ → Tree → Type 0
Within most t = (x : ℕ) → Closed t x → (k : ℕ) × (k ≤ most) × Turns (tree t) (marks (entries t.nodes)) k x (side_of t x)

-- 48 turns are enough in any table
abbrev pub Within48 : Tree → Type 0
Within48 t = Within 48 t

-- among n scopes begun, three times log2 n turns are enough
abbrev pub Within3Log : Tree → Type 0
Within3Log t = (r : ℕ) → t.scopes.begun ≤ 2 ^ r → Within (3 * r) t
