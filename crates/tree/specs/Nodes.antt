-- How the tree is kept: main's node is number 0, and those of the caller's table go on from 1.
use Rattle.std.specs.Prelude.{◌≡◌, ℕ, suc, ◌+◌, ◌-◌, ◌<◌, Bool, true, false, cond, ◌≢◌, List, length, ◌==◌, slice_index_or}
use Rattle.orderings.specs.declared.words.Kind.TheVariants.{Task}
use Rattle.tree.specs.declared.node.Node.{Node}
use Rattle.orderings.specs.Store.{Frames, chain}
use Rattle.orderings.specs.Sound.{Framed}
use Rattle.tree.specs.Ancestors.{on}

-- a node that holds no scope yet
abbrev pub no_node : Node
no_node = record { kind = Task; live = false; parent = 0; within = 0; depth = 0; jump = 0 }

abbrev pub node_at : List Node → ℕ → Node
node_at es n = slice_index_or es n no_node

-- a node no longer live
abbrev pub shut : Node → Node
shut e = record e { live = false }

-- what the nodes say of the scopes: the scope next outward is the parent
abbrev pub shape : List Node → Frames
shape es = record { kind = λ n. (node_at es n).kind; outward = λ n. (node_at es n).parent; within = λ n. (node_at es n).within }

-- what they say beside, so that a search is short
pub record Marks : Type 0 where
  pub live : ℕ → Bool
  pub depth : ℕ → ℕ
  pub jump : ℕ → ℕ

abbrev pub marks : List Node → Marks
marks es = record { live = λ n. (node_at es n).live; depth = λ n. (node_at es n).depth; jump = λ n. (node_at es n).jump }

-- how many scopes a jump leads up
abbrev pub leap : Marks → ℕ → ℕ
leap m x = m.depth x - m.depth (m.jump x)

-- the skew-binary rule for the jump of a child of p: past two jumps of one length, else to p
abbrev pub jump_under : Marks → ℕ → ℕ
jump_under m p = cond (leap m p == leap m (m.jump p)) (m.jump (m.jump p)) p

-- a scope is live exactly if it is open, and each jump follows the rule
pub record Marked (fr : Frames) (m : Marks) (n inner : ℕ) : Type 0 where
  pub lives : (s : ℕ) → s < n → m.live s ≡ on (chain fr.outward n inner) s
  pub main_depth : m.depth 0 ≡ 0
  pub main_jump : m.jump 0 ≡ 0
  pub deeper : (s : ℕ) → s < n → s ≢ 0 → m.depth s ≡ m.depth (fr.outward s) + 1
  pub rule : (s : ℕ) → s < n → s ≢ 0 → m.jump s ≡ jump_under m (fr.outward s)

-- what holds of the tree between calls
pub record SoundTree (fr : Frames) (m : Marks) (begun inner count : ℕ) : Type 0 where
  pub counted : count ≡ length (chain fr.outward begun inner)
  pub framed : Framed fr begun
  pub marked : Marked fr m begun inner

-- A search from x ends at b in k turns. It ends where the parent is open. Else it goes on from the jump, or from the parent where the jump is open.
pub data Turns (fr : Frames) (m : Marks) : ℕ → ℕ → ℕ → Type 0 where
  ends : {x : ℕ} → m.live (fr.outward x) ≡ true → Turns fr m 1 x x
  jumps : {k x b : ℕ} → m.live (fr.outward x) ≡ false → m.live (m.jump x) ≡ false → Turns fr m k (m.jump x) b → Turns fr m (suc k) x b
  climbs : {k x b : ℕ} → m.live (fr.outward x) ≡ false → m.live (m.jump x) ≡ true → Turns fr m k (fr.outward x) b → Turns fr m (suc k) x b
