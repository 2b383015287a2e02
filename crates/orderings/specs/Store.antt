-- How bags are kept: main's entry is number 0, and those of the caller's table go on from 1.
use Rattle.std.specs.Prelude.{ℕ, zero, suc, ◌+◌, ◌*◌, ◌/◌, ◌%◌, ◌<◌, ◌≤◌, true, false, cond, List, [], ◌∷◌, ◌==◌, slice_index_or}
use Rattle.orderings.specs.declared.words.Kind.{Kind}
use Rattle.orderings.specs.declared.words.Kind.TheVariants.{Task, Finish}
use Rattle.orderings.specs.declared.bags.entry.Entry.{Entry}
use Rattle.orderings.specs.Forest.{Forest, upd, winner, linked}

-- an entry that holds no scope yet
abbrev pub empty : Entry
empty = record { kind = Task; rank = 0; parent = 0; bag = 0; outward = 0; within = 0; serial = 0; parallel = 0 }

abbrev pub entry_at : List Entry → ℕ → Entry
entry_at es n = slice_index_or es n empty

-- what the entries say of the scopes: of each its kind, the scope next outward, and the innermost task at it or outward of it
pub record Frames : Type 0 where
  pub kind : ℕ → Kind
  pub outward : ℕ → ℕ
  pub within : ℕ → ℕ

abbrev pub frames : List Entry → Frames
frames es = record { kind = λ n. (entry_at es n).kind; outward = λ n. (entry_at es n).outward; within = λ n. (entry_at es n).within }

-- what they say of the bags: the forest, of a root the number of its bag, and of a bag its root, 0 if it is empty
pub record Contents : Type 0 where
  pub forest : Forest
  pub bag : ℕ → ℕ
  pub head : ℕ → ℕ

abbrev pub forest : List Entry → Forest
forest es = record { parent = λ x. (entry_at es x).parent; rank = λ x. (entry_at es x).rank }

-- the S bag of scope s is number 2 s, its P bag 2 s + 1
abbrev pub head_of : Entry → ℕ → ℕ
head_of e k = cond (k % 2 == 0) e.serial e.parallel

abbrev pub head : List Entry → ℕ → ℕ
head es k = head_of (entry_at es (k / 2)) k

-- the entry of a scope with v as the root of its bag k
abbrev pub with_head : ℕ → ℕ → Entry → Entry
with_head k v e = record e { serial = cond (k % 2 == 0) v e.serial; parallel = cond (k % 2 == 0) e.parallel v }

abbrev pub contents : List Entry → Contents
contents es = record { forest = forest es; bag = λ x. (entry_at es x).bag; head = head es }

-- two roots linked, and what they hold left where it was
abbrev pub joined : Contents → ℕ → ℕ → Contents
joined c a b = record { forest = linked c.forest a b; bag = c.bag; head = c.head }

-- all that lies under the root x poured into the bag k
abbrev pub poured : Contents → ℕ → ℕ → Contents
poured c k x = record {
  forest = linked c.forest (c.head k) x;
  bag = upd c.bag (winner c.forest (c.head k) x) k;
  head = upd c.head k (winner c.forest (c.head k) x);
}

-- What a close of the scope s pours out: the bags of a task into the P bag of the scope next outward, the P bag of a finish into the S bag of the
-- innermost task.
abbrev pub poured_by : Kind → Frames → Contents → ℕ → Contents
poured_by Task fr c s = poured (joined c (c.head (2 * s)) (c.head (2 * s + 1))) (2 * fr.outward s + 1) (winner c.forest (c.head (2 * s)) (c.head (2 * s + 1)))
poured_by Finish fr c s = cond (c.head (2 * s + 1) == 0) c (poured c (2 * fr.within (fr.outward s)) (c.head (2 * s + 1)))

-- the head of the bag k can be linked in a table of n entries
pub record Linkable (c : Contents) (k n : ℕ) : Type 0 where
  pub inside : c.head k ≤ n
  pub low : 0 < c.head k → c.forest.rank (c.head k) < 255

-- the numbers of the open scopes, from s outward
unfoldable pub chain : (ℕ → ℕ) → ℕ → ℕ → List ℕ
chain out zero s = []
chain out (suc f) s = s ∷ elim (s == 0) [ true ↦ [] | false ↦ chain out f (out s) ]
