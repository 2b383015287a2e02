-- What a read finds in an order: the last write before it, and the adds since. Class 0 reads, class 1 writes, class 2 adds.
use Rattle.std.specs.Prelude.{◌⊎◌, ◌≢◌, ◌↔◌, Bool, List, ℕ, T}
use Rattle.graph.specs.History.{History}
use Rattle.graph.specs.Graph.{Path, IsAccess}
use Rattle.graph.specs.Orders.{Ahead, Allowed}

-- in the order l, event w is the nearest write to record r ahead of event x
pub record LastWrite (h : History) (r : ℕ) (l : List ℕ) (x w : ℕ) : Type 0 where
  pub write : IsAccess h w 1 r
  pub ahead : Ahead l w x
  pub nearest : (v : ℕ) → IsAccess h v 1 r → Ahead l w v → ¬ Ahead l v x

-- in the order l, no write to record r is ahead of event x
abbrev pub NoLastWrite : History → ℕ → List ℕ → ℕ → Type 0
NoLastWrite h r l x = (w : ℕ) → IsAccess h w 1 r → ¬ Ahead l w x

-- in the order l, event a is an add to record r ahead of event x with no write to r in between
pub record AddSince (h : History) (r : ℕ) (l : List ℕ) (x a : ℕ) : Type 0 where
  pub add : IsAccess h a 2 r
  pub ahead : Ahead l a x
  pub since : (v : ℕ) → IsAccess h v 1 r → Ahead l a v → ¬ Ahead l v x

-- the orders l and m give event x the same last write to record r, or none in both, and the same adds since
pub record ReadsAlike (h : History) (r : ℕ) (l m : List ℕ) (x : ℕ) : Type 0 where
  pub last : (w : ℕ) → LastWrite h r l x w ↔ LastWrite h r m x w
  pub none : NoLastWrite h r l x ↔ NoLastWrite h r m x
  pub adds : (a : ℕ) → AddSince h r l x a ↔ AddSince h r m x a

-- every two allowed orders give every read the same
abbrev pub SameReads : History → Type 0
SameReads h = (l m : List ℕ) → Allowed h l → Allowed h m → (x r : ℕ) → IsAccess h x 0 r → ReadsAlike h r l m x

-- every two accesses to one record that clash are joined by a path, one way or the other
abbrev pub ClashFree : (ℕ → ℕ → Bool) → History → Type 0
ClashFree clash h =
    (i j a b r : ℕ) → IsAccess h i a r → IsAccess h j b r → i ≢ j → T (clash a b) → Path h i j ⊎ Path h j i
