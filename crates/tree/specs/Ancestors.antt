-- A tree of scopes, by the parent of each. Main is number 0, and has no parent.
use Rattle.std.specs.Prelude.{ℕ, Bool, true, false, cond, ◌≢◌, List, [], ◌∷◌, ◌==◌}
use Rattle.orderings.specs.Store.{chain}

-- a is the scope x or an ancestor of it
pub data Above (parent : ℕ → ℕ) (a : ℕ) : ℕ → Type 0 where
  itself : Above parent a a
  further : {x : ℕ} → x ≢ 0 → Above parent a (parent x) → Above parent a x

-- a is the least common ancestor of x and y
pub record LeastCommon (parent : ℕ → ℕ) (x y a : ℕ) : Type 0 where
  pub above_x : Above parent a x
  pub above_y : Above parent a y
  pub least : (b : ℕ) → Above parent b x → Above parent b y → Above parent b a

-- b is the child of the least common ancestor of x and y on the side of x
pub record ChildTowards (parent : ℕ → ℕ) (x y b : ℕ) : Type 0 where
  pub child : b ≢ 0
  pub towards : Above parent b x
  pub meets : LeastCommon parent x y (parent b)

-- whether x is on a list
abbrev pub on : List ℕ → ℕ → Bool
on [] x = false
on (y ∷ ys) x = cond (x == y) true (on ys x)

-- the last of the scopes xs that comes ahead of one on the list ys, c if there is none
abbrev pub last_off : ℕ → List ℕ → List ℕ → ℕ
last_off c [] ys = c
last_off c (x ∷ xs) ys = cond (on ys x) c (last_off x xs ys)

-- that child, found on the chains of x and y up to main, in a tree of n scopes
abbrev pub side : (ℕ → ℕ) → (n y x : ℕ) → ℕ
side parent n y x = last_off x (chain parent n x) (chain parent n y)
