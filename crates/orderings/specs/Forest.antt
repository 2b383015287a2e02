-- A forest of disjoint sets: each element has a parent, and a root is its own. Elements are numbers from 1 on; 0 stands for none.
use Rattle.std.specs.Prelude.{◌≡◌, ℕ, zero, suc, ◌+◌, ◌^◌, ◌<◌, ◌≤◌, true, false, cond, ◌≢◌, ◌==◌, nat_lt}

pub record Forest : Type 0 where
  pub parent : ℕ → ℕ
  pub rank : ℕ → ℕ

-- the element that x comes to in at most f steps up
unfoldable pub climb : (ℕ → ℕ) → ℕ → ℕ → ℕ
climb parent zero x = x
climb parent (suc f) x = elim (parent x == x) [ true ↦ x | false ↦ climb parent f (parent x) ]

-- the root above x: sixteen steps are enough
abbrev pub root : Forest → ℕ → ℕ
root f x = climb f.parent 16 x

-- the function g, but v at i
abbrev pub upd : (ℕ → ℕ) → ℕ → ℕ → ℕ → ℕ
upd g i v y = cond (y == i) v (g y)

-- Two roots are linked, the one of lower rank under the other; of two equals a wins, and its rank rises. Where one is none, nothing is linked.
abbrev pub winner : Forest → ℕ → ℕ → ℕ
winner f a b = cond (a == 0) b (cond (b == 0) a (cond (nat_lt (f.rank a) (f.rank b)) b a))

abbrev pub under : Forest → ℕ → ℕ → Forest
under f l w = record { parent = upd f.parent l w; rank = f.rank }

abbrev pub risen : Forest → ℕ → ℕ → Forest
risen f a b = record { parent = upd f.parent b a; rank = cond (f.rank a == f.rank b) (upd f.rank a (f.rank a + 1)) f.rank }

abbrev pub linked : Forest → ℕ → ℕ → Forest
linked f a b = cond (a == 0) f (cond (b == 0) f (cond (nat_lt (f.rank a) (f.rank b)) (under f a b) (risen f a b)))

-- what the roots' ranks account for: a root of rank k has 2 ^ k elements at least
abbrev pub weight : Forest → ℕ → ℕ
weight f x = cond (f.parent x == x) (2 ^ f.rank x) 0

abbrev pub total : (ℕ → ℕ) → ℕ → ℕ
total g zero = 0
total g (suc n) = g n + total g n

-- the elements below n make a forest linked by rank
pub record Grown (f : Forest) (n : ℕ) : Type 0 where
  pub inside : (x : ℕ) → x < n → f.parent x < n
  pub none : f.parent 0 ≡ 0
  pub some : (x : ℕ) → 0 < x → x < n → 0 < f.parent x
  pub rises : (x : ℕ) → x < n → f.parent x ≢ x → f.rank x < f.rank (f.parent x)
  pub few : total (weight f) n ≤ n

-- x comes to y in exactly k steps up, each to a parent that is another element
pub data Steps (f : Forest) : ℕ → ℕ → ℕ → Type 0 where
  here : {x : ℕ} → Steps f 0 x x
  up : {k x y : ℕ} → f.parent x ≢ x → Steps f k (f.parent x) y → Steps f (suc k) x y

-- A search takes at most log2 n steps: each element comes to its root in k steps, and 2 ^ k is at most n.
abbrev pub Shallow : Forest → ℕ → Type 0
Shallow f n = (x : ℕ) → x < n → (k : ℕ) × (2 ^ k ≤ n) × Steps f k x (root f x)
