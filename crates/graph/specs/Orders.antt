-- The orders in which the events of a history may happen.
use Rattle.std.specs.Prelude.{◌≡◌, ◌⊎◌, ◌↔◌, List, [], ◌∷◌, ◌++◌, ℕ, ◌<◌, length}
use Rattle.graph.specs.History.{History}
use Rattle.graph.specs.Graph.{Path}

abbrev pub In : List ℕ → ℕ → Type 0
In [] x = ⊥
In (y ∷ l) x = (y ≡ x) ⊎ In l x

-- x stands ahead of y in the list
abbrev pub Ahead : List ℕ → ℕ → ℕ → Type 0
Ahead [] x y = ⊥
Ahead (z ∷ l) x y = ((z ≡ x) × In l y) ⊎ Ahead l x y

-- An allowed order holds each event once, with no event ahead of one that has a path to it.
pub record Allowed (h : History) (l : List ℕ) : Type 0 where
  pub all : (i : ℕ) → (i < length h) ↔ In l i
  pub once : (i : ℕ) → ¬ Ahead l i i
  pub kept : (i j : ℕ) → Ahead l i j → ¬ Path h j i

-- the list holds the numbers of which P, in rising order
pub record Listed (P : ℕ → Type 0) (l : List ℕ) : Type 0 where
  pub those : (i : ℕ) → P i ↔ In l i
  pub rising : (i j : ℕ) → Ahead l i j → i < j

-- Two events can stand side by side, either way round, in two allowed orders that differ in nothing else.
abbrev pub Exchangeable : History → ℕ → ℕ → Type 0
Exchangeable h i j =
    (pre : List ℕ) × (post : List ℕ) × Allowed h (pre ++ i ∷ j ∷ post) × Allowed h (pre ++ j ∷ i ∷ post)
