-- What holds of the bags between calls.
use Rattle.std.specs.Prelude.{◌≡◌, ℕ, ◌+◌, ◌*◌, ◌<◌, ◌≤◌, ◌≢◌, List, [], ◌∷◌, length}
use Rattle.orderings.specs.declared.words.Kind.TheVariants.{Task, Finish}
use Rattle.orderings.specs.Forest.{Grown, root}
use Rattle.orderings.specs.Store.{Frames, Contents, chain}

-- scopes lie within earlier ones, and each entry knows the innermost task
pub record Framed (fr : Frames) (n : ℕ) : Type 0 where
  pub main : fr.kind 0 ≡ Task
  pub inward : (s : ℕ) → s < n → s ≢ 0 → fr.outward s < s
  pub own : (s : ℕ) → s < n → fr.kind s ≡ Task → fr.within s ≡ s
  pub lent : (s : ℕ) → s < n → fr.kind s ≡ Finish → fr.within s ≡ fr.within (fr.outward s)

-- the bag k is in use: it is empty, or its head is a root and has its number
pub record Live (c : Contents) (n k : ℕ) : Type 0 where
  pub inside : c.head k < n
  pub top : c.forest.parent (c.head k) ≡ c.head k
  pub named : 0 < c.head k → c.bag (c.head k) ≡ k

-- a fact of each scope on a list
abbrev pub Each : (ℕ → Type 0) → List ℕ → Type 0
Each P [] = Unit {0}
Each P (x ∷ xs) = P x × Each P xs

pub record Sound (fr : Frames) (c : Contents) (begun inner count : ℕ) : Type 0 where
  pub counted : count ≡ length (chain fr.outward begun inner)
  pub framed : Framed fr begun
  pub grown : Grown c.forest begun
  -- each element has the number of a bag, and each root is the head of its bag
  pub numbered : (x : ℕ) → 0 < x → x < begun → c.bag x < 2 * begun
  pub heads : (x : ℕ) → 0 < x → x < begun → c.forest.parent x ≡ x → c.head (c.bag x) ≡ x
  -- no S bag but main's is empty
  pub filled : (s : ℕ) → 0 < s → s < begun → 0 < c.head (2 * s)
  -- a task lies in a P bag or in the S bag of a task
  pub serial : (x : ℕ) → 0 < x → x < begun → fr.kind x ≡ Task → (s : ℕ) → c.bag (root c.forest x) ≡ 2 * s → fr.kind s ≡ Task
  -- both bags of each open scope are in use
  pub live : Each (λ s. Live c begun (2 * s) × Live c begun (2 * s + 1)) (chain fr.outward begun inner)

-- the scope s, which is not main, is the innermost open scope of sound bags in a table of size entries
pub record Closable (fr : Frames) (c : Contents) (size s : ℕ) : Type 0 where
  pub begun : ℕ
  pub count : ℕ
  pub sound : Sound fr c begun s count
  pub inside : s < begun
  pub more : 1 < count
  pub few : begun ≤ 65536
  pub room : begun ≤ size + 1
