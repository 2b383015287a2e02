-- What is proved of every history.
use Rattle.std.specs.Prelude.{◌⊎◌, ◌≢◌, ◌↔◌, Bool, List, ◌∷◌, ◌++◌, ℕ, ◌<◌, length}
use Rattle.rules.specs.Rules.{depot}
use Rattle.graph.specs.History.{access, History, task, Accepted, Before, Unordered}
use Rattle.graph.specs.Graph.{Of, Closes, Path}
use Rattle.graph.specs.Orders.{Allowed, Listed, Exchangeable}
use Rattle.graph.specs.Leaders.{Access, Leader, LeaderClashes, AccessClashes}
use Rattle.graph.specs.Reads.{ClashFree, SameReads}

-- Words are paths. An event has a path to an access put next exactly when its task is before. A task is unordered exactly when it is
-- closed and its close has no path to an access put next.
pub record WordsRight (h : History) : Type 0 where
  pub event : (c r i t : ℕ) → Of h i t → Path (access c r ∷ h) i (length h) ↔ Before h t
  pub closed : (c r t : ℕ) → Unordered h t ↔ ((i : ℕ) × Closes h i (task t) × (¬ Path (access c r ∷ h) i (length h)))

abbrev pub WordsArePaths : Type 0
WordsArePaths = (h : History) → Accepted h → WordsRight h

-- Leaders decide. Each class that reached the record has a leader, which is an access of the class there; and if any access of the class is
-- unordered with an access put next, the leader is.
pub record LeaderRight (h : History) (c r : ℕ) : Type 0 where
  pub leads : (i t : ℕ) → Access h i c r t → (l u : ℕ) × Leader c r h l u
  pub only : (l u : ℕ) → Leader c r h l u → Access h l c r u
  pub decides : (i t l u : ℕ) → Access h i c r t → Leader c r h l u → Unordered h t → Unordered h u

abbrev pub LeadersDecide : Type 0
LeadersDecide = (h : History) → Accepted h → (c r : ℕ) → LeaderRight h c r

-- So an access put next clashes with an earlier one that has no path to it exactly when it clashes with a leader whose task is unordered.
abbrev pub LeadersFindClashes : Type 0
LeadersFindClashes =
    (clash : ℕ → ℕ → Bool) (h : History) → Accepted h → (c r : ℕ) →
    (((i : ℕ) × AccessClashes clash h c r i) → ((i : ℕ) × LeaderClashes clash h c r i)) ×
    ((i : ℕ) → LeaderClashes clash h c r i → AccessClashes clash h c r i)

-- Two events that no path joins can stand side by side in either order: first what has a path to either, then the two, then the rest.
abbrev pub SwappedOrders : Type 0
SwappedOrders =
    (h : History) (i j : ℕ) → i < j → j < length h → ¬ Path h i j →
    (pre post : List ℕ) →
    Listed (λ k. Path h k i ⊎ Path h k j) pre →
    Listed (λ k. (k < length h) × (k ≢ i) × (k ≢ j) × (¬ (Path h k i ⊎ Path h k j))) post →
    Allowed h (pre ++ i ∷ j ∷ post) × Allowed h (pre ++ j ∷ i ∷ post)

-- Two events can change places exactly when they are two and no path joins them.
abbrev pub ExchangeExact : Type 0
ExchangeExact =
    (h : History) → Accepted h → (i j : ℕ) → i < length h → j < length h →
    Exchangeable h i j ↔ ((i ≢ j) × (¬ Path h i j) × (¬ Path h j i))

-- A plan without a clash by the depot rule gives every read the same in every allowed order.
abbrev pub ClashFreeReadsAlike : Type 0
ClashFreeReadsAlike = (h : History) → ClashFree depot h → SameReads h
