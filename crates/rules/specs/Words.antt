-- The rules in words: what each test of theirs says, as a relation of the classes.
use Rattle.std.specs.Prelude.{◌≡◌, ℕ, ◌+◌, ◌/◌, ◌%◌, ◌^◌, ◌<◌, ◌≤◌, true, ◌⊎◌, ◌↔◌}
use Rattle.rules.specs.Rules.{plain, depot, field}
use Rattle.rules.specs.Classes.{plain_knows, depot_knows, field_knows}

-- class 0
abbrev pub Reads : ℕ → Type 0
Reads c = c ≡ 0

-- class 2
abbrev pub Adds : ℕ → Type 0
Adds c = c ≡ 2

-- the class reads the field: its bit f is 1
abbrev pub ReadsField : ℕ → ℕ → Type 0
ReadsField c f = c / 2 ^ f % 2 ≡ 1

-- the class writes the field: its bit 4 + f is 1
abbrev pub WritesField : ℕ → ℕ → Type 0
WritesField c f = c / 2 ^ (4 + f) % 2 ≡ 1

-- the class reads or writes the field
abbrev pub TouchesField : ℕ → ℕ → Type 0
TouchesField c f = ReadsField c f ⊎ WritesField c f

-- one class writes the field that the other reads or writes
abbrev pub MeetIn : ℕ → ℕ → ℕ → Type 0
MeetIn a b f = (WritesField a f × TouchesField b f) ⊎ (WritesField b f × TouchesField a f)

-- each test is true exactly where the relation holds
pub record RulesInWords : Type 0 where
  pub plain_known : (c : ℕ) → plain_knows c ≡ true ↔ c ≤ 1
  pub depot_known : (c : ℕ) → depot_knows c ≡ true ↔ c ≤ 2
  pub field_known : (c : ℕ) → field_knows c ≡ true ↔ (1 ≤ c) × (c ≤ 255)
  pub plain_clash : (a b : ℕ) → plain a b ≡ true ↔ (Reads a × Reads b → ⊥)
  pub depot_clash : (a b : ℕ) → depot a b ≡ true ↔ ((Reads a × Reads b) ⊎ (Adds a × Adds b) → ⊥)
  pub field_clash : (a b : ℕ) → field a b ≡ true ↔ ((f : ℕ) × (f < 4) × MeetIn a b f)
