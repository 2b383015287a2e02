-- Any of the three rules: which classes it knows, and which two of them clash.
use Rattle.std.specs.Prelude.{ℕ, Bool}
use Rattle.rules.specs.declared.Rule.{Rule}
use Rattle.rules.specs.declared.Rule.TheVariants.{Plain, Depot, Field}
use Rattle.rules.specs.Rules.{plain, depot, field}
use Rattle.rules.specs.Classes.{plain_knows, depot_knows, field_knows}

-- the rule knows the class
abbrev pub known_under : Rule → ℕ → Bool
known_under (Plain _) = plain_knows
known_under (Depot _) = depot_knows
known_under (Field _) = field_knows

-- the two classes clash under the rule
abbrev pub clash_under : Rule → ℕ → ℕ → Bool
clash_under (Plain _) = plain
clash_under (Depot _) = depot
clash_under (Field _) = field
