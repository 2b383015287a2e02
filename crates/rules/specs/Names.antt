-- The names of the rules, as plans have them.
use Rattle.std.specs.Prelude.{ℕ, List, codes}
use Rattle.rules.specs.declared.Rule.{Rule}
use Rattle.rules.specs.declared.Rule.TheVariants.{Plain, Depot, Field}

abbrev pub rule_name : Rule → List ℕ
rule_name (Plain _) = codes "plain"
rule_name (Depot _) = codes "depot"
rule_name (Field _) = codes "field"
