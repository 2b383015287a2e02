-- The numbers of the rules.
use Rattle.std.specs.Prelude.{◌≡◌, ◌≢◌, ℕ, cond, Ok, Err, Result, MatchResult, ◌==◌}
use Rattle.rules.specs.declared.Rule.{Rule}
use Rattle.rules.specs.declared.Rule.TheVariants.{Plain, Depot, Field}
use Rattle.rules.specs.declared.UnknownRule.{UnknownRule}

-- the number of a rule
abbrev pub number_of : Rule → ℕ
number_of (Plain _) = 0
number_of (Depot _) = 1
number_of (Field _) = 2

-- the rule that has the number, refused where no rule has it
abbrev pub rule_of : ℕ → Result Rule UnknownRule
rule_of n =
    cond (n == 0) (Ok (Plain (record {})))
    (cond (n == 1) (Ok (Depot (record {})))
    (cond (n == 2) (Ok (Field (record {})))
    (Err (record {}))))

-- The number finds its rule: the one that has it, or none where no rule has it.
pub record FoundBy (n : ℕ) (answer : Result Rule UnknownRule) : Type 0 where
  pub found : answer ≡ rule_of n
  pub numbered : MatchResult answer
      (λ rule. number_of rule ≡ n)
      (λ _. (rule : Rule) → number_of rule ≢ n)
