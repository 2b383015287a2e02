use Rattle.std.proofs.Common.{arith}
use Rattle.std.proofs.lemmas.Bool.Decides.{nat_tests}
use Rattle.rules.proofs.Clashes.{field_clash}
use Rattle.rules.proofs.rules_in_words.Goals as goal

pub returns : goal.returns
returns c =
    record {
      plain_known = λ c. (λ e. grind (arith, nat_tests), λ h. grind (arith, nat_tests));
      depot_known = λ c. (λ e. grind (arith, nat_tests), λ h. grind (arith, nat_tests));
      field_known = λ c. (λ e. grind (arith, nat_tests), λ h. grind (arith, nat_tests));
      plain_clash = λ a b. (λ e h. grind (arith, nat_tests), λ h. grind (arith, nat_tests));
      depot_clash = λ a b. (λ e h. grind (arith, nat_tests), λ h. grind (arith, nat_tests));
      field_clash = field_clash;
    }
