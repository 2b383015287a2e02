use Rattle.std.proofs.Common.{◌≡◌, ℕ, ◌≤◌, cond, Some, None, Option, length, ap, ◌∙◌, eqb, ltb, rules, tests, arith}
use Rattle.std.specs.Option.{unwrap_or}
use Rattle.std.proofs.lemmas.Bool.Decides.{nat_tests}
use Rattle.std.proofs.lemmas.Iterator.{YieldsList-from_slice}
use Rattle.std.proofs.lemmas.Iterator.Search.{position_from_yields_List}
use Rattle.rows.specs.declared.row.Slot.{Slot}
use Rattle.rows.proofs.Filled.{index_le}
use Rattle.rows.proofs.leaders.place_of.Goals as goal

unwrapped : (i n : ℕ) → i ≤ n → unwrap_or (cond (ltb i n) (Some i) None) n ≡ i
unwrapped i n h = grind (arith, nat_tests)

pub returns : goal.returns
returns c =
    let f = position_from_yields_List (λ (s : Slot). eqb s.class c.args.«class») _ _ c.position.result c.position.ensures.ran (YieldsList-from_slice c.args.slots.now (cc)) (λ x b q k. search (rules, tests)) in
    c.unwrap_or.ensures ∙ ap (λ (o : Option ℕ). unwrap_or o (length c.args.slots.now)) f ∙ unwrapped _ _ (index_le c.args.«class» c.args.slots.now)
