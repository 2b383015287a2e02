use Rattle.std.proofs.Common.{◌∙◌}
use lib.Bits.{bit_and, bit_or}
use Rattle.rules.specs.Fields.{bit, meet_in}
use Rattle.rules.proofs.Bits.{bit-bit_and, bit-bit_or, low_four}
use Rattle.rules.specs.Clashes.{some_field_cong}
use Rattle.rules.proofs.FieldClashRule.clashes.Goals as goal

-- the bits of `met` name the fields in which the two classes meet
pub returns : goal.returns
returns c =
    let met = bit_or (bit_and c.written.result c.touched.result) (bit_and c.written-2.result c.touched-2.result) in
    low_four met ∙ some_field_cong (bit met) (meet_in c.args.earlier c.args.later)
    (λ f. simp (bit-bit_or, bit-bit_and, c.written.ensures f, c.touched.ensures f, c.written-2.ensures f, c.touched-2.ensures f))
