use Rattle.rules.proofs.Bits.{bit_shifted}
use Rattle.rules.proofs.written.Goals as goal

pub returns : goal.returns
returns c = bit_shifted c.args.class
