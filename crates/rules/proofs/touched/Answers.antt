use Rattle.std.proofs.Common.{◌/◌}
use Rattle.rules.proofs.Bits.{bit-bit_or, bit_shifted}
use Rattle.rules.proofs.touched.Goals as goal

pub returns : goal.returns
returns c f = rw (bit-bit_or c.args.class (c.args.class / 16) f, bit_shifted c.args.class f)
