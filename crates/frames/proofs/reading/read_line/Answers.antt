use Rattle.std.proofs.Common.{rules}
use Rattle.frames.proofs.Judging.{judged}
use Rattle.frames.proofs.reading.read_line.Goals as goal

pub returns-in_default-clause-judged : goal.returns-in_default-clause-judged
returns-in_default-clause-judged c = judged c.args.bytes.now _ (search rules)

pub returns-in_err-frame-clause-judged : goal.returns-in_err-frame-clause-judged
returns-in_err-frame-clause-judged c = judged c.args.bytes.now _ (search rules)

pub returns-clause-judged : goal.returns-clause-judged
returns-clause-judged c = judged c.args.bytes.now _ (search rules)
