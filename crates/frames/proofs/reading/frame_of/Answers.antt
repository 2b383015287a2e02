use Rattle.std.proofs.Common.{◌≢◌, rules}
use Rattle.std.proofs.lemmas.Result.{err_from_is_err_and}
use Rattle.frames.specs.declared.kind.Kind.{Kind}
use Rattle.frames.specs.Digits.{said}
use Rattle.frames.specs.Kinds.{number_of}
use Rattle.frames.proofs.Shapes.{unknown_framed}
use Rattle.frames.proofs.reading.frame_of.Goals as goal

pub returns-in_err-kind : goal.returns-in_err-kind
returns-in_err-kind c =
    let told = err_from_is_err_and c.from_residual.result c.from_residual.ensures.1 in
    let fault = c.in_err-kind.ensures in
    let none : (kind : Kind) → number_of kind ≢ said 2 0 c.args.digits.now = λ kind e. fault.1 kind (search rules) in
    rw (unknown_framed c.args.digits.now none, told.1, told.2, fault.0)
