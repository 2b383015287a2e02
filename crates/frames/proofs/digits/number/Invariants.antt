use Rattle.std.proofs.Common.{◌≡◌, take}
use Rattle.frames.specs.Digits.{number}
use Rattle.frames.proofs.digits.number.Given as goal

abbrev pub invariant-loop-digit : goal.invariant-loop-digit
invariant-loop-digit l = l.number ≡ number (take l.digit-index l.digits)
