use Rattle.std.proofs.Common.{◌≡◌, ◌-◌, ◌^◌, ◌<◌, ◌++◌, length, take, reverse}
use Rattle.frames.specs.Digits.{digits}
use Rattle.frames.proofs.digits.put_digits.Given as goal

abbrev pub invariant-loop-digit : goal.invariant-loop-digit
invariant-loop-digit l =
    let width = length l.fn.field in
    let left = width - l.digit-index in
    (l.rest < 16 ^ left) × (digits left l.rest ++ reverse (take l.digit-index l.field) ≡ digits width l.number)
