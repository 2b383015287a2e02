use Rattle.std.proofs.Common.{◌≡◌, length, take}
use Rattle.frames.specs.Layout.{body}
use Rattle.frames.specs.Putting.{over}
use Rattle.frames.proofs.writing.put_line.Given as goal

abbrev pub invariant-loop-width : goal.invariant-loop-width
invariant-loop-width l =
    let done = body (take l.width-index l.fields) in
    (l.at ≡ length done) × (l.buffer ≡ over done l.initial.buffer)
