use Rattle.std.proofs.Common.{take_all}
use Rattle.frames.proofs.Buffers.{line_put}
use Rattle.frames.proofs.writing.put_line.Goals as goal

pub returns : goal.returns
returns c =
    let all = take_all c.loop-width.width-index c.args.fields.now c.loop-width-test.false in
    rw (c.loop-width.invariant.1, c.loop-width.invariant.0, all)
    (line_put c.args.fields.now c.args.buffer.now c.requires.room c.if-buffer-lt-LINE_ROOM.false)
