use Rattle.std.proofs.Common.{◌≡◌, ◌<◌, length, ◌∙◌, append_assoc, arith}
use Rattle.std.proofs.lemmas.List.{append-nil, length-take-le, take-append-drop}
use Rattle.std.proofs.lemmas.Grind.{common_steps}
use Rattle.std.proofs.lemmas.Result.{err_from_is_err_and}
use Rattle.shorthand.specs.Reader.{left}
use Rattle.shorthand.proofs.Readers.{said_behind, said_end, not_blank, said_action, said_wrong}
use Rattle.shorthand.proofs.reader.Reader.actions.Goals as goal

pub returns-then-is_empty : goal.returns-then-is_empty
returns-then-is_empty c =
    let r = c.loop-count.self in
    let b = c.skip_blanks.new.self in
    let h : length (left b) ≡ 0 = grind arith in
    let s = said_behind r b c.skip_blanks.ensures ∙ said_end b h in
    record {
      answer = grind (arith, common_steps, append-nil, length-take-le);
      places = grind (arith, common_steps, append-nil, length-take-le, take-append-drop);
    }

pub returns-in_err-place : goal.returns-in_err-place
returns-in_err-place c =
    let r = c.loop-count.self in
    let b = c.skip_blanks.new.self in
    let m = c.in_err-place.field-0.0 in
    let h : b.at < length b.text.now = grind (arith, common_steps) in
    let s = said_behind r b c.skip_blanks.ensures ∙ said_wrong b h (not_blank r b c.skip_blanks.ensures h) m c.in_err-place.ensures.answer in
    let out = err_from_is_err_and c.from_residual.result c.from_residual.ensures.1 in
    record {
      answer = grind (arith, common_steps, append-nil, length-take-le);
      places = grind (arith, common_steps, append-nil, length-take-le, take-append-drop);
    }

pub loop-count-preserved : goal.loop-count-preserved
loop-count-preserved c =
    let r = c.loop-count.self in
    let b = c.skip_blanks.new.self in
    let read = c.in_ok-place.ensures in
    let h : b.at < length b.text.now = grind (arith, common_steps) in
    let s = said_behind r b c.skip_blanks.ensures ∙ said_action b h (not_blank r b c.skip_blanks.ensures h) c.action.new.self c.in_ok-place.field-0 read.answer read.behind.0 read.behind.1 in
    record {
      text = cc;
      within = omega arith;
      said = grind (arith, common_steps, append_assoc);
      behind = grind (arith, common_steps);
    }
