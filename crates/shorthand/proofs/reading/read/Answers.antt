use Rattle.std.proofs.Common.{◌≡◌, ◌≤◌, length, Err, ap, sym, ◌∙◌, arith}
use Rattle.std.proofs.lemmas.Result.{err_from_is_err_and}
use Rattle.shorthand.specs.Reading.{told, read_answer, read_into}
use Rattle.shorthand.proofs.Plans.{all_read}
use Rattle.shorthand.proofs.Back.{read_back}
use Rattle.shorthand.proofs.reading.read.Goals as goal
use Rattle.shorthand.proofs.reading.read.Goals.{After-actions}

all : (c : After-actions) → (told c.rule-rule.result c.actions.result ≡ read_answer (length c.args.actions.now) c.args.text.now) × (c.actions.new.places ≡ read_into c.args.actions.now c.args.text.now)
all c =
    let f = c.new-reader.ensures in
    let n = c.rule-rule.ensures in
    let a = c.actions.ensures in
    let room : length c.args.text.now ≤ length c.args.actions.now = omega arith in
    all_read _ _ _ _ _ c.new-reader.result c.rule-rule.new.self room f.text f.front n.rule n.text a.answer a.places

pub returns-in_err-count : goal.returns-in_err-count
returns-in_err-count c =
    let both = all (goal.at.returns-in_err-count c).After-actions in
    let out = err_from_is_err_and c.from_residual.result c.from_residual.ensures.1 in
    let answer = out.1 ∙ ap Err out.2 ∙ ap (told c.rule-rule.result) (sym c.in_err-count.was) ∙ both.0 in
    record { answer = answer; places = both.1; back = read_back _ _ _ _ answer both.1 }

pub returns : goal.returns
returns c =
    let both = all (goal.at.returns c).After-actions in
    let answer = ap (told c.rule-rule.result) (sym c.in_ok-count.was) ∙ both.0 in
    record { answer = answer; places = both.1; back = read_back _ _ _ _ answer both.1 }
