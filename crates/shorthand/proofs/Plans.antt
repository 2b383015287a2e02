-- A whole plan.
use Rattle.std.proofs.Common.{◌≡◌, ℕ, ◌≤◌, List, length, Result, sym, ap, ◌∙◌, zero-add}
use Rattle.std.proofs.lemmas.Bool.{le-ltb}
use Rattle.rules.specs.declared.Rule.{Rule}
use Rattle.shorthand.specs.declared.words.Action.{Action}
use Rattle.shorthand.specs.declared.words.Misread.{Misread}
use Rattle.shorthand.specs.declared.reader.Reader.{Reader}
use Rattle.shorthand.specs.Reader.{left}
use Rattle.shorthand.specs.Reading.{heading, reading, said, counted, told, read_answer, put_over, read_into}
use Rattle.shorthand.proofs.Said.{said_on}

-- where there is room, the name of the rule is read from the front, and from behind it the actions
module _ (l : List ℕ) (old new : List Action) (rule : Rule) (r : Result ℕ Misread) (front behind : Reader)
    (room : length l ≤ length old) (text : front.text.now ≡ l) (place : front.at ≡ 0)
    (named : (rule, behind.at) ≡ heading front.at (left front)) (same : behind.text.now ≡ front.text.now)
    (read : r ≡ counted (said behind.at behind.at (left behind))) (put : new ≡ put_over (said behind.at behind.at (left behind)).actions old) where
  from_front : (rule, behind.at) ≡ heading 0 l
  from_front = named ∙ rw (place, text)

  from_name : said behind.at behind.at (left behind) ≡ reading l
  from_name = rw (same, text) (sym (rw zero-add at (said_on behind.at 0 l)) ∙ ap (λ (q : Rule × ℕ). said q.1 0 l) from_front)

  pub all_read : (told rule r ≡ read_answer (length old) l) × (new ≡ read_into old l)
  all_read =
      let has_room = le-ltb (length old) (length l) room in
      (rw (has_room, read, from_name) (ap (λ (q : Rule × ℕ). told q.0 (counted (reading l))) from_front), rw (has_room, put, from_name))
