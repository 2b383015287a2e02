use Rattle.std.proofs.Common.{◌≡◌, ◌+◌, ◌-◌, length}
use Rattle.std.specs.List.{prefix_len}
use Rattle.shorthand.specs.Reader.{left}
use Rattle.shorthand.specs.Reading.{is_blank}
use Rattle.shorthand.proofs.reader.Reader.skip_blanks.Given as goal

abbrev pub invariant-loop-self : goal.invariant-loop-self
invariant-loop-self l =
    record {
      text : l.self.text.now ≡ l.fn.self.text.now;
      blanks : l.fn.self.at + prefix_len is_blank (left l.fn.self) ≡ l.self.at + prefix_len is_blank (left l.self);
    }

abbrev pub decreases-loop-self : goal.decreases-loop-self
decreases-loop-self l = length l.self.text.now - l.self.at
