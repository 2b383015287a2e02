use Rattle.std.proofs.Common.{◌≡◌, ◌-◌, ◌≤◌, length}
use Rattle.shorthand.specs.Numbers.{digits_on}
use Rattle.shorthand.specs.Reader.{left}
use Rattle.shorthand.proofs.reader.Reader.number.Given as goal

abbrev pub invariant-loop-digit : goal.invariant-loop-digit
invariant-loop-digit l =
    record {
      text : l.self.text.now ≡ l.start.text.now;
      from : l.start.at ≤ l.self.at;
      digits : digits_on l.number l.self.at (left l.self) ≡ digits_on 0 l.start.at (left l.start);
    }

abbrev pub decreases-loop-digit : goal.decreases-loop-digit
decreases-loop-digit l = length l.self.text.now - l.self.at
