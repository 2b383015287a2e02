use Rattle.std.proofs.Common.{◌≡◌, ◌≤◌, take, drop}
use Rattle.shorthand.specs.Reader.{left}
use Rattle.shorthand.specs.Reading.{said}
use Rattle.shorthand.proofs.Said.{ahead}
use Rattle.shorthand.proofs.reader.Reader.actions.Given as goal

abbrev pub invariant-loop-count : goal.invariant-loop-count
invariant-loop-count l =
    record {
      text : l.self.text.now ≡ l.fn.self.text.now;
      within : l.count ≤ l.self.at;
      said : said l.fn.self.at l.fn.self.at (left l.fn.self) ≡ ahead (take l.count l.places) (said l.self.at l.self.at (left l.self));
      behind : drop l.count l.places ≡ drop l.count l.fn.places;
    }
