-- A line put into a buffer.
use Rattle.std.specs.Prelude.{◌≡◌, ℕ, Bool, cond, List, ◌++◌, length, drop, Ok, Err, Result, nat_lt}
use Rattle.frames.specs.declared.words.ShortBuffer.{ShortBuffer}

-- the bytes that a buffer must have: the longest line, that of a clash, takes them all
abbrev pub line_room : ℕ
line_room = 23

abbrev pub too_short : List ℕ → Bool
too_short buffer = nat_lt (length buffer) line_room

-- the first bytes replaced by these, and the rest untouched
abbrev pub over : List ℕ → List ℕ → List ℕ
over new old = new ++ drop (length new) old

-- a short buffer is refused and stays; in another the line stands over what was there
pub record LinePut (line before after : List ℕ) (r : Result ℕ ShortBuffer) : Type 0 where
  pub answer : r ≡ cond (too_short before) (Err (record {})) (Ok (length line))
  pub buffer : after ≡ cond (too_short before) before (over line before)
