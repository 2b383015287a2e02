-- What reading a line answers, as a computation. `Judged` says that it is right.
use Rattle.std.specs.Prelude.{ℕ, ◌+◌, ◌%◌, ◌<◌, ◌≤◌, Bool, cond, ◌&&◌, List, length, take, Some, None, Ok, Err, Option, Result, ◌==◌, nat_lt, slice_index}
use Rattle.std.specs.List.{prefix_len}
use Rattle.frames.specs.declared.words.Frame.{Frame}
use Rattle.frames.specs.declared.words.Frame.TheVariants.{Header, OpenTask, OpenFinish, Close, Access, End}
use Rattle.frames.specs.declared.words.LineFault.{LineFault}
use Rattle.frames.specs.declared.words.LineFault.TheVariants.{NoLine, UnknownKind, WrongLength}
use Rattle.frames.specs.Digits.{is_digit, said}
use Rattle.frames.specs.Layout.{fields, body}

-- how many digits the bytes begin with
abbrev pub run : List ℕ → ℕ
run bytes = prefix_len is_digit bytes

-- n digits are those of a line: some, an even number, and byte 10 behind them
abbrev pub whole : ℕ → List ℕ → Bool
whole n bytes = nat_lt 0 n && (n % 2 == 0 && slice_index bytes n == 10)

-- how many digits the line has that the bytes begin with, none if they begin with no line
abbrev pub line_length : List ℕ → Option ℕ
line_length bytes = cond (whole (run bytes) bytes) (Some (run bytes)) None

-- the frame of a kind, its fields taken from the digits
abbrev pub shaped : ℕ → List ℕ → Option Frame
shaped kind ds =
    cond (kind == 0x00) (Some (Header (said 2 2 ds) (said 4 4 ds)))
    (cond (kind == 0x01) (Some OpenTask)
    (cond (kind == 0x02) (Some OpenFinish)
    (cond (kind == 0x03) (Some Close)
    (cond (kind == 0x04) (Some (Access (said 2 2 ds) (said 4 4 ds)))
    (cond (kind == 0x0F) (Some (End (said 8 2 ds))) None)))))

-- a frame is taken if it has as many digits as there are
abbrev pub sized : List ℕ → Option Frame → Result Frame LineFault
sized ds (Some f) = cond (length ds == length (body (fields f))) (Ok f) (Err WrongLength)
sized ds None = Err UnknownKind

-- what the digits of a line say
abbrev pub framed : List ℕ → Result Frame LineFault
framed ds = sized ds (shaped (said 2 0 ds) ds)

-- a line of n digits takes one byte more
abbrev pub told : ℕ → Result Frame LineFault → Result (Frame × ℕ) LineFault
told n (Ok f) = Ok (f, n + 1)
told n (Err e) = Err e

abbrev pub read_at : List ℕ → Option ℕ → Result (Frame × ℕ) LineFault
read_at bytes (Some n) = told n (framed (take n bytes))
read_at bytes None = Err NoLine

-- the frame of the line that the bytes begin with, and how many bytes the line takes
abbrev pub reading : List ℕ → Result (Frame × ℕ) LineFault
reading bytes = read_at bytes (line_length bytes)

-- a line read is some of n bytes
abbrev pub Within : ℕ → Result (Frame × ℕ) LineFault → Type 0
Within n (Ok p) = (0 < p.1) × (p.1 ≤ n)
Within n (Err e) = Unit {0}
