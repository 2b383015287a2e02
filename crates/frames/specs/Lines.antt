-- What a line is, and where each answer of reading one comes.
use Rattle.std.specs.Prelude.{◌≡◌, ℕ, ◌%◌, ◌<◌, ◌↔◌, List, ◌∷◌, ◌++◌, length, take, Ok, Err, Result, ◌≢◌}
use Rattle.std.specs.List.{AllPass}
use Rattle.frames.specs.declared.words.Frame.{Frame}
use Rattle.frames.specs.declared.words.LineFault.{LineFault}
use Rattle.frames.specs.declared.words.LineFault.TheVariants.{NoLine, UnknownKind, WrongLength}
use Rattle.frames.specs.Digits.{is_digit}
use Rattle.frames.specs.Layout.{Fit, fields, body, written}

-- the bytes begin with a line of these digits: some, an even number, and byte 10 behind them
pub record Line (bytes ds : List ℕ) : Type 0 where
  pub rest : List ℕ
  pub begins : bytes ≡ ds ++ 10 ∷ rest
  pub all : AllPass is_digit ds
  pub some : 0 < length ds
  pub even : length ds % 2 ≡ 0

-- the bytes begin with a frame as it is written, and this is how many bytes it takes
pub record FrameRead (bytes : List ℕ) (f : Frame) (taken : ℕ) : Type 0 where
  pub rest : List ℕ
  pub begins : bytes ≡ written f ++ rest
  pub fit : Fit (fields f)
  pub takes : taken ≡ length (written f)

-- the bytes begin with no line
abbrev pub IsNoLine : List ℕ → Type 0
IsNoLine bytes = (ds : List ℕ) → Line bytes ds → ⊥

-- the first two digits are those of the frame
abbrev pub OfKind : List ℕ → Frame → Type 0
OfKind ds f = take 2 ds ≡ take 2 (body (fields f))

-- a line, but of no frame's kind
pub record OfNoKind (bytes : List ℕ) : Type 0 where
  pub ds : List ℕ
  pub line : Line bytes ds
  pub none : (f : Frame) → OfKind ds f → ⊥

-- a line of some frame's kind, but of another number of digits than each frame of that kind
pub record OfWrongLength (bytes : List ℕ) : Type 0 where
  pub ds : List ℕ
  pub line : Line bytes ds
  pub frame : Frame
  pub of_kind : OfKind ds frame
  pub wrong : (f : Frame) → OfKind ds f → length ds ≢ length (body (fields f))

-- each answer comes exactly where it should
pub record Judged (bytes : List ℕ) (r : Result (Frame × ℕ) LineFault) : Type 0 where
  pub reads : (f : Frame) (taken : ℕ) → (r ≡ Ok (f, taken)) ↔ FrameRead bytes f taken
  pub no_line : (r ≡ Err NoLine) ↔ IsNoLine bytes
  pub unknown : (r ≡ Err UnknownKind) ↔ OfNoKind bytes
  pub wrong : (r ≡ Err WrongLength) ↔ OfWrongLength bytes
