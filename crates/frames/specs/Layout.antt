-- What lines look like: those of frames, and those of a clash, a verdict and a refusal.
use Rattle.std.specs.Prelude.{ℕ, ◌^◌, ◌<◌, List, [], ◌∷◌, ◌++◌}
use Rattle.std.specs.List.{flat_map}
use Rattle.frames.specs.declared.words.Frame.{Frame}
use Rattle.frames.specs.declared.words.Frame.TheVariants.{Header, OpenTask, OpenFinish, Close, Access, End}
use Rattle.frames.specs.Digits.{digits}

-- a field of a line: how many digits it has, and the number that they say
abbrev pub Field : Type 0
Field = ℕ × ℕ

-- the digits of fields, one field behind the other
abbrev pub body : List Field → List ℕ
body fs = flat_map (λ (f : Field). digits f.0 f.1) fs

-- a line: the digits of its fields, then byte 10
abbrev pub line_of : List Field → List ℕ
line_of fs = body fs ++ 10 ∷ []

-- each number fits its digits
abbrev pub Fit : List Field → Type 0
Fit [] = Unit {0}
Fit (f ∷ fs) = (f.1 < 16 ^ f.0) × Fit fs

-- the fields of a frame, its kind first
abbrev pub fields : Frame → List Field
fields (Header rule records) = (2, 0x00) ∷ (2, rule) ∷ (4, records) ∷ []
fields OpenTask = (2, 0x01) ∷ []
fields OpenFinish = (2, 0x02) ∷ []
fields Close = (2, 0x03) ∷ []
fields (Access class at) = (2, 0x04) ∷ (2, class) ∷ (4, at) ∷ []
fields (End events) = (2, 0x0F) ∷ (8, events) ∷ []

-- a frame as it is written
abbrev pub written : Frame → List ℕ
written f = line_of (fields f)

-- the line of a clash: later event, earlier event, record
abbrev pub clash_line : ℕ → ℕ → ℕ → List ℕ
clash_line later earlier at = line_of ((2, 0xC1) ∷ (8, later) ∷ (8, earlier) ∷ (4, at) ∷ [])

-- the line of a verdict
abbrev pub verdict_line : ℕ → ℕ → List ℕ
verdict_line accesses clashes = line_of ((2, 0xCF) ∷ (8, accesses) ∷ (8, clashes) ∷ [])

-- the line of a refusal: its number, its layer, and the line refused
abbrev pub refusal_line : ℕ → ℕ → ℕ → List ℕ
refusal_line number layer at = line_of ((2, 0xEE) ∷ (2, number) ∷ (2, layer) ∷ (8, at) ∷ [])
