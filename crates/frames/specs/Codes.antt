-- The number and the layer of each refusal, and how it is printed.
use Rattle.std.specs.Prelude.{ℕ, List, codes}
use Rattle.refusals.specs.declared.Code.{Code}
use Rattle.refusals.specs.declared.Layer.TheVariants.{Line, Frame}
use Rattle.frames.specs.declared.words.LineFault.{LineFault}
use Rattle.frames.specs.declared.words.LineFault.TheVariants.{NoLine, UnknownKind, WrongLength}

abbrev pub fault_code : LineFault → Code
fault_code NoLine = record { number = 1; layer = Line }
fault_code UnknownKind = record { number = 2; layer = Frame }
fault_code WrongLength = record { number = 3; layer = Frame }

abbrev pub fault_text : LineFault → List ℕ
fault_text NoLine = codes "no line of digits"
fault_text UnknownKind = codes "no kind of frame"
fault_text WrongLength = codes "another number of digits than the kind has"

abbrev pub short_code : Code
short_code = record { number = 11; layer = Frame }

abbrev pub short_text : List ℕ
short_text = codes "a buffer too short for a line"
