-- Kinds of frames, and their numbers.
use Rattle.std.specs.Prelude.{◌≡◌, ◌≢◌, ℕ, Result, MatchResult}
use Rattle.frames.specs.declared.kind.Kind.{Kind}
use Rattle.frames.specs.declared.kind.Kind.TheVariants.{Header, OpenTask, OpenFinish, Close, Access, End}
use Rattle.frames.specs.declared.words.LineFault.{LineFault}
use Rattle.frames.specs.declared.words.LineFault.TheVariants.{UnknownKind}

-- the number of a kind
abbrev pub number_of : Kind → ℕ
number_of Header = 0x00
number_of OpenTask = 0x01
number_of OpenFinish = 0x02
number_of Close = 0x03
number_of Access = 0x04
number_of End = 0x0F

-- the kind of a number, or the refusal of a number that no kind has
abbrev pub Decodes : ℕ → Result Kind LineFault → Type 0
Decodes number r = MatchResult r (λ kind. number_of kind ≡ number) (λ fault. (fault ≡ UnknownKind) × ((kind : Kind) → number_of kind ≢ number))
