-- Where a reader stands in its text.
use Rattle.std.specs.Prelude.{◌≡◌, ℕ, ◌+◌, ◌<◌, slice_index, List, drop, Ok, Err, Result}
use Rattle.shorthand.specs.declared.reader.Reader.{Reader}
use Rattle.shorthand.specs.declared.words.Misread.{Misread}

-- the text that is left
abbrev pub left : Reader → List ℕ
left r = drop r.at r.text.now

-- the character at the place, 0 behind the last, and the text behind it
abbrev pub first : Reader → ℕ
first r = slice_index r.text.now r.at

abbrev pub rest : Reader → List ℕ
rest r = drop (r.at + 1) r.text.now

-- the reader has the same text, and stands at the place `at` of it
pub record StandsAt (old new : Reader) (at : ℕ) : Type 0 where
  pub text : new.text.now ≡ old.text.now
  pub place : new.at ≡ at

-- what was read, and the place behind it
abbrev pub placed : {X : Type 0} → Result X Misread → ℕ → Result (X × ℕ) Misread
placed (Ok x) at = Ok (x, at)
placed (Err m) at = Err m

-- what is read takes up at least a character of the text
abbrev pub Behind : {X : Type 0} → Reader → Reader → Result X Misread → Type 0
Behind old new (Ok x) = (new.text.now ≡ old.text.now) × (old.at < new.at)
Behind old new (Err m) = Unit {0}
