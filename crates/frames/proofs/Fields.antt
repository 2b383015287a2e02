-- The digits of fields.
use Rattle.std.proofs.Common.{ℕ, zero, suc, ◌+◌, ◌^◌, ◌<◌, List, [], ◌∷◌, length, get_or, take, arith}
use Rattle.std.proofs.lemmas.List.{length_push}
use Rattle.std.proofs.lemmas.List.Elements.{All-nil, All-append}
use Rattle.std.proofs.lemmas.List.Folds.{length-flat_map-take}
use Rattle.std.specs.List.{AllPass}
use Rattle.frames.specs.Digits.{digits, is_digit}
use Rattle.frames.specs.Layout.{Field, body, line_of, Fit}
use Rattle.frames.proofs.Numbers.{IsDigit, all_digits, length_digits}

-- the digits of one more field are within the line
pub field_within : (fs : List Field) (i : ℕ) → i < length fs → length (body (take i fs)) + (get_or fs i (0, 0)).0 < length (line_of fs)
field_within fs i h =
    let more = length-flat_map-take (λ (f : Field). digits f.0 f.1) fs i (0, 0) h in
    omega (arith, more, length_digits (get_or fs i (0, 0)).0 (get_or fs i (0, 0)).1, length_push (body fs) 10)

pub fit_at : (fs : List Field) (i : ℕ) → i < length fs → Fit fs → (get_or fs i (0, 0)).1 < 16 ^ (get_or fs i (0, 0)).0
fit_at [] i h a = absurd (let z : ⊥ = omega arith in z)
fit_at (f ∷ fs) zero h a = a.0
fit_at (f ∷ fs) (suc i) h a = fit_at fs i (omega arith) a.1

pub all_fields : (fs : List Field) → Fit fs → AllPass is_digit (body fs)
all_fields [] a = All-nil IsDigit
all_fields (f ∷ fs) a = All-append IsDigit (digits f.0 f.1) (body fs) (all_digits f.0 f.1 a.0) (all_fields fs a.1)
