-- The digits that bytes begin with, and the line that they begin with.
use Rattle.std.proofs.Common.{◌≡◌, ℕ, suc, ◌%◌, ◌<◌, true, List, [], ◌∷◌, ◌++◌, length, get_or, take, drop, get_or-take, refl, ap, ◌∙◌, arith}
use lib.Seq.{take-append_seam, get_or-append_seam, split_at}
use Rattle.std.proofs.lemmas.Bool.Decides.{nat_tests}
use Rattle.std.proofs.lemmas.List.{get_or_past}
use Rattle.std.proofs.lemmas.List.Elements.{All-head, All-tail}
use Rattle.std.proofs.lemmas.List.Folds.{length-prefix_len}
use Rattle.std.proofs.lemmas.List.Sums.{prefix_len_passes}
use Rattle.std.specs.List.{AllPass}
use Rattle.frames.specs.Digits.{is_digit}
use Rattle.frames.specs.Lines.{Line}
use Rattle.frames.specs.Reading.{run, whole}
use Rattle.frames.proofs.Numbers.{IsDigit}

run_all : (ds rest : List ℕ) → AllPass is_digit ds → run (ds ++ 10 ∷ rest) ≡ length ds
run_all [] rest a = refl
run_all (d ∷ ds) rest a = rw (All-head IsDigit d ds a) (omega (arith, run_all ds rest (All-tail IsDigit d ds a)))

run_digits : (bytes : List ℕ) → AllPass is_digit (take (run bytes) bytes)
run_digits bytes k d h =
    let lt : k < run bytes = omega (arith, length-prefix_len is_digit bytes) in
    rw (get_or-take (run bytes) bytes k d lt) (prefix_len_passes is_digit bytes k d lt)

pub line_run : (bytes ds : List ℕ) → Line bytes ds → run bytes ≡ length ds
line_run bytes ds w = ap run w.begins ∙ run_all ds w.rest w.all

-- the bytes begin with one line at most
pub line_digits : (bytes ds : List ℕ) → Line bytes ds → take (run bytes) bytes ≡ ds
line_digits bytes ds w = rw (line_run bytes ds w, w.begins) (take-append_seam ds (10 ∷ w.rest))

whole_is : (n : ℕ) (bytes : List ℕ) → 0 < n → n % 2 ≡ 0 → get_or bytes n 0 ≡ 10 → whole n bytes ≡ true
whole_is n bytes s v g = grind (arith, nat_tests)

pub line_whole : (bytes ds : List ℕ) → Line bytes ds → whole (run bytes) bytes ≡ true
line_whole bytes ds w =
    let g : get_or bytes (length ds) 0 ≡ 10 = rw w.begins (get_or-append_seam ds 10 w.rest 0) in
    rw (line_run bytes ds w) (whole_is (length ds) bytes w.some w.even g)

-- what the test of a whole line tells
whole_means : (n : ℕ) (bytes : List ℕ) → whole n bytes ≡ true → (0 < n) × (n % 2 ≡ 0) × (get_or bytes n 0 ≡ 10)
whole_means n bytes h = (grind (arith, nat_tests), grind (arith, nat_tests), grind (arith, nat_tests))

ends_within : (n : ℕ) (bytes : List ℕ) → get_or bytes n 0 ≡ 10 → n < length bytes
ends_within n bytes e = grind (arith, get_or_past)

pub whole_line : (bytes : List ℕ) → whole (run bytes) bytes ≡ true → Line bytes (take (run bytes) bytes)
whole_line bytes h =
    let means = whole_means (run bytes) bytes h in
    let long : length (take (run bytes) bytes) ≡ run bytes = length-prefix_len is_digit bytes in
    record {
      rest = drop (suc (run bytes)) bytes;
      begins = split_at bytes (run bytes) 0 (ends_within (run bytes) bytes means.2) ∙ ap (λ (x : ℕ). take (run bytes) bytes ++ x ∷ drop (suc (run bytes)) bytes) means.2;
      all = run_digits bytes;
      some = rw long means.0;
      even = rw long means.1;
    }
