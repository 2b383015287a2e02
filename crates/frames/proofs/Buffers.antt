-- Digits, fields and lines put into a buffer.
use Rattle.std.proofs.Common.{◌≡◌, ℕ, suc, ◌+◌, ◌-◌, ◌/◌, ◌%◌, ◌^◌, ◌<◌, ◌≤◌, List, [], ◌∷◌, ◌++◌, length, get_or, take, drop, set, reverse, Ok, Err, sym, ap, ◌∙◌, subst, append_assoc, arith}
use Rattle.std.proofs.lemmas.List.{drop_more, length_push, take_more_set, reverse-append}
use Rattle.std.proofs.lemmas.Bool.{cond_above}
use Rattle.std.proofs.Math.Seq.{set-append_seam}
use Rattle.frames.specs.Digits.{digit_for, digits}
use Rattle.frames.specs.Layout.{Field, body, line_of}
use Rattle.frames.specs.Putting.{line_room, over, LinePut}
use Rattle.frames.proofs.Numbers.{rest_lt, digits_last}

-- one digit put behind those that stand already, the last of all first
pub digit_put : (width i : ℕ) (field : List ℕ) (rest : ℕ) → i < width → length field ≡ width → rest < 16 ^ (width - i)
    → digits (width - (i + 1)) (rest / 16) ++ reverse (take (i + 1) (set field i (digit_for (rest % 16)))) ≡ digits (width - i) rest ++ reverse (take i field)
digit_put width i field rest lt long h =
    let left : ℕ = width - (i + 1) in
    let d : ℕ = digit_for (rest % 16) in
    let s : width - i ≡ suc left = omega arith in
    let f : rest < 16 ^ suc left = subst (λ (n : ℕ). rest < 16 ^ n) s h in
    let put : reverse (take (i + 1) (set field i d)) ≡ d ∷ reverse (take i field) =
    ap reverse (take_more_set field i d (omega arith)) ∙ reverse-append (take i field) (d ∷ []) in
    rw (put, s)
    (sym (append_assoc (digits left (rest / 16)) (d ∷ []) (reverse (take i field)))
    ∙ ap (λ (ds : List ℕ). ds ++ reverse (take i field)) (sym (digits_last left rest f)))

-- what is left of a number fits the digits that are left
pub rest_fits : (width i rest : ℕ) → i < width → rest < 16 ^ (width - i) → rest / 16 < 16 ^ (width - (i + 1))
rest_fits width i rest lt h =
    let s : width - i ≡ suc (width - (i + 1)) = omega arith in
    rest_lt (width - (i + 1)) rest (subst (λ (n : ℕ). rest < 16 ^ n) s h)

-- byte 10, put behind the digits
line_ended : (ds old : List ℕ) → length ds < length old → set (over ds old) (length ds) 10 ≡ over (ds ++ 10 ∷ []) old
line_ended ds old h =
    ap (λ (xs : List ℕ). set (ds ++ xs) (length ds) 10) (drop_more old (length ds) 0 h)
    ∙ set-append_seam ds (get_or old (length ds) 0) (drop (length ds + 1) old) 10 ∙ sym (append_assoc ds (10 ∷ []) (drop (length ds + 1) old))
    ∙ ap (λ (n : ℕ). (ds ++ 10 ∷ []) ++ drop n old) (sym (length_push ds 10))

-- the fields of a line, and byte 10 behind them
pub line_put : (fs : List Field) (old : List ℕ) → length (line_of fs) ≤ line_room → line_room ≤ length old
    → LinePut (line_of fs) old (set (over (body fs) old) (length (body fs)) 10) (Ok (length (body fs) + 1))
line_put fs old short room =
    record {
      answer = cond_above (length old) line_room (Err (record {})) (Ok (length (line_of fs))) (Ok (length (body fs) + 1)) room (ap Ok (sym (length_push (body fs) 10)));
      buffer = cond_above (length old) line_room old (over (line_of fs) old) _ room (line_ended (body fs) old (omega (arith, length_push (body fs) 10)));
    }
