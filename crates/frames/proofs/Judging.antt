-- Each answer comes exactly where it should.
use Rattle.std.proofs.Common.{◌≡◌, ℕ, ◌+◌, ◌%◌, ◌<◌, ◌≤◌, Bool, cond, List, [], ◌∷◌, ◌++◌, length, take, Some, None, Ok, Err, Option, Result, sym, refl, ap, ◌∙◌, subst, append_assoc, arith, lit<}
use Rattle.std.proofs.lemmas.List.{length_push}
use Rattle.std.proofs.lemmas.Bool.{cond_both, both_ways}
use Rattle.frames.specs.declared.words.Frame.{Frame}
use Rattle.frames.specs.declared.words.Frame.TheVariants.{Header, OpenTask, OpenFinish, Close, Access, End}
use Rattle.frames.specs.declared.words.LineFault.{LineFault}
use Rattle.frames.specs.declared.words.LineFault.TheVariants.{NoLine, UnknownKind, WrongLength}
use Rattle.frames.specs.Layout.{fields, body}
use Rattle.frames.specs.Lines.{Line, FrameRead, IsNoLine, OfNoKind, OfWrongLength, Judged}
use Rattle.frames.specs.Reading.{run, whole, framed, told, read_at, reading}
use Rattle.frames.proofs.Fields.{all_fields}
use Rattle.frames.proofs.Shapes.{Framed, framed_right, framed_back}
use Rattle.frames.proofs.Runs.{line_run, line_digits, line_whole, whole_line}

abbrev Answer : Type 0
Answer = Result (Frame × ℕ) LineFault

-- what each answer says of the bytes
abbrev Read : List ℕ → Answer → Type 0
Read bytes (Ok p) = FrameRead bytes p.0 p.1
Read bytes (Err NoLine) = IsNoLine bytes
Read bytes (Err UnknownKind) = OfNoKind bytes
Read bytes (Err WrongLength) = OfWrongLength bytes

-- What is answered holds.
told_right : (bytes ds : List ℕ) (r : Result Frame LineFault) → Line bytes ds → Framed ds r → Read bytes (told (length ds) r)
told_right bytes ds (Ok f) w p =
    record {
      rest = w.rest;
      begins = w.begins ∙ ap (λ (xs : List ℕ). xs ++ 10 ∷ w.rest) p.0 ∙ sym (append_assoc (body (fields f)) (10 ∷ []) w.rest);
      fit = p.1;
      takes = ap (λ (xs : List ℕ). length xs + 1) p.0 ∙ sym (length_push (body (fields f)) 10);
    }
told_right bytes ds (Err NoLine) w p = absurd p
told_right bytes ds (Err UnknownKind) w p = record { ds = ds; line = w; none = p }
told_right bytes ds (Err WrongLength) w p = record { ds = ds; line = w; frame = p.0; of_kind = p.1; wrong = p.2 }

line_two : (bytes ds : List ℕ) → Line bytes ds → 2 ≤ length ds
line_two bytes ds w = let s : 0 < length ds = w.some in let v : length ds % 2 ≡ 0 = w.even in omega arith

line_right : (bytes : List ℕ) → Line bytes (take (run bytes) bytes) → Read bytes (told (run bytes) (framed (take (run bytes) bytes)))
line_right bytes w =
    subst (λ (n : ℕ). Read bytes (told n (framed (take (run bytes) bytes)))) (sym (line_run bytes (take (run bytes) bytes) w))
    (told_right bytes (take (run bytes) bytes) (framed (take (run bytes) bytes)) w
    (framed_right (take (run bytes) bytes) w.all (line_two bytes (take (run bytes) bytes) w)))

right : (bytes : List ℕ) → Read bytes (reading bytes)
right bytes =
    cond_both (whole (run bytes) bytes) (Some (run bytes)) None (λ (o : Option ℕ). Read bytes (read_at bytes o))
    (λ e. line_right bytes (whole_line bytes e)) (λ e ds w. both_ways (whole (run bytes) bytes) e (line_whole bytes ds w))

-- What is written is read.
body_shape : (f : Frame) → (0 < length (body (fields f))) × (length (body (fields f)) % 2 ≡ 0)
body_shape (Header a b) = (lit< tt, refl)
body_shape OpenTask = (lit< tt, refl)
body_shape OpenFinish = (lit< tt, refl)
body_shape Close = (lit< tt, refl)
body_shape (Access a b) = (lit< tt, refl)
body_shape (End a) = (lit< tt, refl)

frame_line : (bytes : List ℕ) (f : Frame) (taken : ℕ) → FrameRead bytes f taken → Line bytes (body (fields f))
frame_line bytes f taken w =
    record {
      rest = w.rest;
      begins = w.begins ∙ append_assoc (body (fields f)) (10 ∷ []) w.rest;
      all = all_fields (fields f) w.fit;
      some = (body_shape f).0;
      even = (body_shape f).1;
    }

abbrev read_as : Frame → ℕ → Answer
read_as f taken = Ok (f, taken)

line_reading : (bytes ds : List ℕ) → Line bytes ds → reading bytes ≡ told (length ds) (framed ds)
line_reading bytes ds w =
    ap (λ (b : Bool). read_at bytes (cond b (Some (run bytes)) None)) (line_whole bytes ds w)
    ∙ ap (λ (n : ℕ). told n (framed (take (run bytes) bytes))) (line_run bytes ds w)
    ∙ ap (λ (xs : List ℕ). told (length ds) (framed xs)) (line_digits bytes ds w)

exact : (bytes : List ℕ) (f : Frame) (taken : ℕ) → FrameRead bytes f taken → reading bytes ≡ read_as f taken
exact bytes f taken w =
    line_reading bytes (body (fields f)) (frame_line bytes f taken w) ∙ ap (told (length (body (fields f)))) (framed_back f w.fit)
    ∙ ap (read_as f) (sym (length_push (body (fields f)) 10) ∙ sym w.takes)

-- No two of the four hold.
same_line : (bytes a b : List ℕ) → Line bytes a → Line bytes b → a ≡ b
same_line bytes a b u v = sym (line_digits bytes a u) ∙ line_digits bytes b v

not_unknown : (bytes : List ℕ) (f : Frame) (taken : ℕ) → FrameRead bytes f taken → OfNoKind bytes → ⊥
not_unknown bytes f taken w n =
    n.none f (ap (take 2) (same_line bytes n.ds (body (fields f)) n.line (frame_line bytes f taken w)))

not_wrong : (bytes : List ℕ) (f : Frame) (taken : ℕ) → FrameRead bytes f taken → OfWrongLength bytes → ⊥
not_wrong bytes f taken w n =
    let e : n.ds ≡ body (fields f) = same_line bytes n.ds (body (fields f)) n.line (frame_line bytes f taken w) in
    n.wrong f (ap (take 2) e) (ap length e)

not_both : (bytes : List ℕ) → OfNoKind bytes → OfWrongLength bytes → ⊥
not_both bytes n w = n.none w.frame (ap (take 2) (same_line bytes n.ds w.ds n.line w.line) ∙ w.of_kind)

-- So the answer that holds is given.
to_none : (bytes : List ℕ) (r : Answer) → Read bytes r → IsNoLine bytes → r ≡ Err NoLine
to_none bytes (Ok p) w n = absurd (n (body (fields p.0)) (frame_line bytes p.0 p.1 w))
to_none bytes (Err NoLine) w n = refl
to_none bytes (Err UnknownKind) w n = absurd (n w.ds w.line)
to_none bytes (Err WrongLength) w n = absurd (n w.ds w.line)

to_unknown : (bytes : List ℕ) (r : Answer) → Read bytes r → OfNoKind bytes → r ≡ Err UnknownKind
to_unknown bytes (Ok p) w n = absurd (not_unknown bytes p.0 p.1 w n)
to_unknown bytes (Err NoLine) w n = absurd (w n.ds n.line)
to_unknown bytes (Err UnknownKind) w n = refl
to_unknown bytes (Err WrongLength) w n = absurd (not_both bytes n w)

to_wrong : (bytes : List ℕ) (r : Answer) → Read bytes r → OfWrongLength bytes → r ≡ Err WrongLength
to_wrong bytes (Ok p) w n = absurd (not_wrong bytes p.0 p.1 w n)
to_wrong bytes (Err NoLine) w n = absurd (w n.ds n.line)
to_wrong bytes (Err UnknownKind) w n = absurd (not_both bytes w n)
to_wrong bytes (Err WrongLength) w n = refl

judged_at : (bytes : List ℕ) (r : Answer) → Read bytes r → ((f : Frame) (taken : ℕ) → FrameRead bytes f taken → r ≡ Ok (f, taken)) → Judged bytes r
judged_at bytes r w x =
    record {
      reads = λ f taken. (λ e. subst (Read bytes) e w, x f taken);
      no_line = (λ e. subst (Read bytes) e w, to_none bytes r w);
      unknown = (λ e. subst (Read bytes) e w, to_unknown bytes r w);
      wrong = (λ e. subst (Read bytes) e w, to_wrong bytes r w);
    }

pub judged : (bytes : List ℕ) (r : Answer) → r ≡ reading bytes → Judged bytes r
judged bytes r e = subst (Judged bytes) (sym e) (judged_at bytes (reading bytes) (right bytes) (exact bytes))
