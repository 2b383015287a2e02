-- The digits of a line are read as the frame that is written so, by its kind and its length.
use Rattle.std.proofs.Common.{◌≡◌, ◌≢◌, ℕ, ◌+◌, ◌≤◌, eqb, List, [], ◌∷◌, ◌++◌, length, take, drop, Some, None, Ok, Err, Option, Result, sym, refl, ap, ◌∙◌, subst, arith}
use Rattle.std.proofs.lemmas.Bool.{cond_both, eqb-true, eqb-false}
use Rattle.std.proofs.lemmas.List.{drop_all}
use Rattle.std.proofs.lemmas.Bool.Decides.{nat_tests}
use Rattle.frames.specs.declared.kind.Kind.{Kind}
use Rattle.frames.specs.declared.kind.Kind.TheVariants as kinds
use Rattle.frames.specs.declared.words.Frame.{Frame}
use Rattle.frames.specs.declared.words.Frame.TheVariants.{Header, OpenTask, OpenFinish, Close, Access, End}
use Rattle.frames.specs.declared.words.LineFault.{LineFault}
use Rattle.frames.specs.declared.words.LineFault.TheVariants.{NoLine, UnknownKind, WrongLength}
use Rattle.std.specs.List.{AllPass}
use Rattle.frames.specs.Digits.{digits, number, said, is_digit}
use Rattle.frames.specs.Kinds.{number_of}
use Rattle.frames.specs.Layout.{Field, Fit, fields, body}
use Rattle.frames.specs.Lines.{OfKind}
use Rattle.frames.specs.Reading.{shaped, sized, framed}
use Rattle.frames.proofs.Numbers.{number_digits, said_lt, cut, digits_said}

-- the digits of fields of these widths
abbrev total : List ℕ → ℕ
total [] = 0
total (w ∷ ws) = w + total ws

-- the fields of these widths, from a place on
abbrev fields_at : ℕ → List ℕ → List ℕ → List Field
fields_at from [] ds = []
fields_at from (w ∷ ws) ds = (w, said w from ds) ∷ fields_at (from + w) ws ds

-- digits are those of the fields that they are cut into
fields_back : (from : ℕ) (ws ds : List ℕ) → AllPass is_digit ds → from + total ws ≡ length ds
    → (drop from ds ≡ body (fields_at from ws ds)) × Fit (fields_at from ws ds)
fields_back from [] ds a e = (drop_all from ds (omega arith), tt)
fields_back from (w ∷ ws) ds a e =
    let h : from + w ≤ length ds = omega arith in
    let rest = fields_back (from + w) ws ds a (omega arith) in
    (cut w from ds a h ∙ ap (λ (xs : List ℕ). digits w (said w from ds) ++ xs) rest.0, (said_lt w from ds h, rest.1))

-- Kinds.
abbrev kind : Frame → ℕ
kind f = number (take 2 (body (fields f)))

-- the number of digits of a kind
abbrev size_of : ℕ → ℕ
size_of k = length (body (fields (elim (shaped k []) [ Some f ↦ f | None ↦ Close ])))

kind_right : (f : Frame) → (digits 2 (kind f) ≡ take 2 (body (fields f))) × (length (body (fields f)) ≡ size_of (kind f))
kind_right (Header a b) = (refl, refl)
kind_right OpenTask = (refl, refl)
kind_right OpenFinish = (refl, refl)
kind_right Close = (refl, refl)
kind_right (Access a b) = (refl, refl)
kind_right (End a) = (refl, refl)

kind_same : (ds : List ℕ) (f : Frame) → OfKind ds f → said 2 0 ds ≡ kind f
kind_same ds f e = ap number e

kind_back : (ds : List ℕ) (f : Frame) → AllPass is_digit ds → 2 ≤ length ds → said 2 0 ds ≡ kind f → OfKind ds f
kind_back ds f a h e = sym (digits_said 2 0 ds a h) ∙ ap (digits 2) e ∙ (kind_right f).0

-- What is known of the frame that is taken for a kind.
abbrev Shape : ℕ → List ℕ → Option Frame → Type 0
Shape k ds (Some f) = (k ≡ kind f) × (length ds ≡ length (body (fields f)) → (ds ≡ body (fields f)) × Fit (fields f))
Shape k ds None = (f : Frame) → k ≡ kind f → ⊥

shape_of : (k : ℕ) (ds : List ℕ) (f : Frame) (ws : List ℕ) → AllPass is_digit ds → said 2 0 ds ≡ k → k ≡ kind f
    → (2, kind f) ∷ fields_at 2 ws ds ≡ fields f → 2 + total ws ≡ length (body (fields f)) → Shape k ds (Some f)
shape_of k ds f ws a e kf same size = (
  kf,
  λ long.
      subst (λ (fs : List Field). (ds ≡ body fs) × Fit fs) (ap (λ (n : ℕ). (2, n) ∷ fields_at 2 ws ds) (e ∙ kf) ∙ same)
      (fields_back 0 (2 ∷ ws) ds a (omega arith)),
)

no_shape : (k : ℕ) → (k ≡ 0x00 → ⊥) → (k ≡ 0x01 → ⊥) → (k ≡ 0x02 → ⊥) → (k ≡ 0x03 → ⊥) → (k ≡ 0x04 → ⊥) → (k ≡ 0x0F → ⊥) → (f : Frame) → k ≡ kind f → ⊥
no_shape k n0 n1 n2 n3 n4 n15 (Header a b) e = n0 e
no_shape k n0 n1 n2 n3 n4 n15 OpenTask e = n1 e
no_shape k n0 n1 n2 n3 n4 n15 OpenFinish e = n2 e
no_shape k n0 n1 n2 n3 n4 n15 Close e = n3 e
no_shape k n0 n1 n2 n3 n4 n15 (Access a b) e = n4 e
no_shape k n0 n1 n2 n3 n4 n15 (End a) e = n15 e

shape : (k : ℕ) (ds : List ℕ) → AllPass is_digit ds → said 2 0 ds ≡ k → Shape k ds (shaped k ds)
shape k ds a e =
    cond_both (eqb k 0x00) _ _ (Shape k ds) (λ t. shape_of k ds (Header (said 2 2 ds) (said 4 4 ds)) (2 ∷ 4 ∷ []) a e (eqb-true k 0x00 t) refl refl)
    (λ n0. cond_both (eqb k 0x01) _ _ (Shape k ds) (λ t. shape_of k ds OpenTask [] a e (eqb-true k 0x01 t) refl refl)
    (λ n1. cond_both (eqb k 0x02) _ _ (Shape k ds) (λ t. shape_of k ds OpenFinish [] a e (eqb-true k 0x02 t) refl refl)
    (λ n2. cond_both (eqb k 0x03) _ _ (Shape k ds) (λ t. shape_of k ds Close [] a e (eqb-true k 0x03 t) refl refl)
    (λ n3. cond_both (eqb k 0x04) _ _ (Shape k ds) (λ t. shape_of k ds (Access (said 2 2 ds) (said 4 4 ds)) (2 ∷ 4 ∷ []) a e (eqb-true k 0x04 t) refl refl)
    (λ n4. cond_both (eqb k 0x0F) _ _ (Shape k ds) (λ t. shape_of k ds (End (said 8 2 ds)) (8 ∷ []) a e (eqb-true k 0x0F t) refl refl)
    (λ n15. no_shape k (eqb-false k 0x00 n0) (eqb-false k 0x01 n1) (eqb-false k 0x02 n2)
    (eqb-false k 0x03 n3) (eqb-false k 0x04 n4) (eqb-false k 0x0F n15)))))))

-- What each answer says of the digits.
abbrev pub Framed : List ℕ → Result Frame LineFault → Type 0
Framed ds (Ok f) = (ds ≡ body (fields f)) × Fit (fields f)
Framed ds (Err NoLine) = ⊥
Framed ds (Err UnknownKind) = (f : Frame) → OfKind ds f → ⊥
Framed ds (Err WrongLength) = (g : Frame) × OfKind ds g × ((f : Frame) → OfKind ds f → length ds ≡ length (body (fields f)) → ⊥)

sized_right : (ds : List ℕ) (o : Option Frame) → AllPass is_digit ds → 2 ≤ length ds → Shape (said 2 0 ds) ds o → Framed ds (sized ds o)
sized_right ds (Some g) a h s =
    cond_both (eqb (length ds) (length (body (fields g)))) (Ok g) (Err WrongLength) (Framed ds)
    (λ t. s.1 (eqb-true (length ds) (length (body (fields g))) t))
    (λ n. (
      g,
      kind_back ds g a h s.0,
      λ f same long.
          eqb-false (length ds) (length (body (fields g))) n (long ∙ (kind_right f).1 ∙ ap size_of (sym (kind_same ds f same) ∙ s.0) ∙ sym ((kind_right g).1)),
    ))
sized_right ds None a h s = λ f same. s f (kind_same ds f same)

pub framed_right : (ds : List ℕ) → AllPass is_digit ds → 2 ≤ length ds → Framed ds (framed ds)
framed_right ds a h = sized_right ds (shaped (said 2 0 ds) ds) a h (shape (said 2 0 ds) ds a refl)

-- a frame as it is written is read as that frame
abbrev taken_as : Frame → Result Frame LineFault
taken_as f = Ok f

pub framed_back : (f : Frame) → Fit (fields f) → framed (body (fields f)) ≡ taken_as f
framed_back (Header a b) h =
    ap (λ (x : ℕ). taken_as (Header x (number (digits 4 b)))) (number_digits 2 a h.1.0)
    ∙ ap (λ (x : ℕ). taken_as (Header a x)) (number_digits 4 b h.1.1.0)
framed_back OpenTask h = refl
framed_back OpenFinish h = refl
framed_back Close h = refl
framed_back (Access a b) h =
    ap (λ (x : ℕ). taken_as (Access x (number (digits 4 b)))) (number_digits 2 a h.1.0)
    ∙ ap (λ (x : ℕ). taken_as (Access a x)) (number_digits 4 b h.1.1.0)
framed_back (End a) h = ap (λ (x : ℕ). taken_as (End x)) (number_digits 8 a h.1.0)

-- digits of no kind are refused
none_shaped : (k : ℕ) (ds : List ℕ) → ((kind : Kind) → number_of kind ≢ k) → shaped k ds ≡ None
none_shaped k ds none = grind (arith, nat_tests, none kinds.Header, none kinds.OpenTask, none kinds.OpenFinish, none kinds.Close, none kinds.Access, none kinds.End)

pub unknown_framed : (ds : List ℕ) → ((kind : Kind) → number_of kind ≢ said 2 0 ds) → framed ds ≡ Err UnknownKind
unknown_framed ds none = ap (sized ds) (none_shaped (said 2 0 ds) ds none)
