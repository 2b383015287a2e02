-- Digits say their number, and a number is written by its digits.
use Rattle.std.proofs.Common.{◌≡◌, ℕ, zero, suc, ◌+◌, ◌*◌, ◌/◌, ◌%◌, ◌^◌, ◌<◌, ◌≤◌, true, List, [], ◌∷◌, ◌++◌, length, get_or, take, drop, sym, refl, ap, ◌∙◌, subst, mod-lt, mul_assoc, div-lt_iff_lt-mul, add-mul, pow-suc, div-add-mod', arith, lit<, length-append, length-drop, length-take, length-take-le, take-add, pow-add}
use native.Mathlib.Nat.{pow-succ', pow-le-pow_right, one-le-pow}
use lib.Arith.{digits_lt, digits_div, digits_mod}
use Rattle.std.proofs.lemmas.Bool.Decides.{nat_tests}
use Rattle.std.proofs.lemmas.List.{take-append-drop, take_more, drop_more, drop-drop}
use Rattle.std.proofs.lemmas.List.Elements.{All-nil, All-cons, All-head, All-tail, All-push, All-take, All-drop}
use Rattle.std.specs.List.{AllPass}
use Rattle.frames.specs.Digits.{digit_for, digits, is_digit, value, number, said}

-- One digit.
abbrev pub IsDigit : ℕ → Type 0
IsDigit b = is_digit b ≡ true

digit_is : (n : ℕ) → n < 16 → is_digit (digit_for n) ≡ true
digit_is n h = grind (arith, nat_tests)

digit_value : (n : ℕ) → n < 16 → value (digit_for n) ≡ n
digit_value n h = grind (arith, nat_tests)

digit_back : (b : ℕ) → is_digit b ≡ true → digit_for (value b) ≡ b
digit_back b h = grind (arith, nat_tests)

value_lt : (b : ℕ) → value b < 16
value_lt b = grind (arith, nat_tests)

-- The number of digits, and back.
pow_pos : (w : ℕ) → 0 < 16 ^ w
pow_pos w = one-le-pow w 16 (lit< tt)

pub number_lt : (ds : List ℕ) → number ds < 16 ^ length ds
number_lt [] = lit< tt
number_lt (d ∷ ds) = omega (arith, digits_lt (value_lt d) (number_lt ds), pow-succ' 16 (length ds))

digits_number : (ds : List ℕ) → AllPass is_digit ds → digits (length ds) (number ds) ≡ ds
digits_number [] a = refl
digits_number (d ∷ ds) a =
    let q : (value d * 16 ^ length ds + number ds) / 16 ^ length ds ≡ value d = digits_div (value d) (number_lt ds) in
    let r : (value d * 16 ^ length ds + number ds) % 16 ^ length ds ≡ number ds = digits_mod (value d) (number_lt ds) in
    rw (q, r, digit_back d (All-head IsDigit d ds a), digits_number ds (All-tail IsDigit d ds a))

pub length_digits : (w n : ℕ) → length (digits w n) ≡ w
length_digits zero n = refl
length_digits (suc w) n = ap suc (length_digits w (n % 16 ^ w))

first_lt : (w n : ℕ) → n < 16 ^ suc w → n / 16 ^ w < 16
first_lt w n h = (div-lt_iff_lt-mul (pow_pos w)).1 (subst (λ (x : ℕ). n < x) (pow-succ' 16 w) h)

pub number_digits : (w n : ℕ) → n < 16 ^ w → number (digits w n) ≡ n
number_digits zero n h = let k : n < 1 = h in omega arith
number_digits (suc w) n h =
    let e : value (digit_for (n / 16 ^ w)) ≡ n / 16 ^ w = digit_value (n / 16 ^ w) (first_lt w n h) in
    let i : number (digits w (n % 16 ^ w)) ≡ n % 16 ^ w = number_digits w (n % 16 ^ w) (mod-lt n (pow_pos w)) in
    rw (e, length_digits w (n % 16 ^ w), i) (div-add-mod' n (16 ^ w))

pub all_digits : (w n : ℕ) → n < 16 ^ w → AllPass is_digit (digits w n)
all_digits zero n h = All-nil IsDigit
all_digits (suc w) n h = All-cons IsDigit (digit_for (n / 16 ^ w)) (digits w (n % 16 ^ w)) (digit_is (n / 16 ^ w) (first_lt w n h)) (all_digits w (n % 16 ^ w) (mod-lt n (pow_pos w)))

-- Digits in two parts, and one by one.
number_join : (xs ys : List ℕ) → number (xs ++ ys) ≡ number xs * 16 ^ length ys + number ys
number_join [] ys = omega arith
number_join (x ∷ xs) ys =
    let p : 16 ^ (length xs + length ys) ≡ 16 ^ length xs * 16 ^ length ys = pow-add 16 (length xs) (length ys) in
    rw (length-append xs ys, p, number_join xs ys)
    (omega (arith, mul_assoc (value x) (16 ^ length xs) (16 ^ length ys), add-mul (value x * 16 ^ length xs) (number xs) (16 ^ length ys)))

pub said_join : (w v from : ℕ) (ds : List ℕ) → from + (w + v) ≤ length ds → said (w + v) from ds ≡ said w from ds * 16 ^ v + said v (from + w) ds
said_join w v from ds h =
    let long : length (take v (drop (from + w) ds)) ≡ v = length-take-le v (drop (from + w) ds) (simp length-drop (omega arith)) in
    rw (take-add w v (drop from ds), drop-drop w from ds, number_join, long)

pub said_one : (from : ℕ) (ds : List ℕ) → from < length ds → said 1 from ds ≡ value (get_or ds from 0)
said_one from ds h = ap (λ (xs : List ℕ). number (take 1 xs)) (drop_more ds from 0 h) ∙ omega arith

number_push : (ds : List ℕ) (d : ℕ) → number (ds ++ d ∷ []) ≡ number ds * 16 + value d
number_push ds d = number_join ds (d ∷ []) ∙ omega arith

-- what the first digits say
pub part_lt : (ds : List ℕ) (i : ℕ) → number (take i ds) < 16 ^ length ds
part_lt ds i =
    let long : length (take i ds) ≤ length ds = omega (arith, length-take i ds) in
    let lt : 16 ^ length (take i ds) ≤ 16 ^ length ds = pow-le-pow_right (lit< tt) long in
    omega (arith, number_lt (take i ds), lt)

-- one digit more, which still fits 32 bits
pub digit_more : (ds : List ℕ) (i : ℕ) → i < length ds → length ds ≤ 8
    → (number (take i ds) * 16 + value (get_or ds i 0) < 2 ^ 32) × (number (take (i + 1) ds) ≡ number (take i ds) * 16 + value (get_or ds i 0))
digit_more ds i h short =
    let more : number (take (i + 1) ds) ≡ number (take i ds) * 16 + value (get_or ds i 0) =
    ap number (take_more ds i 0 h) ∙ number_push (take i ds) (get_or ds i 0) in
    let lt : 16 ^ length ds ≤ 16 ^ 8 = pow-le-pow_right (lit< tt) short in
    (omega (arith, part_lt ds (i + 1), lt), more)

pub said_lt : (w from : ℕ) (ds : List ℕ) → from + w ≤ length ds → said w from ds < 16 ^ w
said_lt w from ds h =
    let long : length (take w (drop from ds)) ≡ w = length-take-le w (drop from ds) (simp length-drop (omega arith)) in
    subst (λ (n : ℕ). said w from ds < 16 ^ n) long (number_lt (take w (drop from ds)))

-- digits are those of the number that they say
digits_by : (w n : ℕ) (ds : List ℕ) → AllPass is_digit ds → length ds ≡ w → number ds ≡ n → digits w n ≡ ds
digits_by w n ds a k e = rw (← k, ← e) (digits_number ds a)

-- w digits from a place on
pub digits_said : (w from : ℕ) (ds : List ℕ) → AllPass is_digit ds → from + w ≤ length ds → digits w (said w from ds) ≡ take w (drop from ds)
digits_said w from ds a h =
    let long : length (take w (drop from ds)) ≡ w = length-take-le w (drop from ds) (simp length-drop (omega arith)) in
    digits_by w (said w from ds) (take w (drop from ds)) (All-take IsDigit w (drop from ds) (All-drop IsDigit from ds a)) long refl

-- and the rest
pub cut : (w from : ℕ) (ds : List ℕ) → AllPass is_digit ds → from + w ≤ length ds → drop from ds ≡ digits w (said w from ds) ++ drop (from + w) ds
cut w from ds a h = rw (digits_said w from ds a h, ← drop-drop w from ds) (sym (take-append-drop w (drop from ds)))

-- The last digit.
pub rest_lt : (w n : ℕ) → n < 16 ^ suc w → n / 16 < 16 ^ w
rest_lt w n h = (div-lt_iff_lt-mul (lit< {m = 0} {n = 16} tt)).1 (subst (λ (x : ℕ). n < x) (pow-suc 16 w) h)

pub digits_last : (w n : ℕ) → n < 16 ^ suc w → digits (suc w) n ≡ digits w (n / 16) ++ digit_for (n % 16) ∷ []
digits_last w n h =
    let m : n % 16 < 16 = mod-lt n (lit< tt) in
    let e : number (digits w (n / 16)) ≡ n / 16 = number_digits w (n / 16) (rest_lt w n h) in
    let v : value (digit_for (n % 16)) ≡ n % 16 = digit_value (n % 16) m in
    let j = number_push (digits w (n / 16)) (digit_for (n % 16)) in
    digits_by (suc w) n (digits w (n / 16) ++ digit_for (n % 16) ∷ [])
    (All-push IsDigit (digits w (n / 16)) (digit_for (n % 16)) (all_digits w (n / 16) (rest_lt w n h)) (digit_is (n % 16) m))
    (simp (length-append, length_digits) (omega arith))
    (omega (arith, j, e, v, div-add-mod' n 16))
