-- A plan that was written is read back.
use Rattle.std.proofs.Common.{◌≡◌, ℕ, zero, suc, ◌+◌, ◌-◌, ◌*◌, ◌/◌, ◌%◌, ◌^◌, ◌<◌, true, false, eqb, List, [], ◌∷◌, ◌++◌, length, drop, Some, None, Ok, codes, decimal, Result, refl, ap, ◌∙◌, add-zero, arith}
use Rattle.std.proofs.Math.Bool.{and-false}
use Rattle.std.specs.Str.Parse.{AllDigits, digits_value_after}
use Rattle.std.specs.Char.{is_ascii_digit, digit_value}
use Rattle.std.proofs.lemmas.Fmt.{decimal_is_IsNumeral}
use Rattle.std.proofs.lemmas.List.{drop_at}
use Rattle.std.proofs.lemmas.Bool.{le-ltb}
use Rattle.std.proofs.lemmas.Bool.Decides.{nat_tests}
use Rattle.rules.specs.declared.Rule.{Rule}
use Rattle.rules.specs.declared.Rule.TheVariants.{Plain, Depot, Field}
use Rattle.shorthand.specs.declared.words.Action.{Action}
use Rattle.shorthand.specs.declared.words.Action.TheVariants.{OpenTask, OpenFinish, Close, Access, Ask}
use Rattle.shorthand.specs.declared.words.Fault.{Fault}
use Rattle.shorthand.specs.declared.words.Plan.{Plan}
use Rattle.shorthand.specs.Numbers.{digits_on, number_at}
use Rattle.shorthand.specs.Actions.{hex, acting, action_at}
use Rattle.shorthand.specs.Reading.{is_blank, heading, reading, said, put_over, read_answer, read_into}
use Rattle.shorthand.specs.Written.{digit, class_text, action_text, actions_text, written, Fits, AllFit, FromPlan, ReadBack}
use Rattle.shorthand.proofs.Said.{ahead, said_on, step_blank, step_action}

digit_reads : (d : ℕ) → digit_value d < 10 → is_ascii_digit d ≡ true
digit_reads d h = grind (arith, nat_tests)

digit_counts : (n d : ℕ) → digit_value d < 10 → 10 * n + (d - 48) ≡ n * 10 + digit_value d
digit_counts n d h = grind (arith, nat_tests)

-- digits are read up to the character behind them
digits_read : (n at : ℕ) (ds : List ℕ) (c : ℕ) (rest : List ℕ) → AllDigits 10 ds → is_ascii_digit c ≡ false → digits_on n at (ds ++ c ∷ rest) ≡ (digits_value_after 10 n ds, at + length ds)
digits_read n at [] c rest h e = rw (e, add-zero)
digits_read n at (d ∷ ds) c rest h e =
    let i = digits_read (10 * n + (d - 48)) (at + 1) ds c rest h.1 e in
    let q : (at + 1) + length ds ≡ at + suc (length ds) = omega arith in
    rw (digit_reads d h.0) (i ∙ rw (digit_counts n d h.0, q))

-- a number, and the blank behind it
number_read : (at n : ℕ) (rest : List ℕ) → n < 2 ^ 32 → number_at at (decimal n ++ 32 ∷ rest) ≡ Ok (n, at + length (decimal n))
number_read at n rest h =
    let d = decimal_is_IsNumeral n (omega arith) in
    let p : digits_on 0 at (decimal n ++ 32 ∷ rest) ≡ (n, at + length (decimal n)) =
    digits_read 0 at (decimal n) 32 rest d.0.1 refl ∙ ap (λ (v : ℕ). (v, at + length (decimal n))) d.1 in
    let some : 0 < length (decimal n) = d.0.0 in
    rw p (grind (arith, nat_tests))

-- An action a stands at the front of a text, its first character at the place `at`, and `rest` is behind it.
record Stands (at : ℕ) (a : Action) (l rest : List ℕ) : Type 0 where
  first : ℕ
  tail : List ℕ
  begins : l ≡ first ∷ tail
  seen : is_blank first ≡ false
  more : ℕ
  acts : action_at at first tail ≡ Ok (a, (at + 1) + more)
  behind : drop more tail ≡ rest

-- a letter, and a number behind it
module _ (at n : ℕ) (rest : List ℕ) (h : n < 2 ^ 32) (c : ℕ) (a : ℕ → Action)
    (seen : is_blank c ≡ false) (letter : (l : List ℕ) → action_at at c l ≡ acting a (number_at (at + 1) l)) where
  lettered : Stands at (a n) (c ∷ decimal n ++ 32 ∷ rest) (32 ∷ rest)
  lettered =
      record {
        first = c;
        tail = decimal n ++ 32 ∷ rest;
        begins = refl;
        seen = seen;
        more = length (decimal n);
        acts = letter (decimal n ++ 32 ∷ rest) ∙ ap (acting a) (number_read (at + 1) n rest h);
        behind = drop_at (decimal n) (32 ∷ rest) (length (decimal n)) refl;
      }

-- no other action begins with a digit of a class
other : (v c : ℕ) → v < 16 → hex c ≡ None → eqb (digit v) c ≡ false
other v c h e = grind (arith, nat_tests)

hex_digit : (v : ℕ) → v < 16 → hex (digit v) ≡ Some v
hex_digit v h = grind (arith, nat_tests)

digit_first : (at v w : ℕ) (l : List ℕ) → v < 16 → w < 16 → action_at at (digit v) (digit w ∷ 64 ∷ l) ≡ acting (Access (16 * v + w)) (number_at (at + 3) l)
digit_first at v w l h k =
    rw (other v 84 h refl, hex_digit w k, and-false, other v 41 h refl, other v 114 h refl, other v 119 h refl, other v 97 h refl, other v 63 h refl, hex_digit v h)

-- two digits, an @ and a number
classed : (at c n : ℕ) (rest : List ℕ) → c < 256 → n < 2 ^ 32 → Stands at (Access c n) (digit (c / 16) ∷ digit (c % 16) ∷ 64 ∷ decimal n ++ 32 ∷ rest) (32 ∷ rest)
classed at c n rest h k =
    let high : c / 16 < 16 = omega arith in
    let low : c % 16 < 16 = omega arith in
    let whole : 16 * (c / 16) + c % 16 ≡ c = omega arith in
    let end : (at + 3) + length (decimal n) ≡ (at + 1) + suc (suc (length (decimal n))) = omega arith in
    record {
      first = digit (c / 16);
      tail = digit (c % 16) ∷ 64 ∷ decimal n ++ 32 ∷ rest;
      begins = refl;
      seen = grind (arith, nat_tests);
      more = suc (suc (length (decimal n)));
      acts = digit_first at (c / 16) (c % 16) (decimal n ++ 32 ∷ rest) high low ∙ rw (whole, number_read (at + 3) n rest k, end);
      behind = drop_at (decimal n) (32 ∷ rest) (length (decimal n)) refl;
    }

hex_text : (c : ℕ) → 2 < c → class_text c ≡ digit (c / 16) ∷ digit (c % 16) ∷ codes "@"
hex_text c h = grind (arith, nat_tests)

stands : (at : ℕ) (a : Action) (rest : List ℕ) → Fits a → Stands at a (action_text a ++ 32 ∷ rest) (32 ∷ rest)
stands at OpenTask rest h = record { first = 84; tail = 32 ∷ rest; begins = refl; seen = refl; more = 0; acts = rw add-zero; behind = refl }
stands at OpenFinish rest h = record { first = 70; tail = 32 ∷ rest; begins = refl; seen = refl; more = 0; acts = rw add-zero; behind = refl }
stands at Close rest h = record { first = 41; tail = 32 ∷ rest; begins = refl; seen = refl; more = 0; acts = rw add-zero; behind = refl }
stands at (Access zero r) rest h = lettered at r rest h.1 114 (Access 0) refl (λ l. refl)
stands at (Access (suc zero) r) rest h = lettered at r rest h.1 119 (Access 1) refl (λ l. refl)
stands at (Access (suc (suc zero)) r) rest h = lettered at r rest h.1 97 (Access 2) refl (λ l. refl)
stands at (Access (suc (suc (suc c))) r) rest h = rw (hex_text (suc (suc (suc c))) (omega arith)) (classed at (suc (suc (suc c))) r rest h.0 h.1)
stands at (Ask t) rest h = lettered at t rest h 63 (λ n. Ask n) refl (λ l. refl)

-- one action, and the blank behind it
step : (at : ℕ) (a : Action) (l rest : List ℕ) → Stands at a l (32 ∷ rest) → (next : ℕ) × (said at at l ≡ ahead (a ∷ []) (said next next rest))
step at a l rest s =
    let p : ℕ = (at + 1) + s.more in
    (p + 1, rw s.begins (step_action at s.first s.tail s.seen a s.more s.acts ∙ rw s.behind (ap (ahead (a ∷ [])) (step_blank p 32 rest refl))))

actions_back : (actions : List Action) → AllFit actions → (at : ℕ) → said at at (actions_text actions) ≡ record { actions = actions; fault = None }
actions_back [] h at = refl
actions_back (a ∷ rest) h at =
    let s = step at a (action_text a ++ 32 ∷ actions_text rest) (actions_text rest) (stands at a (actions_text rest) h.0) in
    s.1 ∙ ap (ahead (a ∷ [])) (actions_back rest h.1 s.0)

-- behind a name of five letters
named_back : (l : List ℕ) (actions : List Action) → AllFit actions → drop 5 l ≡ 32 ∷ actions_text actions → said 5 0 l ≡ record { actions = actions; fault = None }
named_back l actions h e = said_on 5 0 l ∙ rw e (step_blank 5 32 (actions_text actions) refl ∙ actions_back actions h 6)

pub reading_back : (rule : Rule) (actions : List Action) → AllFit actions → reading (written rule actions) ≡ record { actions = actions; fault = None }
reading_back (Plain r) actions h = named_back (written (Plain r) actions) actions h refl
reading_back (Depot r) actions h = named_back (written (Depot r) actions) actions h refl
reading_back (Field r) actions h = named_back (written (Field r) actions) actions h refl

pub heading_back : (rule : Rule) (actions : List Action) → (heading 0 (written rule actions)).0 ≡ rule
heading_back (Plain _) actions = refl
heading_back (Depot _) actions = refl
heading_back (Field _) actions = refl

module _ (text : List ℕ) (places : List Action) (rule : Rule) (actions : List Action) (from : FromPlan text places rule actions) where
  says : reading text ≡ record { actions = actions; fault = None }
  says = rw from.is (reading_back rule actions from.fit)

  names : (heading 0 text).0 ≡ rule
  names = rw from.is (heading_back rule actions)

  plan_back : read_answer (length places) text ≡ Ok (record { rule = rule; count = length actions })
  plan_back = rw (le-ltb (length places) (length text) from.room, says, names)

  put_back : read_into places text ≡ put_over actions places
  put_back = rw (le-ltb (length places) (length text) from.room, says)

pub read_back : (text : List ℕ) (places places' : List Action) (r : Result Plan Fault) → r ≡ read_answer (length places) text → places' ≡ read_into places text → ReadBack text places places' r
read_back text places places' r e f =
    record { plan = λ rule actions from. e ∙ plan_back text places rule actions from; put = λ rule actions from. f ∙ put_back text places rule actions from }
