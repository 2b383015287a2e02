-- What a text says, step by step.
use Rattle.std.proofs.Common.{◌≡◌, ℕ, zero, suc, ◌+◌, ◌≤◌, true, false, List, [], ◌∷◌, ◌++◌, drop, Some, Ok, Err, sym, refl, ap, ◌∙◌, add-zero, arith}
use Rattle.std.proofs.lemmas.Bool.{le-ltb, lt-ltb}
use Rattle.shorthand.specs.declared.words.Action.{Action}
use Rattle.shorthand.specs.declared.words.Misread.{Misread}
use Rattle.shorthand.specs.Actions.{action_at}
use Rattle.shorthand.specs.Reading.{is_blank, Reading, said}

-- what was read ahead, and what the text says behind it
abbrev pub ahead : List Action → Reading → Reading
ahead done r = record { actions = done ++ r.actions; fault = r.fault }

-- where nothing is passed over, it does not matter from where
pub said_here : (from at : ℕ) (l : List ℕ) → from ≤ at → said from at l ≡ said at at l
said_here from at [] h = refl
said_here from at (c ∷ l) h =
    let g : said from (at + 1) l ≡ said at (at + 1) l = said_here from (at + 1) l (omega arith) ∙ sym (said_here at (at + 1) l (omega arith)) in
    rw (le-ltb at from h, le-ltb at at (omega arith), g)

-- what stands before the place read from is passed over
pub said_on : (k at : ℕ) (l : List ℕ) → said (at + k) at l ≡ said (at + k) (at + k) (drop k l)
said_on zero at l = rw add-zero
said_on (suc k) at [] = refl
said_on (suc k) at (c ∷ l) =
    let e : at + suc k ≡ (at + 1) + k = omega arith in
    rw (lt-ltb at (at + suc k) (omega arith), e) (said_on k (at + 1) l)

-- at the first character of a text
module _ (at c : ℕ) (l : List ℕ) where
  pub step_blank : is_blank c ≡ true → said at at (c ∷ l) ≡ said (at + 1) (at + 1) l
  step_blank e = rw (le-ltb at at (omega arith), e) (said_here at (at + 1) l (omega arith))

  -- k characters of the action follow
  pub step_action : is_blank c ≡ false → (a : Action) (k : ℕ) → action_at at c l ≡ Ok (a, (at + 1) + k) → said at at (c ∷ l) ≡ ahead (a ∷ []) (said ((at + 1) + k) ((at + 1) + k) (drop k l))
  step_action e a k p = rw (le-ltb at at (omega arith), e, p) (ap (ahead (a ∷ [])) (said_on k (at + 1) l))

  pub step_wrong : is_blank c ≡ false → (m : Misread) → action_at at c l ≡ Err m → said at at (c ∷ l) ≡ record { actions = []; fault = Some m }
  step_wrong e m p = rw (le-ltb at at (omega arith), e, p)
