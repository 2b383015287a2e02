-- What a reader reads over.
use Rattle.std.proofs.Common.{◌≡◌, ℕ, ◌+◌, ◌<◌, ◌-◌, Bool, true, false, cond, Some, None, Ok, Err, List, [], ◌∷◌, length, drop, ◌∙◌, add-zero, add_assoc, one-add, refl, sym, ap, arith, length-drop}
use Rattle.std.specs.List.{prefix_len}
use Rattle.std.proofs.lemmas.List.{nil_from_length, drop_more, drop-drop, get_or-drop}
use Rattle.std.proofs.lemmas.List.Sums.{prefix_len_stops}
use Rattle.shorthand.specs.declared.reader.Reader.{Reader}
use Rattle.shorthand.specs.declared.words.Action.{Action}
use Rattle.shorthand.specs.declared.words.Misread.{Misread}
use Rattle.shorthand.specs.Actions.{action_at}
use Rattle.shorthand.specs.Reader.{left, first, rest, StandsAt}
use Rattle.shorthand.specs.Reading.{is_blank, named, heading, Reading, said}
use Rattle.shorthand.proofs.Said.{ahead, step_blank, step_action, step_wrong}

-- a blank, and n characters behind it
past : {X : Type 0} (F : ℕ → List ℕ → X) (at c n : ℕ) (l : List ℕ) → F ((at + 1) + n) (drop n l) ≡ F (at + (1 + n)) (drop (1 + n) (c ∷ l))
past F at c n l = rw (add_assoc, one-add)

-- the rule's name is sought behind the blanks
heading_past : (at : ℕ) (l : List ℕ) → heading at l ≡ named (at + prefix_len is_blank l) (drop (prefix_len is_blank l) l)
heading_past at [] = rw add-zero
heading_past at (c ∷ l) =
    let n = prefix_len is_blank l in
    elim (is_blank c) as (λ (b : Bool). cond b (heading (at + 1) l) (named at (c ∷ l)) ≡ named (at + cond b (1 + n) 0) (drop (cond b (1 + n) 0) (c ∷ l)))
    [ true ↦ heading_past (at + 1) l ∙ past named at c n l | false ↦ rw add-zero ]

-- and so are the actions
said_past : (at : ℕ) (l : List ℕ) → said at at l ≡ said (at + prefix_len is_blank l) (at + prefix_len is_blank l) (drop (prefix_len is_blank l) l)
said_past at [] = refl
said_past at (c ∷ l) =
    let n = prefix_len is_blank l in
    let S : ℕ → List ℕ → Reading = λ p m. said p p m in
    elim (is_blank c) as (λ (b : Bool). is_blank c ≡ b → S at (c ∷ l) ≡ S (at + cond b (1 + n) 0) (drop (cond b (1 + n) 0) (c ∷ l)))
    [ true ↦ λ e. step_blank at c l e ∙ said_past (at + 1) l ∙ past S at c n l | false ↦ λ e. rw add-zero ]
    refl

-- a reader reads over blanks
module _ (old new : Reader) (moved : StandsAt old new (old.at + prefix_len is_blank (left old))) where
  pub heading_behind : heading old.at (left old) ≡ named new.at (left new)
  heading_behind = heading_past old.at (left old) ∙ rw (drop-drop, moved.text, moved.place)

  pub said_behind : said old.at old.at (left old) ≡ said new.at new.at (left new)
  said_behind = said_past old.at (left old) ∙ rw (drop-drop, moved.text, moved.place)

  pub not_blank : new.at < length new.text.now → is_blank (first new) ≡ false
  not_blank h =
      let w = rw (moved.text, moved.place) at h in
      let p : prefix_len is_blank (left old) < length (left old) = simp length-drop (omega arith) in
      rw (moved.text, moved.place) (simp get_or-drop at (prefix_len_stops is_blank (left old) 0 p))

pub said_end : (r : Reader) → length (left r) ≡ 0 → said r.at r.at (left r) ≡ record { actions = []; fault = None }
said_end r e = rw (nil_from_length (left r) e)

-- a reader stands at a character that is no blank
module _ (r : Reader) (within : r.at < length r.text.now) (seen : is_blank (first r) ≡ false) where
  at_action : said r.at r.at (left r) ≡ said r.at r.at (first r ∷ rest r)
  at_action = ap (said r.at r.at) (drop_more r.text.now r.at 0 within)

  pub said_action : (r' : Reader) (a : Action) → Ok (a, r'.at) ≡ action_at r.at (first r) (rest r) → r'.text.now ≡ r.text.now → r.at < r'.at → said r.at r.at (left r) ≡ ahead (a ∷ []) (said r'.at r'.at (left r'))
  said_action r' a p same on =
      let n : ℕ = r'.at - (r.at + 1) in
      let q : (r.at + 1) + n ≡ r'.at = omega arith in
      at_action ∙ rw same (simp (drop-drop, q) at (step_action r.at (first r) (rest r) seen a n (rw q (sym p))))

  pub said_wrong : (m : Misread) → Err m ≡ action_at r.at (first r) (rest r) → said r.at r.at (left r) ≡ record { actions = []; fault = Some m }
  said_wrong m p = at_action ∙ step_wrong r.at (first r) (rest r) seen m (sym p)
