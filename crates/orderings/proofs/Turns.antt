-- Exchanges in turn: each is answered as the state before it says, and leads to the next state.
use Rattle.std.proofs.Common.{◌≡◌, ℕ, ◌+◌, ◌<◌, List, [], ◌∷◌, ◌++◌, length, get_or, take, set, sym, refl, ap, ◌∙◌, subst}
use mathlib.Core.Path.{subst⁻¹}
use Rattle.std.proofs.lemmas.List.{take_more_set, map-set, set-get_or}
use Rattle.orderings.specs.declared.exchange.Exchange.{Exchange}
use Rattle.orderings.specs.Exchanges.{calls_of, Comes, after_each}

-- a reply written beside its call leaves the calls
pub same_calls : {C R : Type 0} (xs : List (Exchange C R)) (i : ℕ) (d : Exchange C R) (reply : R) → calls_of (set xs i (record { call = (get_or xs i d).call; reply = reply })) ≡ calls_of xs
same_calls {C} {R} xs i d reply = map-set (λ (x : Exchange C R). x.call) xs i (record { call = (get_or xs i d).call; reply = reply }) ∙ sym (map-set (λ (x : Exchange C R). x.call) xs i (get_or xs i d)) ∙ ap calls_of (set-get_or xs i d)

pub after_append : {S X : Type 0} (next : S → X → S) (s : S) (xs ys : List X) → after_each next s (xs ++ ys) ≡ after_each next (after_each next s xs) ys
after_append next s [] ys = refl
after_append next s (x ∷ xs) ys = after_append next (next s x) xs ys

module _ {S C R : Type 0} (answer : S → C → R) (next : S → Exchange C R → S) where
  abbrev pub InTurn : S → List (Exchange C R) → Type 0
  InTurn s [] = Unit {0}
  InTurn s (x ∷ xs) = (x.reply ≡ answer s x.call) × InTurn (next s x) xs

  turn_more : (s : S) (xs : List (Exchange C R)) (x : Exchange C R) → InTurn s xs → x.reply ≡ answer (after_each next s xs) x.call → InTurn s (xs ++ x ∷ [])
  turn_more s [] x t e = (e, tt)
  turn_more s (y ∷ xs) x (p, t) e = (p, turn_more (next s y) xs x t e)

  -- one exchange more, in a list that is written place by place
  pub one_turn : (s : S) (xs : List (Exchange C R)) (i : ℕ) (x : Exchange C R) → i < length xs → x.reply ≡ answer (after_each next s (take i xs)) x.call → InTurn s (take i xs) → InTurn s (take (i + 1) (set xs i x))
  one_turn s xs i x l e t = subst⁻¹ (InTurn s) (take_more_set xs i x l) (turn_more s (take i xs) x t e)

  pub turn_part : (s : S) (b rest : List (Exchange C R)) → InTurn s (b ++ rest) → InTurn s b
  turn_part s [] rest t = tt
  turn_part s (y ∷ b) rest (p, t) = (p, turn_part (next s y) b rest t)

  turn_at : (s : S) (b : List (Exchange C R)) (x : Exchange C R) (rest : List (Exchange C R)) → InTurn s (b ++ x ∷ rest) → x.reply ≡ answer (after_each next s b) x.call
  turn_at s [] x rest t = t.0
  turn_at s (y ∷ b) x rest t = turn_at (next s y) b x rest t.1

  -- each reply is the one after the exchanges before it
  pub turn_right : (s : S) (all : List (Exchange C R)) → InTurn s all → (b : List (Exchange C R)) (x : Exchange C R) → Comes all b x → x.reply ≡ answer (after_each next s b) x.call
  turn_right s all t b x (rest, e) = turn_at s b x rest (subst (InTurn s) e t)

-- what one exchange more leaves
pub after_more : {S X : Type 0} (next : S → X → S) (s : S) (xs : List X) (i : ℕ) (x : X) → i < length xs → after_each next s (take (i + 1) (set xs i x)) ≡ next (after_each next s (take i xs)) x
after_more next s xs i x l = ap (after_each next s) (take_more_set xs i x l) ∙ after_append next s (take i xs) (x ∷ [])
