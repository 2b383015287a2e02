-- Taking the exchanges two by two.
use Rattle.std.proofs.Common.{◌≡◌, suc, List, [], ◌∷◌, length, get_or, ◌/◌, map, Ok, refl, arith}
use Rattle.std.specs.List.{zip}
use Rattle.std.specs.Simd.{first_chunks}
use Rattle.trace_check.specs.declared.words.Reply.TheVariants.{Closed}
use Rattle.conversation.specs.Exchanges.{Exchange}
use Rattle.shorthand.specs.declared.words.Action.{Action}
use Rattle.walk.specs.declared.steps.Step.{Step}
use Rattle.walk.specs.Steps.{paired}

-- the step of an action and two exchanges
abbrev pub step_of : Action × List Exchange → Step
step_of p = get_or (paired (p.0 ∷ []) p.1) 0 (record { task = 0; action = p.0; reply = Ok (Closed 0) })

two_more : (xs : List Exchange) (q x : Exchange) → first_chunks 2 (length (q ∷ x ∷ xs) / 2) (q ∷ x ∷ xs) ≡ (q ∷ x ∷ []) ∷ first_chunks 2 (length xs / 2) xs
two_more xs q x = let e : length (q ∷ x ∷ xs) / 2 ≡ suc (length xs / 2) = omega arith in rw e

pub paired_zip : (actions : List Action) (xs : List Exchange) → map step_of (zip actions (first_chunks 2 (length xs / 2) xs)) ≡ paired actions xs
paired_zip [] xs = refl
paired_zip (a ∷ rest) [] = refl
paired_zip (a ∷ rest) (q ∷ []) = refl
paired_zip (a ∷ rest) (q ∷ x ∷ xs) = rw (two_more xs q x) (rw (paired_zip rest xs))
