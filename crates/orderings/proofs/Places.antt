-- The places that the numbers of bags say.
use Rattle.std.proofs.Common.{◌≡◌, ℕ, ◌+◌, ◌*◌, ◌/◌, ◌%◌, eqb, ap, ◌∙◌, ⊎_elim, arith}
use Rattle.std.proofs.lemmas.Bool.{eq-eqb, ne_eqb, cases_Bool, cond-true, cond-false}
use Rattle.graph.specs.History.{before, unordered, spot}
use Rattle.orderings.specs.Bags.{place_in}

pub place_serial : (t : ℕ) → place_in (2 * t) ≡ before t
place_serial t = cond-true (eqb (2 * t % 2) 0) _ _ (eq-eqb (2 * t % 2) 0 (omega arith)) ∙ ap before (omega arith)

pub place_parallel : (t : ℕ) → place_in (2 * t + 1) ≡ unordered t
place_parallel t = cond-false (eqb ((2 * t + 1) % 2) 0) _ _ (ne_eqb ((2 * t + 1) % 2) 0 (omega arith)) ∙ ap unordered (omega arith)

pub spot_in : (k : ℕ) → spot (place_in k) ≡ k / 2
spot_in k = ⊎_elim (λ e. ap spot (cond-true (eqb (k % 2) 0) _ _ e)) (λ e. ap spot (cond-false (eqb (k % 2) 0) _ _ e)) (cases_Bool (eqb (k % 2) 0))
