-- What the bags answer about a scope of a number.
use Rattle.std.proofs.Common.{◌≡◌, ℕ, ◌%◌, ◌<◌, eqb, ◌≢◌, Ok, ap, ◌∙◌}
use Rattle.std.proofs.lemmas.Bool.{eq-eqb, ne_eqb, cond-true, cond-false}
use Rattle.graph.specs.History.{Place}
use Rattle.orderings.specs.declared.words.Kind.TheVariants.{Task}
use Rattle.orderings.specs.declared.words.Word.TheVariants.{Before, Unordered}
use Rattle.orderings.specs.Meaning.{word, asked}
use Rattle.orderings.specs.Forest.{root}
use Rattle.orderings.specs.Store.{Contents, Frames}
use Rattle.orderings.specs.Bags.{place_in, place_of}
use Rattle.orderings.specs.Placed.{scopes_begun}
use Rattle.orderings.proofs.Placed.{asked_task}

module _ (fr : Frames) (c : Contents) (n t : ℕ) where
  pub asked_main : t < n → fr.kind t ≡ Task → t ≡ 0 → asked (scopes_begun fr (place_of c) n) t ≡ Ok Before
  asked_main l e z = asked_task fr (place_of c) n t l e ∙ ap (λ (p : Place). Ok (word p)) (cond-true (eqb t 0) _ _ (eq-eqb t 0 z))

  off_main : t ≢ 0 → place_of c t ≡ place_in (c.bag (root c.forest t))
  off_main ne = cond-false (eqb t 0) _ _ (ne_eqb t 0 ne)

  pub asked_before : t < n → fr.kind t ≡ Task → t ≢ 0 → c.bag (root c.forest t) % 2 ≡ 0 → asked (scopes_begun fr (place_of c) n) t ≡ Ok Before
  asked_before l e ne even = asked_task fr (place_of c) n t l e ∙ ap (λ (p : Place). Ok (word p)) (off_main ne ∙ cond-true (eqb (c.bag (root c.forest t) % 2) 0) _ _ (eq-eqb _ 0 even))

  pub asked_unordered : t < n → fr.kind t ≡ Task → t ≢ 0 → c.bag (root c.forest t) % 2 ≢ 0 → asked (scopes_begun fr (place_of c) n) t ≡ Ok Unordered
  asked_unordered l e ne odd = asked_task fr (place_of c) n t l e ∙ ap (λ (p : Place). Ok (word p)) (off_main ne ∙ cond-false (eqb (c.bag (root c.forest t) % 2) 0) _ _ (ne_eqb _ 0 odd))
