-- What the tree answers: its query, and the open scopes.
use Rattle.std.proofs.Common.{◌≡◌, ℕ, ◌<◌, true, false, ◌↔◌, List, [], ◌∷◌, sym, refl, ap, ◌∙◌, inl, inr, ⊎_elim}
use Rattle.std.proofs.lemmas.Bool.{cases_eq, cond-true, cond-false}
use Rattle.graph.specs.History.{before}
use Rattle.orderings.specs.declared.words.Kind.{Kind}
use Rattle.orderings.specs.declared.words.Kind.TheVariants.{Task, Finish}
use Rattle.orderings.specs.declared.words.Word.TheVariants.{Before}
use Rattle.orderings.specs.Meaning.{word}
use Rattle.orderings.specs.Store.{Frames, chain}
use Rattle.orderings.specs.Sound.{Framed}
use Rattle.tree.specs.Ancestors.{Above, ChildTowards, on, side}
use Rattle.tree.specs.ProgramTree.{place_by, place_of, Has, word_under, Says}
use Rattle.orderings.specs.Formation.{scopes_of, number_as}
use Rattle.tree.specs.Chains.{on_here, on_there, above_on}
use Rattle.tree.proofs.Ancestors.{true_false, on_above}
use Rattle.tree.proofs.Sides.{found, child_found, one_child}

-- the scopes of a list are those on it
has_on : (fr : Frames) (ss : List ℕ) (s : ℕ) → Has (scopes_of fr ss) s → on ss s ≡ true
has_on fr [] s h = absurd h
has_on fr (x ∷ ss) s (inl e) = on_here s x ss (sym e ∙ number_as (fr.kind x) x)
has_on fr (x ∷ ss) s (inr h) = ⊎_elim (on_here s x ss) (λ ne. on_there s x ss ne ∙ has_on fr ss s h) (cases_eq s x)

on_has : (fr : Frames) (ss : List ℕ) (s : ℕ) → on ss s ≡ true → Has (scopes_of fr ss) s
on_has fr [] s o = absurd (true_false _ o refl)
on_has fr (x ∷ ss) s o = ⊎_elim (λ e. inl (number_as (fr.kind x) x ∙ sym e)) (λ ne. inr (on_has fr ss s (sym (on_there s x ss ne) ∙ o))) (cases_eq s x)

module _ (fr : Frames) (n y : ℕ) (w : Framed fr n) (inside : y < n) where
  pub open_above : (s : ℕ) → Has (scopes_of fr (chain fr.outward n y)) s ↔ Above fr.outward s y
  open_above s = (λ h. on_above fr.outward n w.inward n s y inside inside (has_on fr (chain fr.outward n y) s h), λ a. on_has fr (chain fr.outward n y) s (above_on fr.outward n w.inward s y inside a))

  module _ (x : ℕ) (l : x < n) where
    pub word_open : on (chain fr.outward n y) x ≡ true → word (place_of fr n y x) ≡ Before
    word_open o = ap word (cond-true (on (chain fr.outward n y) x) (before x) _ o)

    pub says_open : on (chain fr.outward n y) x ≡ true → Says fr y x Before
    says_open o =
        let above = on_above fr.outward n w.inward n x y inside inside o in
        record { while_open = λ _. refl; once_closed = λ shut. absurd (shut above); has_child = λ shut. absurd (shut above) }

    pub word_shut : on (chain fr.outward n y) x ≡ false → word (place_of fr n y x) ≡ word_under (fr.kind (side fr.outward n y x))
    word_shut c = ap word (cond-false (on (chain fr.outward n y) x) (before x) _ c) ∙ under (fr.kind (side fr.outward n y x))
      where
        under : (k : Kind) → word (place_by k (fr.outward (side fr.outward n y x)) (fr.within (fr.outward (side fr.outward n y x)))) ≡ word_under k
        under Task = refl
        under Finish = refl

    pub says_shut : on (chain fr.outward n y) x ≡ false → Says fr y x (word_under (fr.kind (side fr.outward n y x)))
    says_shut c =
        let b = side fr.outward n y x in
        let child : ChildTowards fr.outward x y b = child_found fr.outward n w.inward y inside x b (found fr.outward n w.inward y inside n x l l c) in
        record {
          while_open = λ above. absurd (true_false _ (above_on fr.outward n w.inward x y inside above) c);
          once_closed = λ _ d other. ap (λ (k : ℕ). word_under (fr.kind k)) (one_child fr.outward n w.inward y inside x b d l child other);
          has_child = λ _. (b, child);
        }
