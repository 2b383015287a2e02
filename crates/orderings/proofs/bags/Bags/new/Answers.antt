use Rattle.std.proofs.Common.{ℕ, min, List, ◌∷◌, length, sym, refl, ap, ◌∙◌, subst}
use Rattle.orderings.specs.declared.bags.entry.Entry.{Entry}
use Rattle.orderings.specs.Store.{empty, frames, contents}
use Rattle.orderings.specs.Sound.{Sound}
use Rattle.orderings.specs.Bags.{place_of, meaning_of}
use Rattle.orderings.proofs.Making.{sound_main}
use Rattle.orderings.proofs.Numbers.{at_numbers}
use Rattle.orderings.proofs.Placed.{placed_main}
use Rattle.orderings.proofs.Tables.{new_size}
use Rattle.orderings.proofs.bags.Bags.new.Goals as goal

pub invariant_of-result : goal.invariant_of-result
invariant_of-result c =
    let scopes = c.new-scopes.ensures in
    let n = c.new-scopes.result in
    record {
      numbers = scopes.numbers ∙ ap (λ (l : ℕ). min l 65535) (sym (new_size c.new.result _ _ c.new.ensures));
      sound = ∣ subst (λ (es : List Entry). Sound (frames es) (contents es) n.begun n.inner n.count) (sym c.new.ensures) (at_numbers (Sound (frames (empty ∷ c.args.table.now)) (contents (empty ∷ c.args.table.now))) _ _ _ _ _ _ (sound_main c.args.table.now) scopes.begun scopes.inner scopes.count) ∣₁;
    }

pub returns : goal.returns
returns c =
    let scopes = c.new-scopes.ensures in
    let made = c.new.ensures in
    let es : List Entry = empty ∷ c.args.table.now in
    let size = new_size c.new.result _ _ made in
    (λ j. meaning_of (frames (made j)) (contents (made j)) (size j) (scopes.begun j) (scopes.inner j)) ∙ placed_main (frames es) (place_of (contents es)) (length c.args.table.now) refl refl
