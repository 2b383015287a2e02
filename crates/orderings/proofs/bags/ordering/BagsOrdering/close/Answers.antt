use Rattle.std.proofs.Common.{◌≡◌, ℕ, min, List, length, Ok, sym, ap, ◌∙◌, subst, arith}
use Rattle.orderings.specs.declared.bags.Bags.{Bags}
use Rattle.orderings.specs.declared.bags.entry.Entry.{Entry}
use Rattle.orderings.specs.declared.scopes.Scopes.{Scopes}
use Rattle.orderings.specs.Meaning.{closing, after_close}
use Rattle.orderings.specs.Store.{entry_at, Frames, frames, Contents, contents, poured_by}
use Rattle.orderings.specs.Table.{entries}
use Rattle.orderings.specs.Sound.{Sound, Closable}
use Rattle.orderings.specs.Scopes.{ClosedTo}
use Rattle.orderings.specs.Bags.{meaning_of, meaning}
use Rattle.orderings.specs.Props.{reveal}
use Rattle.orderings.proofs.Closes.{outer_low}
use Rattle.orderings.proofs.Closing.{sound_after, answer_after, meaning_after}
use Rattle.orderings.proofs.Numbers.{at_numbers, begun_few, begun_room}
use Rattle.orderings.proofs.bags.ordering.BagsOrdering.close.Goals as goal

-- the innermost open scope, of the number s, closes
module _ (b : Bags) (now : Scopes) (s : ℕ) (number-is : s ≡ b.scopes.inner) (above : Entry) (above-is : above ≡ entry_at (entries b.store) s) (out : ClosedTo above.outward b.scopes now) where
  abbrev fr : Frames
  fr = frames (entries b.store)

  abbrev held : Contents
  held = contents (entries b.store)

  abbrev cap : ℕ
  cap = length b.store.lent.now

  abbrev closable : Closable fr held cap s
  closable = record {
    begun = b.scopes.begun;
    count = b.scopes.count;
    sound = subst (λ (i : ℕ). Sound fr held b.scopes.begun i b.scopes.count) (sym number-is) (reveal b.sound);
    inside = (let inside = b.scopes.innermost in omega arith);
    more = out.more;
    few = begun_few b.scopes;
    room = begun_room b.scopes cap b.numbers;
  }

  inner-is : now.inner ≡ fr.outward s
  inner-is =
      let read : above.outward ≡ fr.outward s = ap (λ (e : Entry). e.outward) above-is in
      let low = outer_low fr held cap s closable in
      let inner = out.inner in
      omega arith

  module _ (us : List Entry) (bags : contents us ≡ poured_by (fr.kind s) fr held s) (stay : frames us ≡ fr) where
    sound_close : Sound (frames us) (contents us) now.begun now.inner now.count
    sound_close = subst (λ (f : Frames). Sound f (contents us) now.begun now.inner now.count) (sym stay) (at_numbers (Sound fr (contents us)) _ _ _ _ _ _ (sound_after fr held cap s closable (contents us) bags) out.begun inner-is out.count)

    meaning_close : (size : ℕ) → size ≡ cap → meaning_of (frames us) (contents us) size now.begun now.inner ≡ after_close (meaning b)
    meaning_close size e =
        (λ j. meaning_of (stay j) (contents us) (e j) (out.begun j) (inner-is j))
        ∙ meaning_after fr held cap s closable (contents us) bags cap
        ∙ ap (λ (i : ℕ). after_close (meaning_of fr held cap b.scopes.begun i)) number-is

    answer_close : Ok s ≡ closing (meaning b)
    answer_close = sym (answer_after fr held cap s closable (contents us) bags cap) ∙ ap (λ (i : ℕ). closing (meaning_of fr held cap b.scopes.begun i)) number-is

pub pour_out-requires : goal.pour_out-requires
pour_out-requires c = closable c.args.self.now c.in_ok-scopes.scopes _ c.innermost-number.ensures _ c.at-outward.ensures c.in_ok-scopes.ensures

pub invariant_of-self : goal.invariant_of-self
invariant_of-self c =
    let b = c.args.self.now in
    let out = c.in_ok-scopes.ensures in
    let pours = c.pour_out.ensures in
    record {
      numbers = out.numbers ∙ b.numbers ∙ ap (λ (l : ℕ). min l 65535) (sym pours.size);
      sound = ∣ sound_close b c.in_ok-scopes.scopes _ c.innermost-number.ensures _ c.at-outward.ensures out (entries c.pour_out.new.self) pours.bags pours.scopes ∣₁;
    }

pub returns-clause-answer : goal.returns-clause-answer
returns-clause-answer c = λ _.
    let pours = c.pour_out.ensures in
    answer_close c.args.self.now c.in_ok-scopes.scopes _ c.innermost-number.ensures _ c.at-outward.ensures c.in_ok-scopes.ensures (entries c.pour_out.new.self) pours.bags pours.scopes

pub returns-clause-after : goal.returns-clause-after
returns-clause-after c = λ _.
    let pours = c.pour_out.ensures in
    meaning_close c.args.self.now c.in_ok-scopes.scopes _ c.innermost-number.ensures _ c.at-outward.ensures c.in_ok-scopes.ensures (entries c.pour_out.new.self) pours.bags pours.scopes _ pours.size
