use Rattle.std.proofs.Common.{◌≡◌, ℕ, ◌<◌, ◌≤◌, min, List, length, set, Ok, sym, ap, ◌∙◌, arith}
use Rattle.orderings.specs.declared.words.Kind.{Kind}
use Rattle.orderings.specs.declared.scopes.Scopes.{Scopes}
use Rattle.orderings.specs.declared.bags.Bags.{Bags}
use Rattle.orderings.specs.declared.bags.entry.Entry.{Entry}
use Rattle.orderings.specs.Meaning.{after_open}
use Rattle.orderings.specs.Store.{entry_at, frames, contents}
use Rattle.orderings.specs.Table.{entries}
use Rattle.orderings.specs.Scopes.{Opened, task_within}
use Rattle.orderings.specs.Sound.{Sound}
use Rattle.orderings.specs.Bags.{place_of, meaning_of, meaning}
use Rattle.orderings.specs.Props.{reveal}
use Rattle.orderings.proofs.Fresh.{fresh, sound_opened, meaning_opened}
use Rattle.orderings.proofs.Numbers.{at_numbers, begun_few}
use Rattle.orderings.proofs.Placed.{opening_placed}
use Rattle.orderings.proofs.Tables.{kept_size}
use Rattle.orderings.proofs.bags.ordering.BagsOrdering.open.Goals as goal

-- the entry of the new scope, in the words of the scopes before
module _ (b : Bags) (k : Kind) (now : Scopes) (o : Opened b.scopes now) (number outward within : ℕ) (number-is : number ≡ now.inner) (outward-is : outward ≡ b.scopes.inner)
    (within-is : within ≡ task_within k number (entry_at (entries b.store) outward).within) where
  abbrev n : ℕ
  n = b.scopes.begun

  abbrev es : List Entry
  es = entries b.store

  next : number ≡ n
  next = number-is ∙ o.inner

  way : within ≡ task_within k n ((frames es).within b.scopes.inner)
  way = within-is ∙ (λ j. task_within k (next j) ((frames es).within (outward-is j)))

  free : n ≤ min (length b.store.lent.now) 65535
  free = let numbers = b.numbers in let free = o.free in omega arith

  room : n < length es
  room = let l = free in omega arith

  module _ (us : List Entry) (written : us ≡ set es number (fresh k number outward within)) where
    put : us ≡ set es n (fresh k n b.scopes.inner within)
    put = written ∙ (λ j. set es (next j) (fresh k (next j) (outward-is j) within))

    sound_open : Sound (frames us) (contents us) now.begun now.inner now.count
    sound_open = at_numbers (Sound (frames us) (contents us)) _ _ _ _ _ _ (sound_opened es n b.scopes.inner within k room b.scopes.count (reveal b.sound) (begun_few b.scopes) b.scopes.innermost way us put) o.begun o.inner o.count

    meaning_open : (size : ℕ) → size ≡ length b.store.lent.now → meaning_of (frames us) (contents us) size now.begun now.inner ≡ after_open k (meaning b)
    meaning_open size e =
        (λ j. meaning_of (frames us) (contents us) size (o.begun j) (o.inner j))
        ∙ meaning_opened es n b.scopes.inner within k room b.scopes.count (reveal b.sound) (begun_few b.scopes) b.scopes.innermost way us put size (length b.store.lent.now) e
        ∙ sym (opening_placed (frames es) (place_of (contents es)) (length b.store.lent.now) n b.scopes.inner k free).1

pub set_at-requires : goal.set_at-requires
set_at-requires c =
    let b = c.args.self.now in
    let o = c.in_ok-scopes.ensures in
    let number = c.innermost-number.ensures ∙ o.inner in
    let numbers = b.numbers in
    let free = o.free in
    let some = b.scopes.some in
    let fewer = b.scopes.fewer in
    (omega arith, omega arith)

pub invariant_of-self : goal.invariant_of-self
invariant_of-self c =
    let b = c.args.self.now in
    let o = c.in_ok-scopes.ensures in
    record {
      numbers = o.numbers ∙ b.numbers ∙ ap (λ (l : ℕ). min l 65535) (sym (kept_size b.store c.set_at.new.self _ _ c.set_at.ensures));
      sound = ∣ sound_open b c.args.kind c.in_ok-scopes.scopes o _ _ _ c.innermost-number.ensures c.innermost-outward.ensures c.innermost_task-within.ensures _ c.set_at.ensures ∣₁;
    }

pub returns-clause-answer : goal.returns-clause-answer
returns-clause-answer c = λ _.
    let b = c.args.self.now in
    let o = c.in_ok-scopes.ensures in
    let es : List Entry = entries b.store in
    sym ((opening_placed (frames es) (place_of (contents es)) (length b.store.lent.now) b.scopes.begun b.scopes.inner c.args.kind (omega arith)).0 ∙ ap (λ (j : ℕ). Ok j) (sym (c.innermost-number.ensures ∙ o.inner)))

pub returns-clause-after : goal.returns-clause-after
returns-clause-after c = λ _.
    let b = c.args.self.now in
    let o = c.in_ok-scopes.ensures in
    meaning_open b c.args.kind c.in_ok-scopes.scopes o _ _ _ c.innermost-number.ensures c.innermost-outward.ensures c.innermost_task-within.ensures _ c.set_at.ensures _ (kept_size b.store c.set_at.new.self _ _ c.set_at.ensures)
