use Rattle.std.proofs.Common.{Some, sym, ap, ◌∙◌, arith}
use Rattle.std.proofs.lemmas.List.{get_or_default}
use Rattle.orderings.specs.declared.bags.entry.Entry.{Entry}
use Rattle.orderings.specs.Store.{frames, contents, empty}
use Rattle.orderings.specs.Table.{entries}
use Rattle.orderings.specs.Bags.{place_of}
use Rattle.orderings.proofs.Numbers.{begun_room}
use Rattle.orderings.proofs.Placed.{kind_some, kind_none}
use Rattle.orderings.proofs.bags.ordering.BagsOrdering.kind_of.Goals as goal

pub returns-then-number-begun : goal.returns-then-number-begun
returns-then-number-begun c =
    let b = c.args.self.now in
    let begun = c.begun.ensures in
    let l = c.if-number-begun.true in
    λ _. ap (λ (e : Entry). Some e.kind) (c.entry.ensures ∙ get_or_default (entries b.store) c.args.number b.store.main empty (let room = begun_room b.scopes _ b.numbers in omega arith))
    ∙ sym (kind_some (frames (entries b.store)) (place_of (contents (entries b.store))) b.scopes.begun c.args.number (omega arith))

pub returns-else-number-begun : goal.returns-else-number-begun
returns-else-number-begun c =
    let b = c.args.self.now in
    let begun = c.begun.ensures in
    let l = c.if-number-begun.false in
    λ _. sym (kind_none (frames (entries b.store)) (place_of (contents (entries b.store))) b.scopes.begun c.args.number (omega arith))
