use Rattle.std.proofs.Common.{List, sym, ap, ◌∙◌, arith}
use Rattle.orderings.specs.declared.bags.Bags.{Bags}
use Rattle.orderings.specs.declared.bags.entry.Entry.{Entry}
use Rattle.orderings.specs.Forest.{Shallow}
use Rattle.orderings.specs.Store.{forest, frames, contents}
use Rattle.orderings.specs.Table.{entries}
use Rattle.orderings.specs.Bags.{place_of}
use Rattle.orderings.proofs.Placed.{asked_none, asked_finish}
use Rattle.orderings.proofs.Asks.{asked_main, asked_before, asked_unordered}
use Rattle.orderings.proofs.Entries.{table_at}
use Rattle.orderings.proofs.Forests.{shallow, root_some, root_inside}
use Rattle.orderings.specs.Props.{reveal}
use Rattle.orderings.proofs.Numbers.{begun_few}
use Rattle.orderings.proofs.bags.Bags.word_of.Goals as goal

steps : (b : Bags) → Shallow (forest (entries b.store)) b.scopes.begun
steps b = shallow (forest (entries b.store)) b.scopes.begun (reveal b.sound).grown (begun_few b.scopes)

pub returns-then-task-begun : goal.returns-then-task-begun
returns-then-task-begun c =
    let b = c.args.self.now in
    let es : List Entry = entries b.store in
    record { answer = sym (asked_none (frames es) (place_of (contents es)) b.scopes.begun c.args.task (let begun = c.begun.ensures in omega arith)); steps = steps b }

pub returns-then-task-eq0 : goal.returns-then-task-eq0
returns-then-task-eq0 c =
    let b = c.args.self.now in
    let es : List Entry = entries b.store in
    let z = c.if-task-eq0.true in
    record { answer = sym (asked_main (frames es) (contents es) b.scopes.begun c.args.task (let begun = c.begun.ensures in omega arith) (ap (frames es).kind z ∙ (reveal b.sound).framed.main) z); steps = steps b }

pub overflow_sub-root : goal.overflow_sub-root
overflow_sub-root c =
    let b = c.args.self.now in
    let some = root_some (forest (entries b.store)) b.scopes.begun (reveal b.sound).grown (begun_few b.scopes) c.args.task (omega arith) (let begun = c.begun.ensures in omega arith) in
    let is = c.root-root.ensures in
    omega arith

pub bounds-self-root : goal.bounds-self-root
bounds-self-root c =
    let b = c.args.self.now in
    let some = root_some (forest (entries b.store)) b.scopes.begun (reveal b.sound).grown (begun_few b.scopes) c.args.task (omega arith) (let begun = c.begun.ensures in omega arith) in
    let inside = root_inside (forest (entries b.store)) b.scopes.begun (reveal b.sound).grown (begun_few b.scopes) c.args.task (let begun = c.begun.ensures in omega arith) in
    let is = c.root-root.ensures in
    omega arith

pub returns-in-Finish : goal.returns-in-Finish
returns-in-Finish c =
    let b = c.args.self.now in
    let es : List Entry = entries b.store in
    let read = ap (λ (e : Entry). e.kind) (table_at b.store.main b.store.lent.now c.args.task (omega arith)) in
    record { answer = sym (asked_finish (frames es) (place_of (contents es)) b.scopes.begun c.args.task (let begun = c.begun.ensures in omega arith) (sym read ∙ c.in-Finish.is)); steps = steps b }

pub returns-then-self-root-eq0 : goal.returns-then-self-root-eq0
returns-then-self-root-eq0 c =
    let b = c.args.self.now in
    let es : List Entry = entries b.store in
    let some = root_some (forest es) b.scopes.begun (reveal b.sound).grown (begun_few b.scopes) c.args.task (omega arith) (let begun = c.begun.ensures in omega arith) in
    let is = c.root-root.ensures in
    let read = ap (λ (e : Entry). e.kind) (table_at b.store.main b.store.lent.now c.args.task (omega arith)) in
    let bag = ap (λ (e : Entry). e.bag) (table_at b.store.main b.store.lent.now c.root-root.result (omega arith)) ∙ ap (contents es).bag is in
    record { answer = sym (asked_before (frames es) (contents es) b.scopes.begun c.args.task (let begun = c.begun.ensures in omega arith) (sym read ∙ c.in-Task.is) c.if-task-eq0.false (omega arith)); steps = steps b }

pub returns-else-self-root-eq0 : goal.returns-else-self-root-eq0
returns-else-self-root-eq0 c =
    let b = c.args.self.now in
    let es : List Entry = entries b.store in
    let some = root_some (forest es) b.scopes.begun (reveal b.sound).grown (begun_few b.scopes) c.args.task (omega arith) (let begun = c.begun.ensures in omega arith) in
    let is = c.root-root.ensures in
    let read = ap (λ (e : Entry). e.kind) (table_at b.store.main b.store.lent.now c.args.task (omega arith)) in
    let bag = ap (λ (e : Entry). e.bag) (table_at b.store.main b.store.lent.now c.root-root.result (omega arith)) ∙ ap (contents es).bag is in
    record { answer = sym (asked_unordered (frames es) (contents es) b.scopes.begun c.args.task (let begun = c.begun.ensures in omega arith) (sym read ∙ c.in-Task.is) c.if-task-eq0.false (omega arith)); steps = steps b }
