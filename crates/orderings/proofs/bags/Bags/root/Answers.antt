use Rattle.std.proofs.Common.{◌≡◌, ℕ, suc, ◌+◌, ◌-◌, ◌≢◌, sym, ap, ◌∙◌, arith}
use Rattle.orderings.specs.declared.bags.entry.Entry.{Entry}
use Rattle.orderings.specs.Forest.{Forest, climb}
use Rattle.orderings.specs.Store.{forest}
use Rattle.orderings.specs.Table.{entries}
use Rattle.orderings.proofs.Entries.{table_at}
use Rattle.orderings.proofs.Climbs.{climb_top, climb_up}
use Rattle.orderings.proofs.Forests.{rank_low}
use Rattle.orderings.specs.Props.{reveal}
use Rattle.orderings.proofs.Numbers.{begun_few}
use Rattle.orderings.proofs.bags.Bags.root.Goals as goal

pub returns-then-parent-at : goal.returns-then-parent-at
returns-then-parent-at c =
    let b = c.args.self.now in
    let at = c.loop.at in
    let f : Forest = forest (entries b.store) in
    let read = ap (λ (e : Entry). e.parent) (table_at b.store.main b.store.lent.now at c.loop.invariant.0) in
    sym (climb_top f.parent (16 - c.loop.counter) at (sym read ∙ c.if-parent-at.true)) ∙ c.loop.invariant.3

pub loop-preserved : goal.loop-preserved
loop-preserved c =
    let b = c.args.self.now in
    let at = c.loop.at in
    let f : Forest = forest (entries b.store) in
    let read = ap (λ (e : Entry). e.parent) (table_at b.store.main b.store.lent.now at c.loop.invariant.0) in
    let grown = (reveal b.sound).grown in
    let other : f.parent at ≢ at = λ e. c.if-parent-at.false (read ∙ e) in
    let rise = grown.rises at c.loop.invariant.1 other in
    let inside = grown.inside at c.loop.invariant.1 in
    let some = grown.some at c.loop.invariant.0 c.loop.invariant.1 in
    let same = ap f.rank read in
    let turn : 16 - c.loop.counter ≡ suc (16 - (c.loop.counter + 1)) = omega arith in (
      omega arith,
      omega arith,
      omega arith,
      ap (climb f.parent (16 - (c.loop.counter + 1))) read ∙ sym (climb_up f.parent (16 - (c.loop.counter + 1)) at other) ∙ sym (ap (λ (j : ℕ). climb f.parent j at) turn) ∙ c.loop.invariant.3,
    )

pub unreachable-requires : goal.unreachable-requires
unreachable-requires c =
    let b = c.args.self.now in
    let low = rank_low (forest (entries b.store)) b.scopes.begun (reveal b.sound).grown (begun_few b.scopes) c.loop.at c.loop.invariant.0 c.loop.invariant.1 in
    omega arith
