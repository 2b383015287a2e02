use Rattle.std.proofs.Common.{◌≡◌, ◌-◌, ◌<◌, ◌≤◌}
use Rattle.orderings.specs.Forest.{climb, root}
use Rattle.orderings.specs.Store.{forest}
use Rattle.orderings.specs.Table.{entries}
use Rattle.orderings.proofs.bags.Bags.root.Given as goal

-- the rank has risen with each turn, and what is left of the way leads to the root
abbrev pub invariant-loop : goal.invariant-loop
invariant-loop l =
    (0 < l.at)
    × (l.at < l.self.scopes.begun)
    × (l.counter ≤ (forest (entries l.self.store)).rank l.at)
    × (climb (forest (entries l.self.store)).parent (16 - l.counter) l.at ≡ root (forest (entries l.self.store)) l.x)
