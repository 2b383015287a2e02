-- What bags mean.
use Rattle.std.specs.Prelude.{ℕ, ◌+◌, ◌-◌, ◌/◌, ◌%◌, min, cond, map, length, ◌==◌}
use Rattle.std.specs.List.{range_with_len}
use Rattle.graph.specs.History.{Place, before, unordered}
use Rattle.orderings.specs.declared.words.Kind.{Kind}
use Rattle.orderings.specs.declared.words.Kind.TheVariants.{Task, Finish}
use Rattle.orderings.specs.declared.bags.Bags.{Bags}
use Rattle.orderings.specs.Meaning.{Meaning, Begun, task_at, a_finish, scope_as}
use Rattle.orderings.specs.Forest.{root}
use Rattle.orderings.specs.Store.{Frames, frames, Contents, contents, chain}
use Rattle.orderings.specs.Table.{entries}

-- the place that the number of a bag says: an S bag is before, a P bag unordered
abbrev pub place_in : ℕ → Place
place_in k = cond (k % 2 == 0) (before (k / 2)) (unordered (k / 2))

-- main is in no bag
abbrev pub place_of : Contents → ℕ → Place
place_of c x = cond (x == 0) (before 0) (place_in (c.bag (root c.forest x)))

abbrev pub begun_at : Kind → Place → Begun
begun_at Task p = task_at p
begun_at Finish p = a_finish

abbrev pub meaning_of : Frames → Contents → (cap begun inner : ℕ) → Meaning
meaning_of fr c cap begun inner = record {
  opened = map (λ s. scope_as (fr.kind s) s) (chain fr.outward begun inner);
  begun = map (λ x. begun_at (fr.kind x) (place_of c x)) (range_with_len 0 begun);
  left = min cap 65535 + 1 - begun;
}

abbrev pub meaning : Bags → Meaning
meaning b = meaning_of (frames (entries b.store)) (contents (entries b.store)) (length b.store.lent.now) b.scopes.begun b.scopes.inner
