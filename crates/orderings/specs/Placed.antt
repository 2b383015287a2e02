-- What scopes in their frames and tasks at their places mean.
use Rattle.std.specs.Prelude.{ℕ, ◌+◌, ◌-◌, min, List, map}
use Rattle.std.specs.List.{range_with_len}
use Rattle.graph.specs.History.{Place}
use Rattle.orderings.specs.Meaning.{Meaning, Begun, scope_as}
use Rattle.orderings.specs.Store.{Frames, chain}
use Rattle.orderings.specs.Bags.{begun_at}

-- the scopes begun, by number
abbrev pub scopes_begun : Frames → (ℕ → Place) → ℕ → List Begun
scopes_begun fr place n = map (λ x. begun_at (fr.kind x) (place x)) (range_with_len 0 n)

-- the scopes that lie outward of the innermost one are open, and a table of cap entries leaves its numbers
abbrev pub placed : Frames → (ℕ → Place) → (cap begun inner : ℕ) → Meaning
placed fr place cap begun inner = record {
  opened = map (λ s. scope_as (fr.kind s) s) (chain fr.outward begun inner);
  begun = scopes_begun fr place begun;
  left = min cap 65535 + 1 - begun;
}
