-- A table with main's entry ahead of it.
use Rattle.std.specs.Prelude.{List, ◌∷◌}
use Rattle.orderings.specs.declared.table.Table.{Table}

-- the entries by number
abbrev pub entries : {E : Type 0} → Table E → List E
entries t = t.main ∷ t.lent.now
