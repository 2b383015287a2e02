-- What each refusal of a row says.
use Rattle.std.specs.Prelude.{ℕ, List, codes}
use Rattle.rows.specs.declared.words.RowFault.{RowFault}
use Rattle.rows.specs.declared.words.RowFault.TheVariants.{Full, Damaged}

abbrev pub fault_text : RowFault → List ℕ
fault_text Full = codes "the record holds eight other classes"
fault_text Damaged = codes "the record's row is damaged"
