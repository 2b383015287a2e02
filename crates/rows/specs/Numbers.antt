-- The number of each refusal of a row.
use Rattle.refusals.specs.declared.Code.{Code}
use Rattle.refusals.specs.declared.Layer.TheVariants.{Check}
use Rattle.rows.specs.declared.words.RowFault.{RowFault}
use Rattle.rows.specs.declared.words.RowFault.TheVariants.{Full, Damaged}

abbrev pub fault_code : RowFault → Code
fault_code Full = record { number = 24; layer = Check }
fault_code Damaged = record { number = 25; layer = Check }
