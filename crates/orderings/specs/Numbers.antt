-- The number of each refusal of an ordering, and what it says in words.
use Rattle.std.specs.Prelude.{ℕ, List, codes}
use Rattle.refusals.specs.declared.Code.{Code}
use Rattle.refusals.specs.declared.Layer.TheVariants.{Ordering}
use Rattle.orderings.specs.declared.words.Fault.{Fault}
use Rattle.orderings.specs.declared.words.Fault.TheVariants.{NoSuchTask, NoNumberLeft, MainAlone}

abbrev pub fault_code : Fault → Code
fault_code NoSuchTask = record { number = 12; layer = Ordering }
fault_code NoNumberLeft = record { number = 21; layer = Ordering }
fault_code MainAlone = record { number = 22; layer = Ordering }

abbrev pub fault_text : Fault → List ℕ
fault_text NoSuchTask = codes "no task has that number"
fault_text NoNumberLeft = codes "no scope number is left"
fault_text MainAlone = codes "main alone is open"
