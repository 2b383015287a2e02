-- The number and the name of each layer.
use Rattle.std.specs.Prelude.{ℕ, List, codes}
use Rattle.refusals.specs.declared.Layer.{Layer}
use Rattle.refusals.specs.declared.Layer.TheVariants.{Line, Frame, Check, Ordering}

abbrev pub layer_number : Layer → ℕ
layer_number Line = 1
layer_number Frame = 2
layer_number Check = 3
layer_number Ordering = 4

-- as it is printed
abbrev pub layer_text : Layer → List ℕ
layer_text Line = codes "the line"
layer_text Frame = codes "the frame"
layer_text Check = codes "the check"
layer_text Ordering = codes "the ordering"
