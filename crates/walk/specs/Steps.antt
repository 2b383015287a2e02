-- The steps that a list of exchanges holds.
use Rattle.std.specs.Prelude.{ℕ, List, [], ◌∷◌, Ok, Err}
use Rattle.orderings.specs.declared.questions.Told.TheVariants.{Word, Number, Kind}
use Rattle.trace_check.specs.declared.words.Reply.TheVariants.{Opened, Closed, Found, Told as tells}
use Rattle.conversation.specs.Exchanges.{Answer, Exchange}
use Rattle.shorthand.specs.declared.words.Action.{Action}
use Rattle.walk.specs.declared.steps.Step.{Step}

-- the number that a reply tells, 0 if it tells none
abbrev pub number_told : Answer → ℕ
number_told (Ok (Opened n)) = 0
number_told (Ok (Closed n)) = 0
number_told (Ok (Found f)) = 0
number_told (Ok (tells (Word w))) = 0
number_told (Ok (tells (Number n))) = n
number_told (Ok (tells (Kind k))) = 0
number_told (Err e) = 0

-- exchanges taken two by two: the question which task is innermost, and the action
abbrev pub paired : List Action → List Exchange → List Step
paired [] xs = []
paired (a ∷ rest) [] = []
paired (a ∷ rest) (q ∷ []) = []
paired (a ∷ rest) (q ∷ x ∷ xs) = record { task = number_told q.reply; action = a; reply = x.reply } ∷ paired rest xs
