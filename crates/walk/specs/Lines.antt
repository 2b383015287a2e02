-- What a step of a walk can be answered.
use Rattle.std.specs.Prelude.{Bool, true, false, IsTrue, All, List, Ok, Err}
use Rattle.orderings.specs.declared.questions.Told.TheVariants.{Word, Number, Kind}
use Rattle.trace_check.specs.declared.words.Reply.TheVariants.{Opened, Closed, Found, Told as tells}
use Rattle.conversation.specs.Exchanges.{Answer}
use Rattle.walk.specs.declared.steps.Step.{Step}

abbrev pub is_plain : Answer → Bool
is_plain (Ok (Opened n)) = true
is_plain (Ok (Closed n)) = true
is_plain (Ok (Found f)) = true
is_plain (Ok (tells (Word w))) = true
is_plain (Ok (tells (Number n))) = false
is_plain (Ok (tells (Kind k))) = false
is_plain (Err e) = true

-- an answer to a question is a word
abbrev pub Plainly : Answer → Type 0
Plainly reply = IsTrue (is_plain reply)

abbrev pub AllPlainly : List Step → Type 0
AllPlainly xs = All (λ (x : Step). Plainly x.reply) xs
