-- What a call to a check is answered, and the two together.
use Rattle.std.specs.Prelude.{Ok, Result}
use Rattle.orderings.specs.declared.exchange.Exchange.{Exchange as ExchangeOf}
use Rattle.trace_check.specs.declared.words.Call.{Call}
use Rattle.trace_check.specs.declared.words.Refusal.{Refusal}
use Rattle.trace_check.specs.declared.words.Reply.{Reply}
use Rattle.trace_check.specs.declared.words.Reply.TheVariants.{Told}
use Rattle.orderings.specs.declared.questions.Told.TheVariants.{Number}

abbrev pub Answer : Type 0
Answer = Result Reply Refusal

abbrev pub Exchange : Type 0
Exchange = ExchangeOf Call Answer

-- a call that is still to be put; what stands in the place of the answer counts for nothing
abbrev pub unanswered : Call → Exchange
unanswered c = record { call = c; reply = Ok (Told (Number 0)) }
