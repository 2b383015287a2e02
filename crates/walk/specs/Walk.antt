-- What a walk tells.
use Rattle.std.specs.Prelude.{◌≡◌, ℕ, Bool, not, ◌&&◌, List, [], ◌∷◌, map, is_some, is_err, None}
use Rattle.rules.specs.declared.Rule.{Rule}
use Rattle.graph.specs.History.{History, scopes, innermost_task}
use Rattle.conversation.specs.declared.words.Ending.{Ending}
use Rattle.conversation.specs.Exchanges.{Exchange}
use Rattle.conversation.specs.Replies.{Setting, reply_to, event_of, after, events}
use Rattle.conversation.specs.Conversation.{ending}
use Rattle.shorthand.specs.declared.words.Action.{Action}
use Rattle.shorthand.specs.Reading.{heading, reading}
use Rattle.walk.specs.declared.steps.Step.{Step}
use Rattle.walk.specs.Calls.{call_of}

-- the text says this rule and these actions
abbrev pub Says : List ℕ → Rule → List Action → Type 0
Says text rule actions = ((heading 0 text).0 ≡ rule) × (reading text ≡ record { actions = actions; fault = None })

-- the call that the action is, and the reply
abbrev pub exchange : Step → Exchange
exchange x = record { call = call_of x.action; reply = x.reply }

-- a step is an event if its action is an open, a close or an access, and was accepted
abbrev pub is_event : Step → Bool
is_event x = not (is_err x.reply) && is_some (event_of (call_of x.action))

-- an action put after a history: the task that it belongs to, and the reply
abbrev pub step : Setting → History → Action → Step
step s h a = record { task = innermost_task (scopes h); action = a; reply = reply_to s h (call_of a) }

-- the steps of actions put one after the other
abbrev pub steps : Setting → History → List Action → List Step
steps s h [] = []
steps s h (a ∷ rest) = step s h a ∷ steps s (after (exchange (step s h a)) h) rest

-- What a walk through actions is: their steps from the start on, and the end that their events give.
pub record Walked (s : Setting) (actions : List Action) (all : List Step) (last : Ending) : Type 0 where
  pub each : all ≡ steps s [] actions
  pub ends : last ≡ ending s (events (map exchange all))
