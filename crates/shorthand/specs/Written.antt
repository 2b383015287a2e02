-- How a plan is written, and that it is read back.
use Rattle.std.specs.Prelude.{◌≡◌, ℕ, ◌+◌, ◌/◌, ◌%◌, ◌^◌, ◌<◌, ◌≤◌, cond, List, [], ◌∷◌, ◌++◌, length, Ok, codes, decimal, Result, ◌==◌, nat_lt}
use Rattle.rules.specs.declared.Rule.{Rule}
use Rattle.rules.specs.Names.{rule_name}
use Rattle.shorthand.specs.declared.words.Action.{Action}
use Rattle.shorthand.specs.declared.words.Action.TheVariants.{OpenTask, OpenFinish, Close, Access, Ask}
use Rattle.shorthand.specs.declared.words.Fault.{Fault}
use Rattle.shorthand.specs.declared.words.Plan.{Plan}
use Rattle.shorthand.specs.Reading.{put_over}

-- the hexadecimal digit of a value below 16
abbrev pub digit : ℕ → ℕ
digit v = cond (nat_lt v 10) (48 + v) (55 + v)

-- how the class of an access is written, ahead of the number of the record
abbrev pub class_text : ℕ → List ℕ
class_text c =
    cond (c == 0) (codes "r")
    (cond (c == 1) (codes "w")
    (cond (c == 2) (codes "a")
    (digit (c / 16) ∷ digit (c % 16) ∷ codes "@")))

abbrev pub action_text : Action → List ℕ
action_text OpenTask = codes "T"
action_text OpenFinish = codes "F"
action_text Close = codes ")"
action_text (Access c r) = class_text c ++ decimal r
action_text (Ask t) = codes "?" ++ decimal t

-- a blank behind each action
abbrev pub actions_text : List Action → List ℕ
actions_text [] = []
actions_text (a ∷ rest) = action_text a ++ 32 ∷ actions_text rest

-- the rule's name, a blank, and the actions
abbrev pub written : Rule → List Action → List ℕ
written rule actions = rule_name rule ++ 32 ∷ actions_text actions

-- a class fits two hexadecimal digits, and a number 32 bits
abbrev pub Fits : Action → Type 0
Fits OpenTask = Unit {0}
Fits OpenFinish = Unit {0}
Fits Close = Unit {0}
Fits (Access c r) = (c < 256) × (r < 2 ^ 32)
Fits (Ask t) = t < 2 ^ 32

abbrev pub AllFit : List Action → Type 0
AllFit [] = Unit {0}
AllFit (a ∷ rest) = Fits a × AllFit rest

-- The text was written from a plan whose numbers fit, and there is a place for each of its characters.
pub record FromPlan (text : List ℕ) (places : List Action) (rule : Rule) (actions : List Action) : Type 0 where
  pub fit : AllFit actions
  pub is : text ≡ written rule actions
  pub room : length text ≤ length places

-- A plan that was written is read back.
pub record ReadBack (text : List ℕ) (places places' : List Action) (r : Result Plan Fault) : Type 0 where
  pub plan : (rule : Rule) (actions : List Action) → FromPlan text places rule actions → r ≡ Ok (record { rule = rule; count = length actions })
  pub put : (rule : Rule) (actions : List Action) → FromPlan text places rule actions → places' ≡ put_over actions places
