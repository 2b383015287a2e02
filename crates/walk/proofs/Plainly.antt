-- No step of a walk is answered with anything but a word, where it is a question.
use Rattle.std.proofs.Common.{ℕ, Bool, true, false, cond, List, [], ◌∷◌, Some, None, Option, sym, subst, refl}
use Rattle.std.proofs.lemmas.List.Elements.{All-nil, All-cons}
use Rattle.graph.specs.History.{History}
use Rattle.orderings.specs.declared.words.Kind.{Kind}
use Rattle.orderings.specs.declared.words.Kind.TheVariants.{Task, Finish}
use Rattle.orderings.specs.Past.{kind_of}
use Rattle.orderings.specs.Questions.{ok_as, word_of_past}
use Rattle.trace_check.specs.declared.words.Reply.TheVariants.{Told}
use Rattle.trace_check.specs.Calls.{by_ordering}
use Rattle.conversation.specs.declared.words.Ending.{Ending}
use Rattle.conversation.specs.Exchanges.{Answer}
use Rattle.conversation.specs.Replies.{Setting, reply_to, after}
use Rattle.shorthand.specs.declared.words.Action.{Action}
use Rattle.shorthand.specs.declared.words.Action.TheVariants.{OpenTask, OpenFinish, Close, Access, Ask}
use Rattle.walk.specs.declared.steps.Step.{Step}
use Rattle.walk.specs.Calls.{call_of}
use Rattle.walk.specs.Lines.{Plainly, AllPlainly}
use Rattle.walk.specs.Walk.{exchange, step, steps, Walked}

one_of : (b : Bool) (x y : Answer) → Plainly x → Plainly y → Plainly (cond b x y)
one_of true x y p q = p
one_of false x y p q = q

word_plainly : (h : History) (t : ℕ) (k : Option Kind) → Plainly (ok_as Told (by_ordering (word_of_past h t k)))
word_plainly h t None = refl
word_plainly h t (Some Task) = refl
word_plainly h t (Some Finish) = refl

reply_plainly : (s : Setting) (h : History) (a : Action) → Plainly (reply_to s h (call_of a))
reply_plainly s h OpenTask = search one_of
reply_plainly s h OpenFinish = search one_of
reply_plainly s h Close = search one_of
reply_plainly s h (Access c r) = search one_of
reply_plainly s h (Ask t) = word_plainly h t (kind_of h t)

steps_plainly : (s : Setting) (h : History) (actions : List Action) → AllPlainly (steps s h actions)
steps_plainly s h [] = All-nil (λ (x : Step). Plainly x.reply)
steps_plainly s h (a ∷ rest) = All-cons (λ (x : Step). Plainly x.reply) (step s h a) _ (reply_plainly s h a) (steps_plainly s (after (exchange (step s h a)) h) rest)

pub walked_plainly : {s : Setting} {actions : List Action} {all : List Step} {last : Ending} → Walked s actions all last → AllPlainly all
walked_plainly {s} {actions} w = subst AllPlainly (sym w.each) (steps_plainly s [] actions)
