-- Right replies to the calls of a plan are the steps of a walk.
use Rattle.std.proofs.Common.{◌≡◌, List, [], ◌∷◌, ◌++◌, length, map, Vec, vec_items, vec_len, Global, sym, refl, ap, ◌∙◌, subst, append_assoc, arith}
use Rattle.std.specs.Vec.{with_items}
use Rattle.std.proofs.lemmas.List.{with_items_is}
use Rattle.rules.specs.declared.Rule.{Rule}
use Rattle.graph.specs.History.{History, scopes, innermost_task}
use Rattle.orderings.specs.declared.questions.Question.TheVariants.{InnermostTask}
use Rattle.orderings.specs.Exchanges.{calls_of}
use Rattle.orderings.proofs.Turns.{after_append}
use Rattle.trace_check.specs.declared.words.Call.{Call}
use Rattle.trace_check.specs.declared.words.Call.TheVariants.{Ask}
use Rattle.conversation.specs.declared.words.Ending.{Ending}
use Rattle.conversation.specs.Exchanges.{Exchange}
use Rattle.conversation.specs.Replies.{Setting, reply_to, after, after_all, events}
use Rattle.conversation.specs.Theorem.{RepliesRight}
use Rattle.conversation.specs.Conversation.{ending}
use Rattle.conversation.proofs.Turns.{InTurn}
use Rattle.shorthand.specs.declared.words.Action.{Action}
use Rattle.walk.specs.declared.steps.Step.{Step}
use Rattle.walk.specs.Calls.{call_of, calls_for, walk_setting, Checked}
use Rattle.walk.specs.Steps.{number_told, paired}
use Rattle.walk.specs.Walk.{exchange, step, steps, Walked}

-- replies that are right are right in turn
in_turn : (s : Setting) (before xs : List Exchange) → RepliesRight s (before ++ xs) → InTurn s (events before) xs
in_turn s before [] r = tt
in_turn s before (x ∷ xs) r =
    let on = in_turn s (before ++ x ∷ []) xs (subst (RepliesRight s) (sym (append_assoc before (x ∷ []) xs)) r) in
    (r before x (xs, refl), subst (λ (h : History). InTurn s h xs) (after_append (λ k y. after y k) [] before (x ∷ [])) on)

-- a question is no event
asked_only : (q : Exchange) (h : History) → q.call ≡ Ask InnermostTask → after q h ≡ h
asked_only q h e = grind arith

-- what is left behind a question and an action
left_by_two : (a : Action) (q x : Exchange) (h : History) → q.call ≡ Ask InnermostTask → x.call ≡ call_of a → after x (after q h) ≡ after (record { call = call_of a; reply = x.reply }) h
left_by_two a q x h e f = ap (after x) (asked_only q h e) ∙ ap (λ c. after (record { call = c; reply = x.reply }) h) f

-- the steps leave the history that the exchanges leave
left : (h : History) (actions : List Action) (xs : List Exchange) → calls_of xs ≡ calls_for actions → after_all xs h ≡ after_all (map exchange (paired actions xs)) h
left h [] [] e = refl
left h [] (x ∷ xs) e = cc
left h (a ∷ rest) [] e = cc
left h (a ∷ rest) (q ∷ []) e = cc
left h (a ∷ rest) (q ∷ x ∷ xs) e =
    let qc : q.call ≡ Ask InnermostTask = cc in
    let xc : x.call ≡ call_of a = cc in
    let on : calls_of xs ≡ calls_for rest = cc in
    ap (after_all xs) (left_by_two a q x h qc xc) ∙ left _ rest xs on

-- the steps are those that the definitions give
each : (s : Setting) (h : History) (actions : List Action) (xs : List Exchange) → InTurn s h xs → calls_of xs ≡ calls_for actions → paired actions xs ≡ steps s h actions
each s h [] xs t e = refl
each s h (a ∷ rest) [] t e = cc
each s h (a ∷ rest) (q ∷ []) t e = cc
each s h (a ∷ rest) (q ∷ x ∷ xs) t e =
    let qc : q.call ≡ Ask InnermostTask = cc in
    let xc : x.call ≡ call_of a = cc in
    let on : calls_of xs ≡ calls_for rest = cc in
    let task : number_told q.reply ≡ innermost_task (scopes h) = ap number_told (t.0 ∙ ap (reply_to s h) qc) in
    let reply : x.reply ≡ reply_to s h (call_of a) = t.1.0 ∙ ap (λ (k : History). reply_to s k x.call) (asked_only q h qc) ∙ ap (reply_to s h) xc in
    let later : after x (after q h) ≡ after (exchange (step s h a)) h = left_by_two a q x h qc xc ∙ ap (λ r. after (record { call = call_of a; reply = r }) h) reply in
    let more = each s (after (exchange (step s h a)) h) rest xs (subst (λ (k : History). InTurn s k xs) later t.1.1) on in
    λ j. record { task = task j; action = a; reply = reply j } ∷ more j

-- a plan that was checked was walked through
pub walked : (rule : Rule) (actions : List Action) (put : List Call) (xs : List Exchange) (all : List Step) (last : Ending) → Checked rule put xs last → put ≡ calls_for actions → all ≡ paired actions xs → Walked (walk_setting rule) actions all last
walked rule actions put xs all last c e f =
    let calls : calls_of xs ≡ calls_for actions = c.calls ∙ e in
    let gone : events xs ≡ events (map exchange all) = left [] actions xs calls ∙ ap (λ (ys : List Step). events (map exchange ys)) (sym f) in
    record { each = f ∙ each (walk_setting rule) [] actions xs (in_turn (walk_setting rule) [] xs c.replies) calls; ends = c.ends ∙ ap (ending (walk_setting rule)) gone }

-- the same, where a vector lends the exchanges
pub walked_in : (rule : Rule) (actions : List Action) (v : Vec Exchange Global) (put xs lent : List Exchange) (all : List Step) (last : Ending) → Checked rule (calls_of put) xs last → put ≡ vec_items v → length put ≡ vec_len v → length xs ≡ length put → lent ≡ vec_items (with_items v xs) → calls_of (vec_items v) ≡ calls_for actions → all ≡ paired actions lent → Walked (walk_setting rule) actions all last
walked_in rule actions v put xs lent all last c e l k f g h =
    let same : lent ≡ xs = f ∙ with_items_is v xs (k ∙ l) in
    walked rule actions (calls_of put) xs all last c (ap calls_of e ∙ g) (h ∙ ap (paired actions) same)
