use Rattle.std.proofs.Common.{◌≡◌, ℕ, ◌<◌, List, [], length, take, refl, ◌∙◌, subst, arith}
use Rattle.std.proofs.lemmas.List.{take_all}
use Rattle.conversation.specs.Exchanges.{Exchange}
use Rattle.conversation.specs.Replies.{Setting, reply_to, after, events}
use Rattle.conversation.specs.Theorem.{RepliesRight}
use Rattle.trace_check.specs.Puts.{Store, store}
use Rattle.conversation.specs.State.{State}
use Rattle.conversation.specs.Conversation.{setting}
use Rattle.orderings.proofs.Turns.{same_calls, turn_right}
use Rattle.conversation.proofs.Turns.{InTurn, one_turn, store_eq}
use Rattle.conversation.proofs.run.Goals as goal

pub loop-exchange-init : goal.loop-exchange-init
loop-exchange-init g c = (λ sound. sound, refl, λ sound S. (tt, S))

pub loop-exchange-preserved : goal.loop-exchange-preserved
loop-exchange-preserved g c =
    let s : Setting = setting c.args.check.now.limit (g.O.Ordering.meaning c.args.ordering.now) c.args.rows.now (g.R.ClashRule.known c.args.rule.now) (g.R.ClashRule.clash c.args.rule.now) in
    let σ : Store = store c.loop-exchange.check (g.O.Ordering.meaning c.loop-exchange.ordering) c.loop-exchange.rows in
    let τ : Store = store c.put-exchange.new.self (g.O.Ordering.meaning c.put-exchange.new.ordering) c.put-exchange.new.rows in
    let l : c.loop-exchange.exchange-index < length c.loop-exchange.exchanges = omega arith in
    let p = c.put-exchange.ensures in (
      λ sound. p.kept (c.loop-exchange.invariant.0 sound),
      same_calls c.loop-exchange.exchanges c.loop-exchange.exchange-index _ c.put-exchange.result ∙ c.loop-exchange.invariant.1,
      λ sound S.
          (let now-sound = c.loop-exchange.invariant.0 sound in
          one_turn s c.loop-exchange.exchanges c.loop-exchange.exchange-index _ c.put-exchange.result σ τ l (p.reply now-sound) (store_eq _ τ (p.check now-sound) (p.meaning now-sound) (p.rows now-sound)) (c.loop-exchange.invariant.2 sound S)),
    )

finished : (s : Setting) (xs : List Exchange) (i : ℕ) (τ : Store) → take i xs ≡ xs → InTurn s [] (take i xs) × State s (events (take i xs)) τ → RepliesRight s xs × State s (events xs) τ
finished s xs i τ e v = let w = subst (λ (ys : List Exchange). InTurn s [] ys × State s (events ys) τ) e v in (turn_right (reply_to s) (λ h x. after x h) [] xs w.0, w.1)

pub returns : goal.returns
returns g c = record {
  kept = c.loop-exchange.invariant.0;
  calls = c.loop-exchange.invariant.1;
  ran = λ sound S. finished (setting c.args.check.now.limit (g.O.Ordering.meaning c.args.ordering.now) c.args.rows.now (g.R.ClashRule.known c.args.rule.now) (g.R.ClashRule.clash c.args.rule.now)) c.loop-exchange.exchanges c.loop-exchange.exchange-index (store c.loop-exchange.check (g.O.Ordering.meaning c.loop-exchange.ordering) c.loop-exchange.rows) (take_all c.loop-exchange.exchange-index c.loop-exchange.exchanges (omega arith)) (c.loop-exchange.invariant.2 sound S);
}
