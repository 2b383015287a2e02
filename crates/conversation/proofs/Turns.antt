-- The replies in turn.
use Rattle.std.proofs.Common.{◌≡◌, ℕ, ◌+◌, ◌<◌, cond, List, [], ◌∷◌, length, is_err, take, set, ap, ◌∙◌}
use mathlib.Core.Path.{subst⁻¹}
use Rattle.graph.specs.History.{History}
use Rattle.orderings.specs.Meaning.{Meaning}
use Rattle.rows.specs.declared.row.Row.{Row}
use Rattle.trace_check.specs.declared.words.Call.{Call}
use Rattle.conversation.specs.Exchanges.{Answer, Exchange}
use Rattle.orderings.specs.Inquiries.{noted}
use Rattle.conversation.specs.Replies.{Setting, reply_to, event_of, after, after_all, events}
use Rattle.trace_check.specs.Calls.{View}
use Rattle.trace_check.specs.Puts.{Store, reply_of, left_by}
use Rattle.conversation.specs.State.{State}
use Rattle.orderings.proofs.Turns.{InTurn as InTurnOf, one_turn as one_turn_of, after_more}
use Rattle.conversation.proofs.Runs.{Good, good_after}
use Rattle.conversation.proofs.Step.{step}

abbrev pub InTurn : Setting → History → List Exchange → Type 0
InTurn s = InTurnOf (reply_to s) (λ h x. after x h)

pub turn_good : (s : Setting) (h : History) (xs : List Exchange) → Good s h → InTurn s h xs → Good s (after_all xs h)
turn_good s h [] g t = g
turn_good s h (x ∷ xs) g t = turn_good s (after x h) xs (good_after s h g x t.0) t.1

-- one exchange more
pub one_turn : (s : Setting) (xs : List Exchange) (i : ℕ) (call : Call) (reply : Answer) (σ τ : Store) → i < length xs → reply ≡ reply_of s.known s.clash σ call → τ ≡ left_by s.known s.clash σ call →
    InTurn s [] (take i xs) × State s (events (take i xs)) σ →
    InTurn s [] (take (i + 1) (set xs i (record { call = call; reply = reply }))) × State s (events (take (i + 1) (set xs i (record { call = call; reply = reply })))) τ
one_turn s xs i call reply σ τ l p q (t, S) =
    let h = events (take i xs) in
    let x : Exchange = record { call = call; reply = reply } in
    let st = step s h σ S (turn_good s [] (take i xs) (tt, tt) t) call in
    let e : reply ≡ reply_to s h call = p ∙ st.0 in
    let now-state : State s (after x h) τ = subst⁻¹ (State s (after x h)) q (subst⁻¹ (λ (r : Answer). State s (cond (is_err r) h (noted (event_of call) h)) (left_by s.known s.clash σ call)) e st.1) in
    (one_turn_of (reply_to s) (λ k y. after y k) [] xs i x l e t, subst⁻¹ (λ (k : History). State s k τ) (after_more (λ k y. after y k) [] xs i x l) now-state)

pub store_eq : (σ τ : Store) → τ.check ≡ σ.check → τ.meaning ≡ σ.meaning → τ.rows ≡ σ.rows → τ ≡ σ
store_eq σ τ a b c =
    ap (λ (k : View). record { check = k; meaning = τ.meaning; rows = τ.rows }) a ∙
    ap (λ (m : Meaning). record { check = σ.check; meaning = m; rows = τ.rows }) b ∙
    ap (λ (l : List Row). record { check = σ.check; meaning = σ.meaning; rows = l }) c
