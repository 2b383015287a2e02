-- The whole conversation, from its start to its end.
use Rattle.std.proofs.Common.{◌≡◌, ℕ, Bool, true, false, cond, ◌&&◌, eqb, List, [], length, replicate, Ok, Err, sym, refl, ap, ◌∙◌, subst, arith, eqb-true}
use mathlib.Core.Path.{subst⁻¹}
use Rattle.std.proofs.lemmas.List.{get_or-replicate, length-replicate}
use Rattle.graph.specs.History.{History, Scope, scopes}
use Rattle.orderings.specs.Meaning.{Meaning, WellFormed}
use Rattle.orderings.specs.Exchanges.{calls_of}
use Rattle.orderings.specs.Past.{Means}
use Rattle.orderings.proofs.Means.{means_new}
use Rattle.rows.specs.declared.row.Row.{Row}
use Rattle.rows.specs.Rows.{zero_row, no_row}
use Rattle.trace_check.specs.declared.words.Call.{Call}
use Rattle.trace_check.specs.declared.words.Counts.{Counts}
use Rattle.conversation.specs.declared.words.Ending.{Ending}
use Rattle.conversation.specs.declared.words.Ending.TheVariants.{Verdict, GivenUp}
use Rattle.conversation.specs.Exchanges.{Exchange}
use Rattle.trace_check.specs.declared.words.Refusal.TheVariants.{BadStart, AlreadyBegun}
use Rattle.conversation.specs.Replies.{Setting, events, accesses, clashes_found}
use Rattle.conversation.specs.Theorem.{RepliesRight}
use Rattle.trace_check.specs.Calls.{View, is_between, start_answer, new_check, counted}
use Rattle.trace_check.specs.Puts.{Store}
use Rattle.conversation.specs.State.{State}
use Rattle.conversation.specs.Conversation.{setting, counts, ending, end_answer, Conversation}
use Rattle.conversation.proofs.Follow.{facts_follow}

-- a start that was accepted
pub started : (rows limit n : ℕ) (k : View) → Ok k ≡ start_answer rows limit n → (k ≡ new_check limit) × (n ≡ 1)
started rows limit n k e = go (is_between 1 65536 rows && is_between 1 1000000 limit) (eqb n 1) refl e
  where
    go : (a t : Bool) → eqb n 1 ≡ t → Ok k ≡ cond a (cond t (Ok (new_check limit)) (Err AlreadyBegun)) (Err BadStart) → (k ≡ new_check limit) × (n ≡ 1)
    go true true q f = (cc, eqb-true n 1 q)
    go true false q f = let z : ◌≡◌ {A = ℕ} 0 1 = cc in absurd (omega arith)
    go false t q f = let z : ◌≡◌ {A = ℕ} 0 1 = cc in absurd (omega arith)

state_new : (s : Setting) (m : Meaning) → Means s.numbers [] m → State s [] (record { check = new_check s.limit; meaning = m; rows = replicate s.records zero_row })
state_new s m M = record {
  limit = refl;
  events = refl;
  accesses = refl;
  clashes = refl;
  meaning = M;
  records = length-replicate s.records zero_row;
  rows = λ r l. get_or-replicate s.records r zero_row no_row l;
  few = λ r l. omega arith;
}

-- what is kept in the end is what the history gives
counts_eq : (s : Setting) (h : History) (σ : Store) → State s h σ → counted σ.check (length σ.meaning.begun) ≡ counts s h
counts_eq s h σ K =
    ap (λ (n : ℕ). record { accesses = n; clashes = σ.check.clashes; scopes = length σ.meaning.begun }) K.accesses ∙
    ap (λ (n : ℕ). record { accesses = accesses h; clashes = n; scopes = length σ.meaning.begun }) K.clashes ∙
    ap (λ (n : ℕ). record { accesses = accesses h; clashes = clashes_found s h; scopes = n }) K.meaning.count

ends_eq : (s : Setting) (h : History) (σ : Store) → State s h σ → end_answer σ.check σ.meaning ≡ ending s h
ends_eq s h σ K =
    ap (λ (ss : List Scope). cond (eqb (length ss) 1) (Verdict (counted σ.check (length σ.meaning.begun))) (GivenUp (counted σ.check (length σ.meaning.begun)))) K.meaning.opened ∙
    ap (λ (x : Counts). cond (eqb (length (scopes h)) 1) (Verdict x) (GivenUp x)) (counts_eq s h σ K)

conversation : (s : Setting) (put : List Call) (all : List Exchange) (σ : Store) (last : Ending) → calls_of all ≡ put → RepliesRight s all → State s (events all) σ → last ≡ end_answer σ.check σ.meaning → Conversation s put all σ.meaning σ.rows last
conversation s put all σ last c right S e = record {
  calls = c;
  replies = right;
  facts = facts_follow s all right;
  meaning = S.meaning;
  records = S.records;
  rows = S.rows;
  ends = e ∙ ends_eq s (events all) σ S;
}

-- the check was started at k on the meaning m and the rows, and run from there
pub conversed : (limit : ℕ) (known : ℕ → Bool) (clash : ℕ → ℕ → Bool) (m : Meaning) (rows cleared : List Row) (k : View) (put : List Call) (all : List Exchange) (σ : Store) (last : Ending) →
    WellFormed m → Ok k ≡ start_answer (length rows) limit (length m.begun) → cleared ≡ replicate (length rows) zero_row → calls_of all ≡ put →
    (State (setting k.limit m cleared known clash) [] (record { check = k; meaning = m; rows = cleared }) → RepliesRight (setting k.limit m cleared known clash) all × State (setting k.limit m cleared known clash) (events all) σ) →
    last ≡ end_answer σ.check σ.meaning → (start_answer (length rows) limit (length m.begun) ≡ Ok (new_check limit)) × Conversation (setting limit m rows known clash) put all σ.meaning σ.rows last
conversed limit known clash m rows cleared k put all σ last w e f c run q =
    let a = started (length rows) limit (length m.begun) k e in
    let s : Setting = setting limit m rows known clash in
    let same-setting : setting k.limit m cleared known clash ≡ s = ap (λ (v : View). setting v.limit m cleared known clash) a.0 ∙ ap (λ (n : ℕ). record { limit = limit; numbers = m.left; records = n; known = known; clash = clash }) (ap length f ∙ length-replicate (length rows) zero_row) in
    let begin : State s [] (record { check = k; meaning = m; rows = cleared }) = subst⁻¹ (λ (v : View). State s [] (record { check = v; meaning = m; rows = cleared })) a.0 (subst⁻¹ (λ (l : List Row). State s [] (record { check = new_check limit; meaning = m; rows = l })) f (state_new s m (means_new m w a.1))) in
    let ran : RepliesRight s all × State s (events all) σ = subst (λ (t : Setting). State t [] (record { check = k; meaning = m; rows = cleared }) → RepliesRight t all × State t (events all) σ) same-setting run begin in
    (sym e ∙ ap Ok a.0, conversation s put all σ last c ran.0 ran.1 q)
