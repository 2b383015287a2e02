-- A list of requests, one after the other: the meaning follows the events accepted, and its words are those of the graph.
use Rattle.std.proofs.Common.{is_err, Result, ◌≡◌, ℕ, ◌+◌, ◌<◌, Bool, true, false, cond, eqb, leb, ◌↔◌, List, [], ◌∷◌, length, take, set, Some, None, Ok, Err, Option, sym, refl, ap, ◌∙◌, subst, inl, arith, leb-false}
use mathlib.Core.Path.{subst⁻¹}
use borrow.Author.Tests.{eqb-false}
use Rattle.graph.specs.History.{close, History, Scope, task, innermost, Accepted, Place, before, unordered, place, innermost_task, Before, Unordered as UnorderedIn}
use Rattle.graph.specs.Graph.{Of, Closes}
use Rattle.graph.specs.Theorems.{WordsRight}
use Rattle.graph.proofs.OpenScopes.{On, Tail, same, more, put_past}
use Rattle.graph.proofs.WordsArePaths.{words_are_paths}
use Rattle.orderings.specs.declared.inquiries.Request.{Request}
use Rattle.orderings.specs.declared.inquiries.Request.TheVariants.{Open, Close, Ask}
use Rattle.orderings.specs.declared.inquiries.Response.{Response}
use Rattle.orderings.specs.declared.inquiries.Response.TheVariants.{Opened, Closed, Told as ToldSo}
use Rattle.orderings.specs.declared.questions.Question.TheVariants.{WordOf}
use Rattle.orderings.specs.declared.words.Fault.TheVariants.{NoNumberLeft, MainAlone}
use Rattle.orderings.specs.declared.words.Fault.{Fault}
use Rattle.orderings.specs.declared.words.Kind.{Kind}
use Rattle.orderings.specs.declared.words.Kind.TheVariants.{Task, Finish}
use Rattle.orderings.specs.declared.questions.Told.TheVariants.{Word as OfWord}
use Rattle.orderings.specs.Meaning.{Meaning, WellFormed, with_scope, without_innermost, word}
use Rattle.orderings.specs.Past.{kind_of, Means}
use Rattle.orderings.specs.Questions.{ok_as, telling, word_of_past}
use Rattle.orderings.specs.Inquiries.{Inquiry, response_to, after_request, after_inquiry, after_requests, opens, event_of, noted, events_after, events, ClosedWithoutPath, unordered_said, Inquired}
use Rattle.orderings.proofs.Means.{means_open, means_close, means_new, kind_stays, kind_open}
use Rattle.orderings.specs.Exchanges.{Comes}
use Rattle.orderings.proofs.Telling.{telling_as}
use Rattle.orderings.proofs.Turns.{InTurn as InTurnOf, one_turn as one_turn_of, turn_part, turn_right, after_more}

-- the responses are those of the meanings in turn
abbrev pub InTurn : Meaning → List Inquiry → Type 0
InTurn = InTurnOf response_to after_inquiry

-- one inquiry more
pub one_turn : (m current next : Meaning) (xs : List Inquiry) (i : ℕ) (x : Inquiry) → i < length xs → x.reply ≡ response_to current x.call → next ≡ after_request current x.call →
    InTurn m (take i xs) × (current ≡ after_requests m (take i xs)) →
    InTurn m (take (i + 1) (set xs i x)) × (next ≡ after_requests m (take (i + 1) (set xs i x)))
one_turn m current next xs i x l p q (t, e) = (
  one_turn_of response_to after_inquiry m xs i x l (p ∙ ap (λ (v : Meaning). response_to v x.call) e) t,
  q ∙ ap (λ (v : Meaning). after_request v x.call) e ∙ sym (after_more after_inquiry m xs i x l),
)

-- the meaning is that of the history, and every close was accepted
abbrev Follows : ℕ → History → Meaning → Type 0
Follows n h m = Means n h m × Accepted h

accepted_open : (k : Kind) (h : History) → Accepted h → Accepted (opens k ∷ h)
accepted_open Task h a = a
accepted_open Finish h a = a

module _ (n : ℕ) (h : History) (m : Meaning) (F : Follows n h m) where
  -- after a request that is answered as the meaning says
  abbrev Next : Request → Result Response Fault → Meaning → Type 0
  Next q r next = Follows n (cond (is_err r) h (noted (event_of q) h)) next

  step : (q : Request) → Next q (response_to m q) (after_request m q)
  step (Open k) = go (eqb m.left 0) refl
    where
      go : (b : Bool) → eqb m.left 0 ≡ b → Next (Open k) (ok_as Opened (cond b (Err NoNumberLeft) (Ok (length m.begun)))) (cond b m (with_scope k m))
      go true e = F
      go false e = (means_open n h m F.0 k (eqb-false m.left 0 e), accepted_open k h F.1)
  step Close = go (leb (length m.opened) 1) refl
    where
      go : (b : Bool) → leb (length m.opened) 1 ≡ b → Next Close (ok_as Closed (cond b (Err MainAlone) (Ok (innermost m.opened)))) (cond b m (without_innermost m))
      go true e = F
      go false e = (means_close n h m F.0, (F.1, let l = leb-false (length m.opened) 1 e in let q = ap length F.0.opened in omega arith))
  step (Ask q) = go (is_err (ok_as ToldSo (telling m q)))
    where
      go : (b : Bool) → Follows n (cond b h h) m
      go true = F
      go false = F

follows_all : (n : ℕ) (xs : List Inquiry) (h : History) (m : Meaning) → Follows n h m → InTurn m xs → Follows n (events_after xs h) (after_requests m xs)
follows_all n [] h m F t = F
follows_all n (x ∷ xs) h m F (p, t) = follows_all n xs _ _ (subst⁻¹ (λ (r : Result Response Fault). Next n h m F x.call r (after_request m x.call)) p (step n h m F x.call)) t

-- a task that was closed is one
kind_later : {h q : History} → Tail h q → (t : ℕ) → kind_of q t ≡ Some Task → kind_of h t ≡ Some Task
kind_later same t k = k
kind_later (more {d = d} {h = h} s) t k = kind_stays d h t (kind_later s t k)

kind_closed : {h : History} {i t : ℕ} → Closes h i (task t) → kind_of h t ≡ Some Task
kind_closed {t = t} x = kind_later (put_past x.put) t (kind_open x.past t (subst⁻¹ (λ (ss : List Scope). On ss (task t)) x.top (inl refl)))

-- the close of a task belongs to it
close_of : {h : History} {i t : ℕ} → Closes h i (task t) → Of h i t
close_of x = record { event = close; past = x.past; put = x.put; by = ap innermost_task x.top }

-- a task is unordered exactly when it is closed and its close has no path, whatever access is put next
unordered_exact : (h : History) → Accepted h → (t : ℕ) → UnorderedIn h t ↔ ClosedWithoutPath h t
unordered_exact h a t = (to, λ x. (words.closed 0 0 t).1 (x.0, x.1, x.2 0 0))
  where
    words : WordsRight h
    words = words_are_paths h a

    apart : Before h t → UnorderedIn h t → ⊥
    apart (s, e) (u, f) = let z : ◌≡◌ {A = ℕ} 0 1 = cc in omega arith

    to : UnorderedIn h t → ClosedWithoutPath h t
    to u = let x = (words.closed 0 0 t).0 u in (x.0, x.1, λ c r p. apart ((words.event c r x.0 t (close_of x.1)).0 p) u)

-- the word told of a task is that of the graph
word_exact : (h : History) → Accepted h → (t : ℕ) → (ok_as ToldSo (word_of_past h t (kind_of h t)) ≡ unordered_said) ↔ ClosedWithoutPath h t
word_exact h a t = (λ e. (unordered_exact h a t).0 (to (kind_of h t) e), λ x. subst⁻¹ (λ (k : Option Kind). ok_as ToldSo (word_of_past h t k) ≡ unordered_said) (kind_closed x.1) (from ((unordered_exact h a t).1 x)))
  where
    placed : (p : Place) → place h t ≡ p → ok_as ToldSo (Ok (OfWord (word p))) ≡ unordered_said → UnorderedIn h t
    placed (before s) e q = let z : ◌≡◌ {A = ℕ} 0 1 = cc in absurd (omega arith)
    placed (unordered s) e q = (s, e)

    to : (k : Option Kind) → ok_as ToldSo (word_of_past h t k) ≡ unordered_said → UnorderedIn h t
    to None q = let z : ◌≡◌ {A = ℕ} 0 1 = cc in absurd (omega arith)
    to (Some Finish) q = let z : ◌≡◌ {A = ℕ} 0 1 = cc in absurd (omega arith)
    to (Some Task) q = placed (place h t) refl q

    from : UnorderedIn h t → ok_as ToldSo (Ok (OfWord (word (place h t)))) ≡ unordered_said
    from (s, e) = ap (λ (p : Place). ok_as ToldSo (Ok (OfWord (word p)))) e

-- the whole list
pub inquired : (m m' : Meaning) (all : List Inquiry) → WellFormed m → InTurn m all → m' ≡ after_requests m all → Inquired m all m'
inquired m m' all w t e = record { responses = right; meaning = e; words = λ one b x c u q. words one b x c u q }
  where
    right : (b : List Inquiry) (x : Inquiry) → Comes all b x → x.reply ≡ response_to (after_requests m b) x.call
    right = turn_right response_to after_inquiry m all t

    words : length m.begun ≡ 1 → (b : List Inquiry) (x : Inquiry) → Comes all b x → (u : ℕ) → x.call ≡ Ask (WordOf u) → (x.reply ≡ unordered_said) ↔ ClosedWithoutPath (events b) u
    words one b x c u q =
        let F = follows_all m.left b [] m (means_new m w one, tt) (turn_part response_to after_inquiry m b (x ∷ c.0) (subst (InTurn m) c.1 t)) in
        let said : x.reply ≡ ok_as ToldSo (word_of_past (events b) u (kind_of (events b) u)) = right b x c ∙ ap (response_to (after_requests m b)) q ∙ ap (ok_as ToldSo) (telling_as m.left (events b) (after_requests m b) F.0 (WordOf u)) in
        subst⁻¹ (λ (r : Result Response Fault). (r ≡ unordered_said) ↔ ClosedWithoutPath (events b) u) said (word_exact (events b) F.1 u)
