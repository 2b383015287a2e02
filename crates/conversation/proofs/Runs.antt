-- Conversations: the events of a part, the exchange that an event comes from, and what the replies let into the history.
use Rattle.std.proofs.Common.{◌≡◌, ℕ, ◌<◌, Bool, true, false, cond, T, ltb, ◌⊎◌, List, [], ◌∷◌, ◌++◌, length, is_err, Ok, Err, Some, None, Option, sym, refl, ap, ◌∙◌, inl, inr, ⊎_elim, arith, ltb→lt}
use mathlib.Core.Path.{subst⁻¹}
use Rattle.graph.specs.History.{Event, open_task, open_finish, close, access, History, Accepted, scopes, innermost}
use Rattle.graph.specs.Graph.{Put, Path, newest, older}
use Rattle.graph.proofs.OpenScopes.{Tail, same, more}
use Rattle.graph.proofs.LeadersDecide.{put_cases}
use Rattle.graph.proofs.Arrows.{path_older, path_cases}
use Rattle.trace_check.specs.declared.words.Call.{Call}
use Rattle.trace_check.specs.declared.words.Call.TheVariants.{Open, Close, Access, Ask}
use Rattle.trace_check.specs.declared.words.Refusal.{Refusal}
use Rattle.trace_check.specs.declared.words.Reply.TheVariants.{Closed, Found}
use Rattle.conversation.specs.Exchanges.{Answer, Exchange}
use Rattle.orderings.specs.declared.words.Kind.TheVariants.{Task, Finish}
use Rattle.orderings.specs.Inquiries.{noted}
use Rattle.conversation.specs.Replies.{Setting, reply_to, event_of, after, after_all, room_for, first_found}
use Rattle.conversation.specs.Leaders.{reached}

pub tail_trans : {a b c : History} → Tail a b → Tail b c → Tail a c
tail_trans same t = t
tail_trans (more s) t = more (tail_trans s t)

tail_noted : (b : Bool) (o : Option Event) (h : History) → Tail (cond b h (noted o h)) h
tail_noted true o h = same
tail_noted false None h = same
tail_noted false (Some e) h = more same

pub after_tail : (xs : List Exchange) (h : History) → Tail (after_all xs h) h
after_tail [] h = same
after_tail (x ∷ xs) h = tail_trans (after_tail xs (after x h)) (tail_noted (is_err x.reply) (event_of x.call) h)

pub put_later : {h q : History} → Tail h q → {i : ℕ} {e : Event} {p : History} → Put q i e p → Put h i e p
put_later same p = p
put_later (more t) p = older (put_later t p)

pub path_later : {h q : History} → Tail h q → {i j : ℕ} → Path q i j → Path h i j
path_later same p = p
path_later (more t) p = path_older (path_later t p)

tail_length : {h q : History} → Tail h q → length q < length h ⊎ (h ≡ q)
tail_length same = inr refl
tail_length (more t) = inl (⊎_elim (λ l. omega arith) (λ e. let k = ap length e in omega arith) (tail_length t))

-- a path to an event was there when the event was put
pub path_back : {h q : History} → Tail h q → {i j : ℕ} → j < length q → Path h i j → Path q i j
path_back same l p = p
path_back {q = q} (more {h = h} t) {j = j} l p = ⊎_elim (λ v. absurd (short v.0 (tail_length t))) (λ r. path_back t l r) (path_cases p)
  where
    short : j ≡ length h → (length q < length h) ⊎ (h ≡ q) → ⊥
    short e (inl m) = omega arith
    short e (inr m) = let k = ap length m in omega arith

-- the exchange that an event comes from
pub record Source (h : History) (xs : List Exchange) (e : Event) (p : History) : Type 0 where
  pub earlier : List Exchange
  pub which : Exchange
  pub rest : List Exchange
  pub split : xs ≡ earlier ++ which ∷ rest
  pub past : after_all earlier h ≡ p
  pub accepted : is_err which.reply ≡ false
  pub event : event_of which.call ≡ Some e

source_first : (x : Exchange) (xs : List Exchange) (h : History) {j : ℕ} {e : Event} {p : History} → (b : Bool) → is_err x.reply ≡ b → (o : Option Event) → event_of x.call ≡ o → Put (cond b h (noted o h)) j e p → Put h j e p ⊎ Source h (x ∷ xs) e p
source_first x xs h true f o g q = inl q
source_first x xs h false f None g q = inl q
source_first x xs h {e = e} {p = p} false f (Some d) g q = ⊎_elim (λ v. inr (record { earlier = []; which = x; rest = xs; split = refl; past = sym v.2; accepted = f; event = g ∙ ap Some (sym v.1) })) inl (put_cases q)

source_later : {x : Exchange} {xs : List Exchange} {h : History} {e : Event} {p : History} → Source (after x h) xs e p → Source h (x ∷ xs) e p
source_later {x = x} s = record { earlier = x ∷ s.earlier; which = s.which; rest = s.rest; split = ap (λ l. x ∷ l) s.split; past = s.past; accepted = s.accepted; event = s.event }

pub source : (xs : List Exchange) (h : History) {j : ℕ} {e : Event} {p : History} → Put (after_all xs h) j e p → Put h j e p ⊎ Source h xs e p
source [] h q = inl q
source (x ∷ xs) h q = ⊎_elim (λ r. source_first x xs h (is_err x.reply) refl (event_of x.call) refl r) (λ s. inr (source_later s)) (source xs (after x h) q)

-- every access has a class that the rule knows
abbrev pub Known : Setting → History → Type 0
Known s [] = Unit {0}
Known s (open_task ∷ h) = Known s h
Known s (open_finish ∷ h) = Known s h
Known s (close ∷ h) = Known s h
Known s (access c r ∷ h) = T (s.known c) × Known s h

abbrev pub Good : Setting → History → Type 0
Good s h = Accepted h × Known s h

pub known_past : (s : Setting) {h : History} {i c r : ℕ} {p : History} → Put h i (access c r) p → Known s h → T (s.known c)
known_past s newest k = k.0
known_past s (older {d = open_task} q) k = known_past s q k
known_past s (older {d = open_finish} q) k = known_past s q k
known_past s (older {d = close} q) k = known_past s q k
known_past s (older {d = access a b} q) k = known_past s q k.1

module _ (s : Setting) (h : History) (g : Good s h) where
  either : (b : Bool) (k : History) → Good s k → Good s (cond b h k)
  either true k z = g
  either false k z = z

  close_step : (a b : Bool) (n : ℕ) (x y : Refusal) → (T b → 1 < length (scopes h)) → Good s (cond (is_err (cond a (cond b (Ok (Closed n)) (Err x)) (Err y))) h (close ∷ h))
  close_step true true n x y f = ((g.0, f tt), g.1)
  close_step true false n x y f = g
  close_step false b n x y f = g

  access_step : (a b k m : Bool) (c r : ℕ) (f : Option (ℕ × ℕ)) (x y z w : Refusal) → (T k → T (s.known c)) → Good s (cond (is_err (cond a (cond b (cond k (cond m (Ok (Found f)) (Err x)) (Err y)) (Err z)) (Err w))) h (access c r ∷ h))
  access_step true true true true c r f x y z w t = (g.0, (t tt, g.1))
  access_step true true true false c r f x y z w t = g
  access_step true true false m c r f x y z w t = g
  access_step true false k m c r f x y z w t = g
  access_step false b k m c r f x y z w t = g

  -- what a right reply lets in
  step : (call : Call) → Good s (cond (is_err (reply_to s h call)) h (noted (event_of call) h))
  step (Open Task) = either (is_err (reply_to s h (Open Task))) (open_task ∷ h) g
  step (Open Finish) = either (is_err (reply_to s h (Open Finish))) (open_finish ∷ h) g
  step Close = close_step (ltb (length h) s.limit) (ltb 1 (length (scopes h))) (innermost (scopes h)) _ _ (λ t. ltb→lt 1 (length (scopes h)) t)
  step (Access c r) = access_step (ltb (length h) s.limit) (ltb r s.records) (s.known c) (room_for c (reached h r)) c r (first_found s h c r (reached h r)) _ _ _ _ (λ t. t)
  step (Ask q) = either (is_err (reply_to s h (Ask q))) h g

pub good_after : (s : Setting) (h : History) → Good s h → (x : Exchange) → x.reply ≡ reply_to s h x.call → Good s (after x h)
good_after s h g x e = subst⁻¹ (λ (r : Answer). Good s (cond (is_err r) h (noted (event_of x.call) h))) e (step s h g x.call)

abbrev pub RightFrom : Setting → History → List Exchange → Type 0
RightFrom s h xs = (b : List Exchange) (x : Exchange) (rest : List Exchange) → xs ≡ b ++ x ∷ rest → x.reply ≡ reply_to s (after_all b h) x.call

pub good_all : (s : Setting) (xs : List Exchange) (h : History) → Good s h → RightFrom s h xs → Good s (after_all xs h)
good_all s [] h g R = g
good_all s (x ∷ xs) h g R = good_all s xs (after x h) (good_after s h g x (R [] x xs refl)) (λ b y rest e. R (x ∷ b) y rest (ap (λ l. x ∷ l) e))
