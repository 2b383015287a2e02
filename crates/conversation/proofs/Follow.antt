-- What follows from right replies: the facts about clashes, reads and orders.
use Rattle.std.proofs.Common.{◌≡◌, ℕ, ◌<◌, Bool, true, false, cond, T, ltb, leb, ◌≢◌, ◌⊎◌, List, [], ◌∷◌, ◌++◌, length, is_err, Some, None, Option, Ok, Err, Result, sym, refl, ap, ◌∙◌, subst, inl, inr, ⊎_elim, append_assoc, arith}
use mathlib.Core.Path.{subst⁻¹}
use Rattle.rules.specs.Rules.{depot}
use Rattle.graph.specs.History.{access, History, begun, scopes}
use Rattle.graph.specs.Graph.{Put, Path, newest, older, IsAccess}
use Rattle.graph.specs.Orders.{Exchangeable}
use Rattle.graph.specs.Leaders.{AccessClashes}
use Rattle.graph.specs.Reads.{ClashFree, SameReads}
use Rattle.graph.proofs.OpenScopes.{Tail, put_lt, put_before, put_length, ordered}
use Rattle.graph.proofs.PathsRise.{path_up}
use Rattle.graph.proofs.Exchange.{path_dec, exchange_exact}
use Rattle.graph.proofs.ReadsAlike.{clash_free_reads_alike}
use Rattle.orderings.specs.declared.questions.Told.{Told}
use Rattle.orderings.specs.declared.words.Fault.{Fault}
use Rattle.orderings.specs.declared.words.Kind.{Kind}
use Rattle.orderings.specs.declared.words.Kind.TheVariants.{Task, Finish}
use Rattle.orderings.specs.Exchanges.{Comes}
use Rattle.orderings.specs.Questions.{ok_as, telling_past}
use Rattle.rows.specs.declared.words.RowFault.TheVariants.{Full, Damaged}
use Rattle.trace_check.specs.declared.words.Call.{Call}
use Rattle.trace_check.specs.declared.words.Call.TheVariants.{Open, Close, Access, Ask}
use Rattle.trace_check.specs.declared.words.Refusal.{Refusal}
use Rattle.trace_check.specs.declared.words.Refusal.TheVariants.{NoSuchRecord, UnknownClass, BadStart, LimitReached, ScopeOpen, AlreadyBegun, Row, Order}
use Rattle.trace_check.specs.declared.words.Reply.TheVariants.{Opened, Closed, Found, Told as ToldSo}
use Rattle.conversation.specs.Exchanges.{Answer, Exchange}
use Rattle.trace_check.specs.Calls.{by_ordering}
use Rattle.conversation.specs.Leaders.{reached}
use Rattle.conversation.specs.Replies.{Setting, reply_to, event_of, after, after_all, events, room_for, first_found}
use Rattle.conversation.specs.Theorem.{RepliesRight, Answered, Clashing, ClashExact, IsDepot, FactsFollow}
use Rattle.conversation.proofs.RowsLead.{row, row_leads}
use Rattle.conversation.proofs.FirstClash.{Exact, answer_exact}
use Rattle.conversation.proofs.RowsOfHistory.{found_as}
use Rattle.orderings.proofs.Turns.{after_append}
use Rattle.conversation.proofs.Runs.{after_tail, put_later, path_later, path_back, Source, source, Good, known_past, RightFrom, good_all}

-- what an accepted access was answered
found_is : (a b k m : Bool) (f g : Option (ℕ × ℕ)) (x y z w : Refusal) → Ok (Found f) ≡ cond a (cond b (cond k (cond m (Ok (Found g)) (Err x)) (Err y)) (Err z)) (Err w) → (f ≡ g) × T k
found_is true true true true f g x y z w e = (cc, tt)
found_is true true true false f g x y z w e = let q : ◌≡◌ {A = ℕ} 0 1 = cc in absurd (omega arith)
found_is true true false m f g x y z w e = let q : ◌≡◌ {A = ℕ} 0 1 = cc in absurd (omega arith)
found_is true false k m f g x y z w e = let q : ◌≡◌ {A = ℕ} 0 1 = cc in absurd (omega arith)
found_is false b k m f g x y z w e = let q : ◌≡◌ {A = ℕ} 0 1 = cc in absurd (omega arith)

accepted_is : (a b k m : Bool) (g : Option (ℕ × ℕ)) (x y z w : Refusal) → is_err (cond a (cond b (cond k (cond m (Ok (Found g)) (Err x)) (Err y)) (Err z)) (Err w)) ≡ false → cond a (cond b (cond k (cond m (Ok (Found g)) (Err x)) (Err y)) (Err z)) (Err w) ≡ Ok (Found g)
accepted_is true true true true g x y z w e = refl
accepted_is true true true false g x y z w e = let q : ◌≡◌ {A = ℕ} 0 1 = cc in absurd (omega arith)
accepted_is true true false m g x y z w e = let q : ◌≡◌ {A = ℕ} 0 1 = cc in absurd (omega arith)
accepted_is true false k m g x y z w e = let q : ◌≡◌ {A = ℕ} 0 1 = cc in absurd (omega arith)
accepted_is false b k m g x y z w e = let q : ◌≡◌ {A = ℕ} 0 1 = cc in absurd (omega arith)

-- the call of an access event
call_of : (call : Call) (c r : ℕ) → event_of call ≡ Some (access c r) → call ≡ Access c r
call_of (Open Task) c r e = let q : ◌≡◌ {A = ℕ} 0 1 = cc in absurd (omega arith)
call_of (Open Finish) c r e = let q : ◌≡◌ {A = ℕ} 0 1 = cc in absurd (omega arith)
call_of Close c r e = let q : ◌≡◌ {A = ℕ} 0 1 = cc in absurd (omega arith)
call_of (Access a b) c r e = cc
call_of (Ask a) c r e = let q : ◌≡◌ {A = ℕ} 0 1 = cc in absurd (omega arith)

restated : (x : Exchange) (call : Call) (reply : Answer) → x.call ≡ call → x.reply ≡ reply → x ≡ record { call = call; reply = reply }
restated x call reply e f = ap (λ (c : Call). record { call = c; reply = x.reply }) e ∙ ap (λ (r : Answer). record { call = call; reply = r }) f

-- whether a reply says that a row is damaged
abbrev says_damaged : Answer → Bool
says_damaged (Ok (Opened n)) = false
says_damaged (Ok (Closed n)) = false
says_damaged (Ok (Found f)) = false
says_damaged (Ok (ToldSo a)) = false
says_damaged (Err NoSuchRecord) = false
says_damaged (Err UnknownClass) = false
says_damaged (Err BadStart) = false
says_damaged (Err LimitReached) = false
says_damaged (Err ScopeOpen) = false
says_damaged (Err AlreadyBegun) = false
says_damaged (Err (Row Full)) = false
says_damaged (Err (Row Damaged)) = true
says_damaged (Err (Order f)) = false

whole_cond : (b : Bool) (x y : Answer) → says_damaged x ≡ false → says_damaged y ≡ false → says_damaged (cond b x y) ≡ false
whole_cond true x y p q = p
whole_cond false x y p q = q

depot_alike : (a b : ℕ) → T (depot a b) → T (depot b a)
depot_alike a b d = grind arith

module _ (s : Setting) (all : List Exchange) (right : RepliesRight s all) where
  right_all : RightFrom s [] all
  right_all b x rest e = right b x (rest, e)

  whole : Good s (events all)
  whole = good_all s all [] (tt, tt) right_all

  good_part : (b : List Exchange) (x : Exchange) → Comes all b x → Good s (events b)
  good_part b x (rest, e) = good_all s b [] (tt, tt) (λ d y more f. right d y (more ++ x ∷ rest, e ∙ ap (λ (l : List Exchange). l ++ x ∷ rest) f ∙ append_assoc d (y ∷ more) (x ∷ rest)))

  events_split : (b : List Exchange) (x : Exchange) (rest : List Exchange) → all ≡ b ++ x ∷ rest → events all ≡ after_all rest (after x (events b))
  events_split b x rest e = ap events e ∙ after_append (λ k y. after y k) [] b (x ∷ rest)

  module _ (j c r : ℕ) (f : Option (ℕ × ℕ)) (A : Answered all j c r f) where
    abbrev p : History
    p = events A.before

    later : Tail (events all) (access c r ∷ p)
    later = subst⁻¹ (λ (k : History). Tail k (access c r ∷ p)) (events_split A.before _ A.comes.0 A.comes.1) (after_tail A.comes.0 (access c r ∷ p))

    here : Put (events all) j (access c r) p
    here = subst (λ (i : ℕ). Put (events all) i (access c r) p) A.number (put_later later newest)

    ok : Good s p
    ok = good_part A.before _ A.comes

    -- the finding is that of the events before, and the class is known
    is_found : (f ≡ first_found s p c r (reached p r)) × T (s.known c)
    is_found = found_is (ltb (length p) s.limit) (ltb r s.records) (s.known c) (room_for c (reached p r)) f (first_found s p c r (reached p r)) (Row Full) UnknownClass NoSuchRecord LimitReached (right A.before _ A.comes)

    exact : Exact s.clash p c r f
    exact = subst⁻¹ (Exact s.clash p c r) (is_found.0 ∙ found_as s p c r) (answer_exact s.clash p ok.0 c r (row p r) (row_leads p r).0)

    -- what clashed when the access was put clashes now, and the other way round
    clash_now : (i : ℕ) → AccessClashes s.clash p c r i → Clashing s (events all) c r i j
    clash_now i x = record {
      class = x.class;
      is = (x.is.0, put_later later (older x.is.1));
      earlier = let k = put_lt x.is.1 in let n = A.number in omega arith;
      clashes = x.clashes;
      free = λ q. x.free (subst⁻¹ (Path (access c r ∷ p) i) A.number (path_back later (let n = A.number in omega arith) q));
    }

    clash_then : (i : ℕ) → Clashing s (events all) c r i j → AccessClashes s.clash p c r i
    clash_then i x = record {
      class = x.class;
      is = (x.is.0, put_before x.is.1 here x.earlier);
      clashes = x.clashes;
      free = λ q. x.free (subst (Path (events all) i) A.number (path_later later q));
    }

    shows : (i k : ℕ) → f ≡ Some (i, k) → Clashing s (events all) c r i j × (k ≡ j)
    shows i k e = let x = exact.shown i k e in (clash_now i x.0, x.1 ∙ A.number)

    clash_exact : ClashExact s (events all) j c r f
    clash_exact = record { event = (p, here); exactly = ((λ v. (v.0, (shows v.0 v.1 v.2).0)), (λ v. go f refl v.0 (clash_then v.0 v.1))); shown = shows }
      where
        go : (g : Option (ℕ × ℕ)) → f ≡ g → (i : ℕ) → AccessClashes s.clash p c r i → (i : ℕ) × (k : ℕ) × (f ≡ Some (i, k))
        go None e i x = absurd (exact.clear e i x)
        go (Some w) e i x = (w.0, w.1, e)

  orders : (j c r i k : ℕ) → Answered all j c r (Some (i, k)) → Exchangeable (events all) i k
  orders j c r i k A =
      let x = (clash_exact j c r (Some (i, k)) A).shown i k refl in
      let w = x.0 in
      let l = put_lt (here j c r (Some (i, k)) A) in
      let e : w.earlier ≡ w.earlier = refl in
      let low : i < j = w.earlier in
      subst⁻¹ (Exchangeable (events all) i) x.1 ((exchange_exact (events all) whole.0 i j (omega arith) l).1 ((λ q. omega arith), w.free, (λ q. let u = path_up q in omega arith)))

  -- an access event was answered
  answered : {j c r : ℕ} {p : History} → Put (events all) j (access c r) p → (f : Option (ℕ × ℕ)) × Answered all j c r f
  answered {j} {c} {r} {p} q = ⊎_elim (λ n. elim n [ ]) go (source all [] q)
    where
      go : Source [] all (access c r) p → (f : Option (ℕ × ℕ)) × Answered all j c r f
      go S =
          let h = events S.earlier in
          let g = first_found s h c r (reached h r) in
          let call = call_of S.which.call c r S.event in
          let reply : S.which.reply ≡ reply_to s h (Access c r) = right S.earlier S.which (S.rest, S.split) ∙ ap (reply_to s h) call in
          let fine : is_err (reply_to s h (Access c r)) ≡ false = sym (ap is_err reply) ∙ S.accepted in
          let found = accepted_is (ltb (length h) s.limit) (ltb r s.records) (s.known c) (room_for c (reached h r)) g (Row Full) UnknownClass NoSuchRecord LimitReached fine in
          let same-exchange = restated S.which (Access c r) (Ok (Found g)) call (reply ∙ found) in
          (g, record { before = S.earlier; comes = (S.rest, S.split ∙ ap (λ (x : Exchange). S.earlier ++ x ∷ S.rest) same-exchange); number = ap length S.past ∙ sym (put_length q) })

  -- no access was answered clash, so every two that clash by the depot rule are joined by a path
  module _ (depot-rule : IsDepot s) (quiet : (j c r : ℕ) (f : Option (ℕ × ℕ)) → Answered all j c r f → f ≡ None) where
    joined : (i j a b r : ℕ) → IsAccess (events all) i a r → IsAccess (events all) j b r → i < j → T (depot a b) → Path (events all) i j
    joined i j a b r x y l d = elim (path_dec (events all) whole.0 i j) [ yes p ↦ p | no n ↦ absurd (clear n) ]
      where
        clear : ¬ Path (events all) i j → ⊥
        clear n =
            let found = answered y.1 in
            let same_rule = depot-rule a b (known_past s x.1 whole.1) (known_past s y.1 whole.1) in
            let clashing : Clashing s (events all) b r i j = record { class = a; is = x; earlier = l; clashes = subst⁻¹ T same_rule d; free = n } in
            let shown = (clash_exact j b r found.0 found.1).exactly.1 (i, clashing) in
            apart found.0 shown.0 shown.1 (quiet j b r found.0 found.1) shown.2
          where
            apart : (f : Option (ℕ × ℕ)) (i k : ℕ) → f ≡ None → f ≡ Some (i, k) → ⊥
            apart f i k p q = let z : ◌≡◌ {A = ℕ} 0 1 = cc in omega arith

    clash_free : ClashFree depot (events all)
    clash_free i j a b r x y n d = go (ordered i j)
      where
        go : (i < j) ⊎ ((i ≡ j) ⊎ (j < i)) → Path (events all) i j ⊎ Path (events all) j i
        go (inl l) = inl (joined i j a b r x y l d)
        go (inr (inl e)) = absurd (n e)
        go (inr (inr l)) = inr (joined j i b a r y x l (depot_alike a b d))

    reads : SameReads (events all)
    reads = clash_free_reads_alike (events all) clash_free

  -- no reply says that a row is damaged
  whole_open : (h : History) (k : Kind) → says_damaged (reply_to s h (Open k)) ≡ false
  whole_open h k = whole_cond (ltb (length h) s.limit) _ _ (whole_cond (leb (begun h) s.numbers) _ _ refl refl) refl

  whole_told : (a : Result Told Fault) → says_damaged (ok_as ToldSo (by_ordering a)) ≡ false
  whole_told (Ok a) = refl
  whole_told (Err f) = refl

  whole_reply : (h : History) (call : Call) → says_damaged (reply_to s h call) ≡ false
  whole_reply h (Open k) = whole_open h k
  whole_reply h Close = whole_cond (ltb (length h) s.limit) _ _ (whole_cond (ltb 1 (length (scopes h))) _ _ refl refl) refl
  whole_reply h (Access c r) = whole_cond (ltb (length h) s.limit) _ _ (whole_cond (ltb r s.records) _ _ (whole_cond (s.known c) _ _ (whole_cond (room_for c (reached h r)) _ _ refl refl) refl) refl) refl
  whole_reply h (Ask q) = whole_told (telling_past s.numbers h q)

  undamaged : (b : List Exchange) (x : Exchange) → Comes all b x → x.reply ≢ Err (Row Damaged)
  undamaged b x m e = let q = sym (whole_reply (events b) x.call) ∙ ap says_damaged (sym (right b x m) ∙ e) in let z : ◌≡◌ {A = ℕ} 0 1 = cc in omega arith

pub facts_follow : FactsFollow
facts_follow s all right = record {
  undamaged = undamaged s all right;
  answers = λ j c r v. answered s all right v.1;
  clash = clash_exact s all right;
  reads = reads s all right;
  orders = orders s all right;
}
