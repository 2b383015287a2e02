-- A close keeps the bags sound, and makes the step of the meaning.
use Rattle.std.proofs.Common.{◌≡◌, ℕ, ◌+◌, ◌-◌, ◌*◌, ◌/◌, ◌%◌, ◌<◌, Bool, true, false, cond, ◌||◌, eqb, ◌≢◌, ◌⊎◌, List, ◌∷◌, length, Ok, sym, refl, ap, ◌∙◌, subst, inl, inr, ⊎_elim, arith}
use Rattle.std.proofs.lemmas.Bool.{eq-eqb, ne_eqb, eqb-true, cases_eq, cases_Bool, or_cases, or_left, or_right, cond-true, cond-false}
use Rattle.graph.specs.History.{Scope, Place, before, unordered, spot, moved, innermost, innermost_task}
use Rattle.orderings.specs.declared.words.Kind.{Kind}
use Rattle.orderings.specs.declared.words.Kind.TheVariants.{Task, Finish}
use Rattle.orderings.specs.Meaning.{scope_as, closing, after_close}
use Rattle.orderings.specs.Forest.{root}
use Rattle.orderings.specs.Store.{Contents, Frames, chain}
use Rattle.orderings.specs.Sound.{Each, Live, Sound, Closable}
use Rattle.orderings.specs.Bags.{place_in, place_of, meaning_of}
use Rattle.orderings.proofs.Chains.{each_chain}
use Rattle.orderings.proofs.Placed.{closing_placed, placed_close}
use Rattle.orderings.proofs.Pours.{Moved}
use Rattle.orderings.proofs.Places.{place_serial, place_parallel, spot_in}
use Rattle.orderings.specs.Props.{task_finish}
use Rattle.orderings.specs.Formation.{scopes_of}
use Rattle.orderings.proofs.Framed.{innermost_is, innermost_task_is, within_task}
use Rattle.orderings.proofs.Closes.{not_main, outer_low, split}

-- which bags move to q where the scope s closes
pub record Goes (fr : Frames) (s q : ℕ) (m : ℕ → Bool) : Type 0 where
  pub own : (k : ℕ) → m k ≡ true → k / 2 ≡ s
  pub all : (k : ℕ) → k / 2 ≡ s → ((t : ℕ) → k ≡ 2 * t → fr.kind t ≡ Task) → m k ≡ true
  pub lands : ((fr.kind s ≡ Task) × (q ≡ 2 * fr.outward s + 1)) ⊎ ((fr.kind s ≡ Finish) × (q ≡ 2 * fr.within (fr.outward s)))

pub goes_task : (fr : Frames) (s : ℕ) → fr.kind s ≡ Task → Goes fr s (2 * fr.outward s + 1) (λ k. eqb k (2 * s) || eqb k (2 * s + 1))
goes_task fr s t = record {
  own = λ k e. ⊎_elim (λ a. let q = eqb-true k (2 * s) a in omega arith) (λ a. let q = eqb-true k (2 * s + 1) a in omega arith) (or_cases (eqb k (2 * s)) (eqb k (2 * s + 1)) e);
  all = λ k e f. ⊎_elim (λ z. or_left (eqb k (2 * s)) (eqb k (2 * s + 1)) (eq-eqb k (2 * s) (omega arith))) (λ z. or_right (eqb k (2 * s)) (eqb k (2 * s + 1)) (eq-eqb k (2 * s + 1) (omega arith))) (cases_eq (k % 2) 0);
  lands = inl (t, refl);
}

pub goes_finish : (fr : Frames) (s : ℕ) → fr.kind s ≡ Finish → Goes fr s (2 * fr.within (fr.outward s)) (λ k. eqb k (2 * s + 1))
goes_finish fr s t = record {
  own = λ k e. let q = eqb-true k (2 * s + 1) e in omega arith;
  all = λ k e f. ⊎_elim (λ z. absurd (task_finish (fr.kind s) (f s (omega arith)) t)) (λ z. eq-eqb k (2 * s + 1) (omega arith)) (cases_eq (k % 2) 0);
  lands = inr (t, refl);
}

module _ (fr : Frames) (c d : Contents) (size s q : ℕ) (m : ℕ → Bool) (K : Closable fr c size s) (go : Goes fr s q m) (M : Moved c d K.begun q m) where
  low : fr.outward s < s
  low = outer_low fr c size s K

  stays : (k : ℕ) → k / 2 ≢ s → m k ≡ false
  stays k ne = ⊎_elim (λ t. absurd (ne (go.own k t))) (λ f. f) (cases_Bool (m k))

  serial_closed : (x : ℕ) → 0 < x → x < K.begun → fr.kind x ≡ Task → (t : ℕ) → d.bag (root d.forest x) ≡ 2 * t → fr.kind t ≡ Task
  serial_closed x p l task t e =
      let k : ℕ = c.bag (root c.forest x) in
      let lo = low in
      ⊎_elim
      (λ a. let qe : q ≡ 2 * t = sym (cond-true (m k) q k a) ∙ sym (M.bags x p l) ∙ e in
      ⊎_elim
      (λ g. let h = g.1 in absurd (omega arith))
      (λ g. let h = g.1 in
      let same : fr.within (fr.outward s) ≡ t = omega arith in
      ap fr.kind (sym same) ∙ (within_task fr K.begun K.sound.framed K.begun (fr.outward s) (omega arith) (omega arith)).1)
      go.lands)
      (λ a. K.sound.serial x p l task t (sym (cond-false (m k) q k a) ∙ sym (M.bags x p l) ∙ e))
      (cases_Bool (m k))

  pub sound_closed : Sound fr d K.begun (fr.outward s) (K.count - 1)
  sound_closed =
      let lo = low in
      let whole = ap length (split fr c size s K) in
      let counted = K.sound.counted in
      record {
        counted = omega arith;
        framed = K.sound.framed;
        grown = M.grown;
        numbered = λ x p l. M.numbered x p l (K.sound.numbered x p l);
        heads = M.heads;
        filled = λ t p l. M.filled (2 * t) (K.sound.filled t p l);
        serial = serial_closed;
        live =
            each_chain fr.outward K.begun K.sound.framed.inward (λ i. Live c K.begun (2 * i) × Live c K.begun (2 * i + 1)) (λ i. Live d K.begun (2 * i) × Live d K.begun (2 * i + 1)) (fr.outward s)
            (λ i l t v. (M.live (2 * i) (stays (2 * i) (omega arith)) v.0, M.live (2 * i + 1) (stays (2 * i + 1) (omega arith)) v.1))
            K.begun (fr.outward s) (omega arith) (omega arith)
            (let all : Each (λ i. Live c K.begun (2 * i) × Live c K.begun (2 * i + 1)) (s ∷ chain fr.outward K.begun (fr.outward s)) = subst (Each (λ i. Live c K.begun (2 * i) × Live c K.begun (2 * i + 1))) (split fr c size s K) K.sound.live in all.1);
      }

  opened_is : scopes_of fr (chain fr.outward K.begun s) ≡ scope_as (fr.kind s) s ∷ scopes_of fr (chain fr.outward K.begun (fr.outward s))
  opened_is = ap (scopes_of fr) (split fr c size s K)

  moved_is : (p : Place) → moved (scopes_of fr (chain fr.outward K.begun s)) p ≡ cond (eqb (spot p) s) (place_in q) p
  moved_is p =
      let lo = low in
      let ss : List Scope = scopes_of fr (chain fr.outward K.begun (fr.outward s)) in
      ap (λ (l : List Scope). moved l p) opened_is
      ∙ ⊎_elim
      (λ g. let to : unordered (innermost ss) ≡ place_in q = ap unordered (innermost_is fr K.begun K.sound.framed K.begun (fr.outward s) (omega arith)) ∙ sym (ap place_in g.1 ∙ place_parallel (fr.outward s)) in
      ap (λ (k : Kind). moved (scope_as k s ∷ ss) p) g.0 ∙ ap (λ (r : Place). cond (eqb (spot p) s) r p) to)
      (λ g. let to : before (innermost_task ss) ≡ place_in q = ap before (innermost_task_is fr K.begun K.sound.framed K.begun (fr.outward s) (omega arith) (omega arith)) ∙ sym (ap place_in g.1 ∙ place_serial (fr.within (fr.outward s))) in
      ap (λ (k : Kind). moved (scope_as k s ∷ ss) p) g.0 ∙ ap (λ (r : Place). cond (eqb (spot p) s) r p) to)
      go.lands

  task_moved : (i : ℕ) → i < K.begun → fr.kind i ≡ Task → moved (scopes_of fr (chain fr.outward K.begun s)) (place_of c i) ≡ place_of d i
  task_moved i l t = moved_is (place_of c i) ∙ ⊎_elim main other (cases_eq i 0)
    where
      main : i ≡ 0 → cond (eqb (spot (place_of c i)) s) (place_in q) (place_of c i) ≡ place_of d i
      main z =
          let here : place_of c i ≡ before 0 = cond-true (eqb i 0) (before 0) _ (eq-eqb i 0 z) in
          let ne = not_main fr c size s K in
          cond-false (eqb (spot (place_of c i)) s) (place_in q) (place_of c i) (ne_eqb (spot (place_of c i)) s (let e = ap spot here in λ h. ne (sym h ∙ e)))
          ∙ here ∙ sym (cond-true (eqb i 0) (before 0) _ (eq-eqb i 0 z))

      other : i ≢ 0 → cond (eqb (spot (place_of c i)) s) (place_in q) (place_of c i) ≡ place_of d i
      other z =
          let k : ℕ = c.bag (root c.forest i) in
          let here : place_of c i ≡ place_in k = cond-false (eqb i 0) (before 0) _ (ne_eqb i 0 z) in
          let there : place_of d i ≡ place_in (cond (m k) q k) = cond-false (eqb i 0) (before 0) _ (ne_eqb i 0 z) ∙ ap place_in (M.bags i (omega arith) l) in
          let at : spot (place_of c i) ≡ k / 2 = ap spot here ∙ spot_in k in
          ⊎_elim
          (λ e. let moves = go.all k (sym at ∙ e) (λ u h. K.sound.serial i (omega arith) l t u h) in
          cond-true (eqb (spot (place_of c i)) s) (place_in q) (place_of c i) (eq-eqb (spot (place_of c i)) s e) ∙ sym (there ∙ ap place_in (cond-true (m k) q k moves)))
          (λ e. cond-false (eqb (spot (place_of c i)) s) (place_in q) (place_of c i) (ne_eqb (spot (place_of c i)) s e) ∙ here ∙ sym (there ∙ ap place_in (cond-false (m k) q k (stays k (λ h. e (at ∙ h))))))
          (cases_eq (spot (place_of c i)) s)

  pub answer_closed : (cap : ℕ) → closing (meaning_of fr c cap K.begun s) ≡ Ok s
  answer_closed cap = let len = K.sound.counted in let more = K.more in closing_placed fr (place_of c) cap K.begun s K.sound.framed K.inside (omega arith)

  pub meaning_closed : (cap : ℕ) → meaning_of fr d cap K.begun (fr.outward s) ≡ after_close (meaning_of fr c cap K.begun s)
  meaning_closed cap =
      let len = K.sound.counted in
      let more = K.more in
      placed_close fr (place_of c) cap K.begun s K.sound.framed K.inside (omega arith) (place_of d) (not_main fr c size s K) task_moved
