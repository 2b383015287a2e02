-- The scopes of a store: those begun, by number, and those open.
use Rattle.std.proofs.Common.{◌≡◌, ℕ, zero, suc, ◌+◌, ◌<◌, ◌≤◌, ◌≢◌, ◌⊎◌, List, [], ◌∷◌, map, Some, None, sym, refl, ap, ◌∙◌, subst, inl, inr, ⊎_elim, arith}
use Rattle.std.proofs.lemmas.Bool.{cases_eq}
use Rattle.std.proofs.lemmas.List.FromFn.{fill_by_all, get_or-map-range_with_len, length-map-range_with_len}
use Rattle.std.specs.List.{range_with_len}
use Rattle.graph.specs.History.{Scope, innermost, innermost_task}
use Rattle.orderings.specs.declared.words.Kind.{Kind}
use Rattle.orderings.specs.declared.words.Kind.TheVariants.{Task, Finish}
use Rattle.orderings.specs.Meaning.{Begun, a_finish, at, scope_as}
use Rattle.orderings.specs.Store.{Frames, chain}
use Rattle.orderings.specs.Sound.{Framed, Each}
use Rattle.orderings.specs.Chains.{chain_main, chain_more}
use Rattle.orderings.specs.Props.{task_finish}
use Rattle.orderings.specs.Formation.{number_as, scopes_of}
use Rattle.orderings.proofs.Chains.{chain_first, chain_agree, each_first}

pub cases_kind : (k : Kind) → (k ≡ Task) ⊎ (k ≡ Finish)
cases_kind Task = inl refl
cases_kind Finish = inr refl

-- two lists by number are equal where they are at each number
pub same_counted : (f g : ℕ → Begun) (n : ℕ) → ((i : ℕ) → i < n → f i ≡ g i) → map f (range_with_len 0 n) ≡ map g (range_with_len 0 n)
same_counted f g n h = fill_by_all g (map f (range_with_len 0 n)) n a_finish (length-map-range_with_len f 0 n) (λ k l. get_or-map-range_with_len f 0 n k k a_finish l (omega arith) ∙ h k l)

pub at_some : (f : ℕ → Begun) (n i : ℕ) → i < n → at (map f (range_with_len 0 n)) i ≡ Some (f i)
at_some f n i l = from 0 n i i l (omega arith)
  where
    from : (a n i j : ℕ) → i < n → a + i ≡ j → at (map f (range_with_len a n)) i ≡ Some (f j)
    from a zero i j l e = absurd (omega arith)
    from a (suc n) zero j l e = ap (λ (k : ℕ). Some (f k)) (omega arith)
    from a (suc n) (suc i) j l e = from (a + 1) n i j (omega arith) (omega arith)

pub at_none : (f : ℕ → Begun) (n i : ℕ) → n ≤ i → at (map f (range_with_len 0 n)) i ≡ None
at_none f n i l = from 0 n i l
  where
    from : (a n i : ℕ) → n ≤ i → at (map f (range_with_len a n)) i ≡ None
    from a zero i l = refl
    from a (suc n) zero l = absurd (omega arith)
    from a (suc n) (suc i) l = from (a + 1) n i (omega arith)

pub framed_main : (fr : Frames) → fr.kind 0 ≡ Task → fr.within 0 ≡ 0 → Framed fr 1
framed_main fr is-task itself = record {
  main = is-task;
  inward = λ s l ne. absurd (ne (omega arith));
  own = λ s l e. let z : 0 ≡ s = omega arith in subst (λ (k : ℕ). fr.within k ≡ k) z itself;
  lent = λ s l e. let z : s ≡ 0 = omega arith in absurd (task_finish (fr.kind s) (ap fr.kind z ∙ is-task) e);
}

module _ (fr : Frames) (n : ℕ) (w : Framed fr n) where
  pub innermost_is : (f s : ℕ) → s < f → innermost (scopes_of fr (chain fr.outward f s)) ≡ s
  innermost_is f s l = ap (λ (ss : List ℕ). innermost (scopes_of fr ss)) (chain_first fr.outward n w.inward f s l).1 ∙ number_as (fr.kind s) s

  -- a finish is not main, and lies further in than the scope next outward
  pub outer : (s : ℕ) → s < n → fr.kind s ≡ Finish → (s ≢ 0) × (fr.outward s < s)
  outer s l e = let not_main : s ≢ 0 = λ z. task_finish (fr.kind s) (ap fr.kind z ∙ w.main) e in (not_main, w.inward s l not_main)

  -- what holds of each open scope holds of the innermost task, which the entry knows
  pub each_within : (P : ℕ → Type 0) (f s : ℕ) → s < n → s < f → Each P (chain fr.outward f s) → P (fr.within s)
  each_within P zero s l e v = absurd (omega arith)
  each_within P (suc f) s l e v =
      ⊎_elim
      (λ t. subst P (sym (w.own s l t)) (each_first fr.outward n w.inward P (suc f) s e v))
      (λ t. let o = outer s l t in
      let below = o.1 in
      let v' : Each P (s ∷ chain fr.outward f (fr.outward s)) = subst (Each P) (chain_more fr.outward f s o.0) v in
      subst P (sym (w.lent s l t)) (each_within P f (fr.outward s) (omega arith) (omega arith) v'.1))
      (cases_kind (fr.kind s))

  pub within_task : (f s : ℕ) → s < n → s < f → (fr.within s ≤ s) × (fr.kind (fr.within s) ≡ Task)
  within_task zero s l e = absurd (omega arith)
  within_task (suc f) s l e =
      ⊎_elim
      (λ t. let own = w.own s l t in (omega arith, ap fr.kind own ∙ t))
      (λ t. let below = (outer s l t).1 in
      let r = within_task f (fr.outward s) (omega arith) (omega arith) in
      let lent = w.lent s l t in
      let low = r.0 in
      (omega arith, ap fr.kind lent ∙ r.1))
      (cases_kind (fr.kind s))

  pub innermost_task_is : (f s : ℕ) → s < n → s < f → innermost_task (scopes_of fr (chain fr.outward f s)) ≡ fr.within s
  innermost_task_is zero s l e = absurd (omega arith)
  innermost_task_is (suc f) s l e =
      ⊎_elim
      (λ t. let first = chain_first fr.outward n w.inward (suc f) s e in
      ap (λ (ss : List ℕ). innermost_task (scopes_of fr ss)) first.1 ∙ ap (λ (k : Kind). innermost_task (scope_as k s ∷ scopes_of fr first.0)) t ∙ sym (w.own s l t))
      (λ t. let o = outer s l t in
      let below = o.1 in
      ap (λ (ss : List ℕ). innermost_task (scopes_of fr ss)) (chain_more fr.outward f s o.0)
      ∙ ap (λ (k : Kind). innermost_task (scope_as k s ∷ scopes_of fr (chain fr.outward f (fr.outward s)))) t
      ∙ innermost_task_is f (fr.outward s) (omega arith) (omega arith) ∙ sym (w.lent s l t))
      (cases_kind (fr.kind s))

  -- frames that agree below n have the same open scopes
  pub scopes_agree : (gr : Frames) → ((i : ℕ) → i < n → gr.kind i ≡ fr.kind i) → ((i : ℕ) → i < n → gr.outward i ≡ fr.outward i) → (f s : ℕ) → s < n → scopes_of gr (chain gr.outward f s) ≡ scopes_of fr (chain fr.outward f s)
  unfolding chain
  scopes_agree gr kinds outs f s l = ap (scopes_of gr) (chain_agree fr.outward n w.inward gr.outward outs f s l) ∙ same f s l
    where
      same : (f s : ℕ) → s < n → scopes_of gr (chain fr.outward f s) ≡ scopes_of fr (chain fr.outward f s)
      same zero s l = refl
      same (suc f) s l =
          let first : scope_as (gr.kind s) s ≡ scope_as (fr.kind s) s = ap (λ (k : Kind). scope_as k s) (kinds s l) in
          ⊎_elim
          (λ q. ap (scopes_of gr) (chain_main fr.outward f s q) ∙ ap (λ (x : Scope). x ∷ []) first ∙ sym (ap (scopes_of fr) (chain_main fr.outward f s q)))
          (λ q. let below = w.inward s l q in
          ap (scopes_of gr) (chain_more fr.outward f s q)
          ∙ (λ i. first i ∷ same f (fr.outward s) (omega arith) i)
          ∙ sym (ap (scopes_of fr) (chain_more fr.outward f s q)))
          (cases_eq s 0)
