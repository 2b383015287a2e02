-- Frames with a scope more.
use Rattle.std.proofs.Common.{◌≡◌, ℕ, ◌+◌, ◌<◌, ◌≢◌, List, ◌∷◌, sym, ap, ◌∙◌, subst, ⊎_elim, add-one, arith}
use Rattle.std.proofs.lemmas.Bool.{cases_lt}
use Rattle.orderings.specs.declared.words.Kind.{Kind}
use Rattle.orderings.specs.declared.words.Kind.TheVariants.{Task, Finish}
use Rattle.orderings.specs.Store.{Frames, chain}
use Rattle.orderings.specs.Sound.{Framed}
use Rattle.orderings.specs.Scopes.{task_within}
use Rattle.orderings.specs.Chains.{chain_more}
use Rattle.orderings.proofs.Chains.{chain_agree, chain_steady}
use Rattle.orderings.proofs.Framed.{outer}

-- frames with a scope n more, of kind k and within the scope s
pub record FramedMore (fr gr : Frames) (n s : ℕ) (k : Kind) : Type 0 where
  pub kinds : (i : ℕ) → i < n → gr.kind i ≡ fr.kind i
  pub outwards : (i : ℕ) → i < n → gr.outward i ≡ fr.outward i
  pub withins : (i : ℕ) → i < n → gr.within i ≡ fr.within i
  pub new_kind : gr.kind n ≡ k
  pub new_outward : gr.outward n ≡ s
  pub new_within : gr.within n ≡ task_within k n (fr.within s)

-- a fact of the old numbers and of the new one
pub each : {P : ℕ → Type 0} (n : ℕ) → ((i : ℕ) → i < n → P i) → P n → (i : ℕ) → i < n + 1 → P i
each {P} n old new i l = ⊎_elim (old i) (λ h. let e : n ≡ i = omega arith in subst P e new) (cases_lt i n)

module _ (fr gr : Frames) (n s : ℕ) (k : Kind) (w : Framed fr n) (inside : s < n) (F : FramedMore fr gr n s k) where
  pub framed_new : Framed gr (n + 1)
  framed_new = record {
    main = F.kinds 0 (omega arith) ∙ w.main;
    inward =
        each {P = λ i. i ≢ 0 → gr.outward i < i} n
        (λ i l ne. let e = F.outwards i l in let low = w.inward i l ne in omega arith)
        (λ ne. let e = F.new_outward in omega arith);
    own =
        each {P = λ i. gr.kind i ≡ Task → gr.within i ≡ i} n
        (λ i l e. F.withins i l ∙ w.own i l (sym (F.kinds i l) ∙ e))
        (λ e. F.new_within ∙ ap (λ (j : Kind). task_within j n (fr.within s)) (sym F.new_kind ∙ e));
    lent =
        each {P = λ i. gr.kind i ≡ Finish → gr.within i ≡ gr.within (gr.outward i)} n
        (λ i l e. let was : fr.kind i ≡ Finish = sym (F.kinds i l) ∙ e in
        let low = (outer fr n w i l was).1 in
        F.withins i l ∙ w.lent i l was ∙ sym (ap gr.within (F.outwards i l) ∙ F.withins (fr.outward i) (omega arith)))
        (λ e. F.new_within ∙ ap (λ (j : Kind). task_within j n (fr.within s)) (sym F.new_kind ∙ e) ∙ sym (ap gr.within F.new_outward ∙ F.withins s inside));
  }

  pub new_first : chain gr.outward (n + 1) n ≡ n ∷ chain gr.outward n s
  new_first = ap (λ (j : ℕ). chain gr.outward j n) (add-one n) ∙ chain_more gr.outward n n (omega arith) ∙ ap (λ (i : ℕ). n ∷ chain gr.outward n i) F.new_outward

  pub new_chain : chain gr.outward (n + 1) n ≡ n ∷ chain fr.outward n s
  new_chain = new_first ∙ ap (λ (r : List ℕ). n ∷ r) (chain_agree fr.outward n w.inward gr.outward F.outwards n s inside)

  -- the chains of the scopes begun before stay
  pub old_chain : (i : ℕ) → i < n → chain gr.outward (n + 1) i ≡ chain fr.outward n i
  old_chain i l = chain_agree fr.outward n w.inward gr.outward F.outwards (n + 1) i l ∙ chain_steady fr.outward n w.inward (n + 1) n i l (omega arith) l
