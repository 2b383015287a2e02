-- An open keeps the bags sound, and makes the step of the meaning.
use Rattle.std.proofs.Common.{◌≡◌, ℕ, ◌+◌, ◌*◌, ◌<◌, ◌≤◌, eqb, ◌∷◌, length, sym, ap, ◌∙◌, subst, ⊎_elim, add-one, arith}
use Rattle.std.proofs.lemmas.Bool.{eq-eqb, ne_eqb, cases_eq, cond-true, cond-false}
use Rattle.graph.specs.History.{before}
use Rattle.orderings.specs.declared.words.Kind.{Kind}
use Rattle.orderings.specs.declared.words.Kind.TheVariants.{Task}
use Rattle.orderings.specs.Meaning.{with_scope}
use Rattle.orderings.specs.Forest.{root, Grown}
use Rattle.orderings.specs.Store.{Contents, Frames, chain}
use Rattle.orderings.specs.Sound.{Each, Live, Sound}
use Rattle.orderings.specs.Bags.{place_in, place_of, meaning_of}
use Rattle.orderings.proofs.FramedMore.{FramedMore, each, framed_new, new_chain}
use Rattle.orderings.proofs.Placed.{placed_open}
use Rattle.orderings.proofs.Forests.{Agree, grown_more, root_agree, root_self, root_inside, root_some}
use Rattle.orderings.proofs.Chains.{each_chain}
use Rattle.orderings.proofs.Places.{place_serial}

-- bags with an element more, alone in its S bag
pub record FilledMore (c d : Contents) (n : ℕ) : Type 0 where
  pub forests : Agree c.forest d.forest n
  pub bags : (x : ℕ) → x < n → d.bag x ≡ c.bag x
  pub heads : (k : ℕ) → k < 2 * n → d.head k ≡ c.head k
  pub new_parent : d.forest.parent n ≡ n
  pub new_rank : d.forest.rank n ≡ 0
  pub new_bag : d.bag n ≡ 2 * n
  pub new_serial : d.head (2 * n) ≡ n
  pub new_parallel : d.head (2 * n + 1) ≡ 0

module _ (fr gr : Frames) (c d : Contents) (n s count : ℕ) (k : Kind) (o : Sound fr c n s count) (small : n ≤ 65536) (inside : s < n) (F : FramedMore fr gr n s k) (D : FilledMore c d n) where
  new_is : chain gr.outward (n + 1) n ≡ n ∷ chain fr.outward n s
  new_is = new_chain fr gr n s k o.framed inside F

  -- the bags of the tasks begun before
  old_bag : (x : ℕ) → 0 < x → x < n → d.bag (root d.forest x) ≡ c.bag (root c.forest x)
  old_bag x p l =
      ap d.bag (root_agree c.forest d.forest n o.grown D.forests x l)
      ∙ D.bags (root c.forest x) (root_inside c.forest n o.grown small x l)

  new_bag : d.bag (root d.forest n) ≡ 2 * n
  new_bag = ap d.bag (root_self d.forest n D.new_parent) ∙ D.new_bag

  live_old : (k : ℕ) → k < 2 * n → Live c n k → Live d (n + 1) k
  live_old k l v =
      let h = D.heads k l in
      let low = v.inside in
      record {
        inside = omega arith;
        top = ap d.forest.parent h ∙ D.forests.parents (c.head k) low ∙ v.top ∙ sym h;
        named = λ p. ap d.bag h ∙ D.bags (c.head k) low ∙ v.named (omega arith);
      }

  live_new : Live d (n + 1) (2 * n) × Live d (n + 1) (2 * n + 1)
  live_new =
      let a = D.new_serial in
      let b = D.new_parallel in (
        record { inside = omega arith; top = ap d.forest.parent a ∙ D.new_parent ∙ sym a; named = λ p. ap d.bag a ∙ D.new_bag },
        record { inside = omega arith; top = ap d.forest.parent b ∙ D.forests.parents 0 (omega arith) ∙ o.grown.none ∙ sym b; named = λ p. absurd (omega arith) },
      )

  serial_new : (x : ℕ) → x < n + 1 → 0 < x → gr.kind x ≡ Task → (t : ℕ) → d.bag (root d.forest x) ≡ 2 * t → gr.kind t ≡ Task
  serial_new =
      each {P = λ x. 0 < x → gr.kind x ≡ Task → (t : ℕ) → d.bag (root d.forest x) ≡ 2 * t → gr.kind t ≡ Task} n
      (λ x l p e t h.
      let was : c.bag (root c.forest x) ≡ 2 * t = sym (old_bag x p l) ∙ h in
      let low = o.numbered (root c.forest x) (root_some c.forest n o.grown small x p l) (root_inside c.forest n o.grown small x l) in
      F.kinds t (omega arith) ∙ o.serial x p l (sym (F.kinds x l) ∙ e) t was)
      (λ p e t h. let b = new_bag in let same : n ≡ t = omega arith in ap gr.kind (sym same) ∙ e)

  pub sound_new : Sound gr d (n + 1) n (count + 1)
  sound_new = record {
    counted = ap (λ (j : ℕ). j + 1) o.counted ∙ add-one _ ∙ sym (ap length new_is);
    framed = framed_new fr gr n s k o.framed inside F;
    grown = subst (Grown d.forest) (sym (add-one n)) (grown_more c.forest d.forest n (omega arith) o.grown D.forests D.new_parent D.new_rank);
    numbered = λ x p l.
        each {P = λ x. 0 < x → d.bag x < 2 * (n + 1)} n
        (λ x l p. let e = D.bags x l in let low = o.numbered x p l in omega arith)
        (λ p. let e = D.new_bag in omega arith) x l p;
    heads = λ x p l.
        each {P = λ x. 0 < x → d.forest.parent x ≡ x → d.head (d.bag x) ≡ x} n
        (λ x l p e. ap d.head (D.bags x l) ∙ D.heads (c.bag x) (o.numbered x p l) ∙ o.heads x p l (sym (D.forests.parents x l) ∙ e))
        (λ p e. ap d.head D.new_bag ∙ D.new_serial) x l p;
    filled = λ i p l.
        each {P = λ i. 0 < i → 0 < d.head (2 * i)} n
        (λ i l p. let e = D.heads (2 * i) (omega arith) in let f = o.filled i p l in omega arith)
        (λ p. let e = D.new_serial in omega arith) i l p;
    serial = λ x p l. serial_new x l p;
    live =
        subst (Each (λ i. Live d (n + 1) (2 * i) × Live d (n + 1) (2 * i + 1))) (sym new_is) (
          live_new,
          each_chain fr.outward n o.framed.inward (λ i. Live c n (2 * i) × Live c n (2 * i + 1)) (λ i. Live d (n + 1) (2 * i) × Live d (n + 1) (2 * i + 1)) n
              (λ i l t v. (live_old (2 * i) (omega arith) v.0, live_old (2 * i + 1) (omega arith) v.1))
              n s inside (omega arith) o.live,
        );
  }

  place_old : (i : ℕ) → i < n → place_of d i ≡ place_of c i
  place_old i l =
      ⊎_elim
      (λ z. cond-true (eqb i 0) (before 0) _ (eq-eqb i 0 z) ∙ sym (cond-true (eqb i 0) (before 0) _ (eq-eqb i 0 z)))
      (λ z. cond-false (eqb i 0) (before 0) _ (ne_eqb i 0 z) ∙ ap place_in (old_bag i (omega arith) l) ∙ sym (cond-false (eqb i 0) (before 0) _ (ne_eqb i 0 z)))
      (cases_eq i 0)

  place_new : place_of d n ≡ before n
  place_new = cond-false (eqb n 0) (before 0) _ (ne_eqb n 0 (omega arith)) ∙ ap place_in new_bag ∙ place_serial n

  pub meaning_new : (cap : ℕ) → meaning_of gr d cap (n + 1) n ≡ with_scope k (meaning_of fr c cap n s)
  meaning_new cap = placed_open fr gr (place_of c) (place_of d) cap n s k o.framed inside F place_old place_new
