-- What pouring does to the bags.
use Rattle.std.proofs.Common.{◌≡◌, ℕ, ◌*◌, ◌<◌, ◌≤◌, Bool, true, false, cond, ◌||◌, eqb, sym, refl, ap, ◌∙◌, ⊎_elim, arith}
use Rattle.std.proofs.lemmas.Bool.{eq-eqb, ne_eqb, eqb-true, eqb-false, cases_eq, cases_Bool, both_ways, or_cases, or_parts, or_from, cond-true, cond-false}
use Rattle.orderings.specs.Forest.{Forest, root, upd, Grown}
use Rattle.orderings.specs.Store.{Contents}
use Rattle.orderings.specs.Sound.{Live}
use Rattle.orderings.proofs.Sums.{upd_same, upd_other}
use Rattle.orderings.proofs.Forests.{root_top, root_inside, root_some, root_self}
use Rattle.orderings.proofs.Merges.{Merged, merged_keeps}

-- what lay in the bags that m names lies in the bag q
pub record Moved (c d : Contents) (n q : ℕ) (m : ℕ → Bool) : Type 0 where
  pub grown : Grown d.forest n
  pub bags : (x : ℕ) → 0 < x → x < n → d.bag (root d.forest x) ≡ cond (m (c.bag (root c.forest x))) q (c.bag (root c.forest x))
  pub numbered : (x : ℕ) → 0 < x → x < n → c.bag x < 2 * n → d.bag x < 2 * n
  pub heads : (x : ℕ) → 0 < x → x < n → d.forest.parent x ≡ x → d.head (d.bag x) ≡ x
  pub live : (k : ℕ) → m k ≡ false → Live c n k → Live d n k
  pub filled : (k : ℕ) → 0 < c.head k → 0 < d.head k

-- what is in the bag q or moves there is in the bag q then
goes : (k q : ℕ) (b : Bool) → (eqb k q || b) ≡ true → q ≡ cond b q k
goes k q true e = refl
goes k q false e = ⊎_elim (λ t. sym (eqb-true k q t)) (λ f. absurd (both_ways false refl f)) (or_cases (eqb k q) false e)

module _ (c : Contents) (n : ℕ) (G : Grown c.forest n) (small : n ≤ 65536) (heads : (x : ℕ) → 0 < x → x < n → c.forest.parent x ≡ x → c.head (c.bag x) ≡ x) where
  -- a root is the head of a bag in use exactly if it has the number of the bag
  pub head_test : (k : ℕ) → Live c n k → (y : ℕ) → 0 < y → y < n → c.forest.parent y ≡ y → eqb y (c.head k) ≡ eqb (c.bag y) k
  head_test k v y s l top =
      ⊎_elim
      (λ e. eq-eqb y (c.head k) (sym (heads y s l top) ∙ ap c.head e) ∙ sym (eq-eqb (c.bag y) k e))
      (λ e. ne_eqb y (c.head k) (λ h. e (ap c.bag h ∙ v.named (omega arith))) ∙ sym (ne_eqb (c.bag y) k e))
      (cases_eq (c.bag y) k)

  -- a fact of roots holds of the root above an element
  at_root : {P : ℕ → Type 0} → ((y : ℕ) → 0 < y → y < n → c.forest.parent y ≡ y → P y) → (x : ℕ) → 0 < x → x < n → P (root c.forest x)
  at_root h x s l = h (root c.forest x) (root_some c.forest n G small x s l) (root_inside c.forest n G small x l) (root_top c.forest n G small x l)

  -- nothing moves where no root has a number that m names
  pub moved_none : (q : ℕ) (m : ℕ → Bool) → ((y : ℕ) → 0 < y → y < n → c.forest.parent y ≡ y → m (c.bag y) ≡ false) → Moved c c n q m
  moved_none q m none = record {
    grown = G;
    bags = λ x s l. sym (cond-false (m (c.bag (root c.forest x))) q _ (at_root {P = λ y. m (c.bag y) ≡ false} none x s l));
    numbered = λ x s l h. h;
    heads = heads;
    live = λ k f v. v;
    filled = λ k s. s;
  }

  module _ (g : Forest) (q r : ℕ) (among m : ℕ → Bool) (M : Merged c.forest g n r among) (q-in : q < 2 * n)
      (among-is : (y : ℕ) → 0 < y → y < n → c.forest.parent y ≡ y → among y ≡ (eqb (c.bag y) q || m (c.bag y))) where
    bag_same : (y : ℕ) → among y ≡ false → upd c.bag r q y ≡ c.bag y
    bag_same y f = upd_other c.bag r q y (λ e. both_ways (among y) f (ap among e ∙ M.chosen))

    root_r : (x : ℕ) → 0 < x → x < n → among (root c.forest x) ≡ true → root g x ≡ r
    root_r x s l t = M.roots x s l ∙ cond-true (among (root c.forest x)) r (root c.forest x) t

    root_same : (x : ℕ) → 0 < x → x < n → among (root c.forest x) ≡ false → root g x ≡ root c.forest x
    root_same x s l f = M.roots x s l ∙ cond-false (among (root c.forest x)) r (root c.forest x) f

    named : (x : ℕ) → 0 < x → x < n → among (root c.forest x) ≡ (eqb (c.bag (root c.forest x)) q || m (c.bag (root c.forest x)))
    named = at_root {P = λ y. among y ≡ (eqb (c.bag y) q || m (c.bag y))} among-is

    bags_moved : (x : ℕ) → 0 < x → x < n → upd c.bag r q (root g x) ≡ cond (m (c.bag (root c.forest x))) q (c.bag (root c.forest x))
    bags_moved x s l =
        let y : ℕ = root c.forest x in
        ⊎_elim
        (λ t. upd_same c.bag r q (root g x) (root_r x s l t) ∙ goes (c.bag y) q (m (c.bag y)) (sym (named x s l) ∙ t))
        (λ f. ap (upd c.bag r q) (root_same x s l f) ∙ bag_same y f ∙ sym (cond-false (m (c.bag y)) q (c.bag y) (or_parts (eqb (c.bag y) q) (m (c.bag y)) (sym (named x s l) ∙ f)).1))
        (cases_Bool (among y))

    heads_moved : (x : ℕ) → 0 < x → x < n → g.parent x ≡ x → upd c.head q r (upd c.bag r q x) ≡ x
    heads_moved x s l top =
        let y : ℕ = root c.forest x in
        ⊎_elim
        (λ t. let e : x ≡ r = sym (root_self g x top) ∙ root_r x s l t in upd_same c.head q r _ (upd_same c.bag r q x e) ∙ sym e)
        (λ f. let e : x ≡ y = sym (root_self g x top) ∙ root_same x s l f in
        let apart = eqb-false (c.bag y) q (or_parts (eqb (c.bag y) q) (m (c.bag y)) (sym (named x s l) ∙ f)).0 in
        ap (λ (k : ℕ). upd c.head q r (upd c.bag r q k)) e
        ∙ ap (upd c.head q r) (bag_same y f)
        ∙ upd_other c.head q r (c.bag y) apart
        ∙ at_root {P = λ y. c.head (c.bag y) ≡ y} heads x s l ∙ sym e)
        (cases_Bool (among y))

    live_moved : (k : ℕ) → m k ≡ false → Live c n k → Live (record { forest = g; bag = upd c.bag r q; head = upd c.head q r }) n k
    live_moved k f v = ⊎_elim target other (cases_eq k q)
      where
        target : k ≡ q → Live (record { forest = g; bag = upd c.bag r q; head = upd c.head q r }) n k
        target e =
            let h = upd_same c.head q r k e in
            let in-r = M.inside in
            record {
              inside = omega arith;
              top = ap g.parent h ∙ M.top ∙ sym h;
              named = λ s. ap (upd c.bag r q) h ∙ upd_same c.bag r q r refl ∙ sym e;
            }

        other : (k ≡ q → ⊥) → Live (record { forest = g; bag = upd c.bag r q; head = upd c.head q r }) n k
        other e =
            let h = upd_other c.head q r k e in
            let l = v.inside in
            record {
              inside = omega arith;
              top = ap g.parent h ∙ merged_keeps c.forest g n r among small M (c.head k) l v.top apart ∙ sym h;
              named = λ s. let s' : 0 < c.head k = omega arith in ap (upd c.bag r q) h ∙ bag_same (c.head k) (apart s') ∙ v.named s';
            }
          where
            apart : 0 < c.head k → among (c.head k) ≡ false
            apart s = among-is (c.head k) s v.inside v.top ∙ or_from (eqb (c.bag (c.head k)) q) (m (c.bag (c.head k))) (ne_eqb (c.bag (c.head k)) q (λ z. e (sym (v.named s) ∙ z))) (ap m (v.named s) ∙ f)

    pub moved : Moved c (record { forest = g; bag = upd c.bag r q; head = upd c.head q r }) n q m
    moved = record {
      grown = M.grown;
      bags = bags_moved;
      numbered = λ x s l h. ⊎_elim (λ e. let b = upd_same c.bag r q x e in omega arith) (λ e. let b = upd_other c.bag r q x e in omega arith) (cases_eq x r);
      heads = heads_moved;
      live = live_moved;
      filled = λ k s. let t = M.some in ⊎_elim (λ e. let h = upd_same c.head q r k e in omega arith) (λ e. let h = upd_other c.head q r k e in omega arith) (cases_eq k q);
    }
