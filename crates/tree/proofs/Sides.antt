-- The child on the side of a closed scope: it is found by climbing, and is the only one.
use Rattle.std.proofs.Common.{◌≡◌, ℕ, zero, suc, ◌<◌, true, false, ◌≢◌, ◌⊎◌, List, ◌∷◌, sym, refl, ap, ◌∙◌, subst, inl, inr, ⊎_elim, arith}
use Rattle.std.proofs.lemmas.Bool.{cases_eq, cases_Bool, cond-true, cond-false}
use Rattle.orderings.specs.Store.{chain}
use Rattle.tree.specs.Ancestors.{Above, itself, further, ChildTowards, on, last_off, side}
use Rattle.orderings.proofs.Chains.{chain_first, chain_split}
use Rattle.tree.specs.Chains.{on_self, on_down, above_on, main_open}
use Rattle.tree.proofs.Ancestors.{true_false, not_true, on_above, above_low, above_trans, above_parent, above_both}

-- the scopes on the chain of y are open
module _ (up : ℕ → ℕ) (n : ℕ) (inward : (s : ℕ) → s < n → s ≢ 0 → up s < s) (y : ℕ) (inside : y < n) where
  pub closed_not_main : (x : ℕ) → on (chain up n y) x ≡ false → x ≢ 0
  closed_not_main x c e = true_false _ (main_open up n inward y inside) (ap (on (chain up n y)) (sym e) ∙ c)

  pub open_upward : (a b : ℕ) → on (chain up n y) a ≡ true → Above up b a → on (chain up n y) b ≡ true
  open_upward a b o w = above_on up n inward b y inside (above_trans up b a y w (on_above up n inward n a y inside inside o))

  pub closed_below : (j x : ℕ) → on (chain up n y) j ≡ false → Above up j x → on (chain up n y) x ≡ false
  closed_below j x c w = not_true _ (λ o. true_false _ (open_upward x j o w) c)

  module _ (x : ℕ) (l : x < n) (c : on (chain up n y) x ≡ false) where
    below : up x < n
    below = let d = inward x l (closed_not_main x c) in omega arith

    split : (os : List ℕ) × (chain up n x ≡ x ∷ up x ∷ os) × (chain up n (up x) ≡ up x ∷ os)
    split =
        let rest = chain_first up n inward n (up x) below in
        (rest.0, chain_split up n inward n x l l (closed_not_main x c) ∙ ap (λ (ss : List ℕ). x ∷ ss) rest.1, rest.1)

    -- the parent is open: this is the side
    pub side_here : on (chain up n y) (up x) ≡ true → side up n y x ≡ x
    side_here o =
        let ys : List ℕ = chain up n y in
        ap (λ (ss : List ℕ). last_off x ss ys) split.1 ∙ cond-false (on ys x) _ _ c ∙ cond-true (on ys (up x)) _ _ o

    -- it is closed: it has the same side
    pub side_up : on (chain up n y) (up x) ≡ false → side up n y x ≡ side up n y (up x)
    side_up o =
        let ys : List ℕ = chain up n y in
        ap (λ (ss : List ℕ). last_off x ss ys) split.1 ∙ cond-false (on ys x) _ _ c ∙ cond-false (on ys (up x)) _ _ o
        ∙ sym (ap (λ (ss : List ℕ). last_off (up x) ss ys) split.2 ∙ cond-false (on ys (up x)) _ _ o)

  -- a closed scope further up has the same side too
  pub side_above : (j x : ℕ) → x < n → on (chain up n y) j ≡ false → Above up j x → side up n y x ≡ side up n y j
  side_above j x l c itself = refl
  side_above j x l c (further q w) =
      let d = inward x l q in
      side_up x l (closed_below j x c (further q w)) (closed_below j (up x) c w) ∙ side_above j (up x) (omega arith) c w

  -- what a climb from x finds
  pub record Found (x b : ℕ) : Type 0 where
    pub shut : on (chain up n y) b ≡ false
    pub opens : on (chain up n y) (up b) ≡ true
    pub towards : Above up b x

  pub found : (f x : ℕ) → x < f → x < n → on (chain up n y) x ≡ false → Found x (side up n y x)
  found zero x t l c = absurd (omega arith)
  found (suc f) x t l c =
      let q = closed_not_main x c in
      let d = inward x l q in
      ⊎_elim
      (λ o. subst (Found x) (sym (side_here x l c o)) (record { shut = c; opens = o; towards = itself }))
      (λ o. let r = found f (up x) (omega arith) (omega arith) o in
      subst (Found x) (sym (side_up x l c o)) (record { shut = r.shut; opens = r.opens; towards = further q r.towards }))
      (cases_Bool (on (chain up n y) (up x)))

  pub child_found : (x b : ℕ) → Found x b → ChildTowards up x y b
  child_found x b r =
      let q = closed_not_main b r.shut in
      record {
        child = q;
        towards = r.towards;
        meets = record {
          above_x = above_trans up (up b) b x (further q itself) r.towards;
          above_y = on_above up n inward n (up b) y inside inside r.opens;
          least = λ a p o.
              let is = above_on up n inward a y inside o in
              ⊎_elim
              (λ w. above_parent up a b (λ e. true_false _ is (ap (on (chain up n y)) e ∙ r.shut)) w)
              (λ w. absurd (true_false _ (open_upward a b is w) r.shut))
              (above_both up b a x r.towards p);
        };
      }

  -- there is one such child
  pub one_child : (x b d : ℕ) → x < n → ChildTowards up x y b → ChildTowards up x y d → b ≡ d
  one_child x b d l p q =
      let lb = above_low up n inward b x l p.towards in
      let ld = above_low up n inward d x l q.towards in
      let ib = inward b (omega arith) p.child in
      let id = inward d (omega arith) q.child in
      let one = above_low up n inward (up b) (up d) (omega arith) (q.meets.least (up b) p.meets.above_x p.meets.above_y) in
      let two = above_low up n inward (up d) (up b) (omega arith) (p.meets.least (up d) q.meets.above_x q.meets.above_y) in
      ⊎_elim
      (λ w. lower b d (omega arith) (omega arith) w)
      (λ w. sym (lower d b (omega arith) (omega arith) w))
      (above_both up b d x p.towards q.towards)
    where
      -- a scope above b but not above its parent is b
      lower : (b d : ℕ) → up b < d → up b < n → Above up d b → b ≡ d
      lower b d low l w = ⊎_elim (λ e. sym e) (λ e. let r = above_low up n inward d (up b) l (above_parent up d b e w) in absurd (omega arith)) (cases_eq d b)

-- the innermost scope s closes: what hung below it hangs at it
module _ (up : ℕ → ℕ) (n : ℕ) (inward : (s : ℕ) → s < n → s ≢ 0 → up s < s) (s : ℕ) (inside : s < n) (q : s ≢ 0) where
  pub outer_inside : up s < n
  outer_inside = let d = inward s inside q in omega arith

  pub gone : on (chain up n (up s)) s ≡ false
  gone = not_true _ (λ o. let d = inward s inside q in let r = above_low up n inward s (up s) outer_inside (on_above up n inward n s (up s) outer_inside outer_inside o) in omega arith)

  pub side_gone : side up n (up s) s ≡ s
  side_gone = side_here up n inward (up s) outer_inside s inside gone (on_self up n inward (up s) outer_inside)

  -- the side of a closed scope hung at s and is now s, or it stays
  abbrev pub Shifts : ℕ → Type 0
  Shifts x = ((up (side up n s x) ≡ s) × (side up n (up s) x ≡ s)) ⊎ ((up (side up n s x) ≢ s) × (side up n (up s) x ≡ side up n s x))

  pub shifts : (f x : ℕ) → x < f → x < n → on (chain up n s) x ≡ false → Shifts x
  shifts zero x t l c = absurd (omega arith)
  shifts (suc f) x t l c =
      let ne : x ≢ s = λ e. true_false _ (on_self up n inward s inside) (ap (on (chain up n s)) (sym e) ∙ c) in
      let c' : on (chain up n (up s)) x ≡ false = sym (on_down up n inward s x inside q ne) ∙ c in
      let d = inward x l (closed_not_main up n inward s inside x c) in
      let here = side_here up n inward s inside x l c in
      let here' = side_here up n inward (up s) outer_inside x l c' in
      let on-up = side_up up n inward s inside x l c in
      let on-up' = side_up up n inward (up s) outer_inside x l c' in
      ⊎_elim
      (λ e. inl (ap up (here (ap (on (chain up n s)) e ∙ on_self up n inward s inside)) ∙ e, on-up' (ap (on (chain up n (up s))) e ∙ gone) ∙ ap (side up n (up s)) e ∙ side_gone))
      (λ e. let same : on (chain up n s) (up x) ≡ on (chain up n (up s)) (up x) = on_down up n inward s (up x) inside q e in
      ⊎_elim
      (λ o. inr ((λ z. e (sym (ap up (here o)) ∙ z)), here' (sym same ∙ o) ∙ sym (here o)))
      (λ o. ⊎_elim
      (λ r. inl (ap up (on-up o) ∙ r.0, on-up' (sym same ∙ o) ∙ r.1))
      (λ r. inr ((λ z. r.0 (sym (ap up (on-up o)) ∙ z)), on-up' (sym same ∙ o) ∙ r.1 ∙ sym (on-up o)))
      (shifts f (up x) (omega arith) (omega arith) o))
      (cases_Bool (on (chain up n s) (up x))))
      (cases_eq (up x) s)
