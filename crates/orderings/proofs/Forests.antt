-- Forests linked by rank: the search for a root ends in time, and what a new element and a link change.
use Rattle.std.proofs.Common.{◌≡◌, ℕ, zero, suc, ◌+◌, ◌^◌, ◌<◌, ◌≤◌, cond, eqb, ◌≢◌, ◌⊎◌, sym, refl, ap, ◌∙◌, subst, inl, inr, ⊎_elim, arith, pow_pos, pow_mono}
use native.Mathlib.Nat.{two-pow-succ}
use Rattle.std.proofs.lemmas.Bool.{eq-eqb, ne_eqb, lt-ltb, le-ltb, cases_eq, cases_lt}
use Rattle.std.proofs.lemmas.Bool.Decides.{nat_tests}
use Rattle.orderings.specs.Forest.{Forest, climb, root, upd, winner, under, risen, linked, weight, total, Grown, Shallow}
use Rattle.orderings.proofs.Sums.{upd_same, upd_other, total_same, one_le_total, two_le_total, total_falls, weight_top, weight_low, weight_same}
use Rattle.orderings.proofs.Climbs.{climb_top, climb_up, climbs, kept_steps, one_more, Way, way}

-- forests that agree below n
pub record Agree (f g : Forest) (n : ℕ) : Type 0 where
  pub parents : (x : ℕ) → x < n → g.parent x ≡ f.parent x
  pub ranks : (x : ℕ) → x < n → g.rank x ≡ f.rank x

pub root_self : (f : Forest) (x : ℕ) → f.parent x ≡ x → root f x ≡ x
root_self f x top = climb_top f.parent 16 x top

pub grown_main : (f : Forest) → f.parent 0 ≡ 0 → f.rank 0 ≡ 0 → Grown f 1
grown_main f p r =
    record {
      inside = λ x l. let e : x ≡ 0 = omega arith in rw (e, p) (omega arith);
      none = p;
      some = λ x s l. absurd (omega arith);
      rises = λ x l other. let e : x ≡ 0 = omega arith in absurd (other (rw (e, p)));
      few = let one : weight f 0 ≡ 1 = rw (p, r) in omega arith;
    }

-- what holds below n and at n
below : (P : ℕ → Type 0) (n : ℕ) → ((x : ℕ) → x < n → P x) → P n → (x : ℕ) → x < suc n → P x
below P n old new x l = ⊎_elim (λ h. old x h) (λ h. let e : n ≡ x = omega arith in subst P e new) (cases_lt x n)

module _ (f g : Forest) (n : ℕ) where
  pub grown_more : 0 < n → Grown f n → Agree f g n → g.parent n ≡ n → g.rank n ≡ 0 → Grown g (suc n)
  grown_more pos G A p r =
      record {
        inside = below (λ x. g.parent x < suc n) n (λ x l. omega (arith, G.inside x l, A.parents x l)) (omega arith);
        none = A.parents 0 pos ∙ G.none;
        some = λ x s l. below (λ x. 0 < x → 0 < g.parent x) n (λ x l s. rw (A.parents x l) (G.some x s l)) (λ s. rw p s) x l s;
        rises = below (λ x. g.parent x ≢ x → g.rank x < g.rank (g.parent x)) n
            (λ x l other. let e = A.parents x l in
            rw (e, A.ranks x l, A.ranks (f.parent x) (G.inside x l)) (G.rises x l (λ top. other (e ∙ top))))
            (λ other. absurd (other p));
        few = let one : weight g n ≡ 1 = weight_top g n p ∙ rw r in
            let others = total_same (weight f) (weight g) n (λ x l. weight_same f g x (A.parents x l) (A.ranks x l)) in
            let few = G.few in omega arith;
      }

  climb_agree : Grown f n → Agree f g n → (j x : ℕ) → x < n → climb g.parent j x ≡ climb f.parent j x
  unfolding climb
  climb_agree G A zero x l = refl
  climb_agree G A (suc j) x l =
      let same = A.parents x l in
      ⊎_elim
      (λ top. climb_top g.parent (suc j) x (same ∙ top) ∙ sym (climb_top f.parent (suc j) x top))
      (λ other. climb_up g.parent j x (λ e. other (sym same ∙ e)) ∙ ap (climb g.parent j) same
      ∙ climb_agree G A j (f.parent x) (G.inside x l) ∙ sym (climb_up f.parent j x other))
      (cases_eq (f.parent x) x)

  pub root_agree : Grown f n → Agree f g n → (x : ℕ) → x < n → root g x ≡ root f x
  root_agree G A x l = climb_agree G A 16 x l

power_below : (i j : ℕ) → 2 ^ i < 2 ^ j → i < j
power_below i j less = ⊎_elim (λ h. h) (λ h. let more = pow_mono h in absurd (omega arith)) (cases_lt i j)

module _ (f : Forest) (n : ℕ) (G : Grown f n) (small : n ≤ 65536) where
  top_light : (r : ℕ) → r < n → f.parent r ≡ r → 2 ^ f.rank r ≤ n
  top_light r l top = omega (arith, one_le_total (weight f) n r l, weight_top f r top, G.few)

  -- 0 is a root too, so another one weighs less than n
  top_low : (r : ℕ) → 0 < r → r < n → f.parent r ≡ r → f.rank r < 16
  top_low r pos l top =
      let both = two_le_total n r 0 l (omega arith) (omega arith) (weight f) in
      let mine = weight_top f r top in
      let other = weight_top f 0 G.none in
      let one = pow_pos (f.rank 0) in
      let few = G.few in
      power_below (f.rank r) 16 (omega arith)

  way_up : (x : ℕ) → x < n → Way f n x (root f x)
  way_up x l =
      let w = way f n G (suc (total f.rank n)) x l (omega arith) in
      let light = top_light w.0 w.1.inside w.1.top in
      let low = power_below (f.rank w.0) 17 (omega arith) in
      let high = w.1.high in
      let is : root f x ≡ w.0 = climbs w.1.steps w.1.top 16 (omega arith) in
      rw is w.1

  pub root_top : (x : ℕ) → x < n → f.parent (root f x) ≡ root f x
  root_top x l = (way_up x l).top

  pub root_inside : (x : ℕ) → x < n → root f x < n
  root_inside x l = (way_up x l).inside

  pub root_some : (x : ℕ) → 0 < x → x < n → 0 < root f x
  root_some x pos l = (way_up x l).some pos

  pub rank_low : (x : ℕ) → 0 < x → x < n → f.rank x < 16
  rank_low x pos l =
      let high = (way_up x l).high in
      let low = top_low (root f x) (root_some x pos l) (root_inside x l) (root_top x l) in
      omega arith

  pub shallow : Shallow f n
  shallow x l =
      let w = way_up x l in
      let light = top_light (root f x) w.inside w.top in
      let high = w.high in
      let le : w.count ≤ f.rank (root f x) = omega arith in
      let power = pow_mono le in
      (w.count, omega arith, w.steps)

-- g is f with the root l put under the root w, whose rank may rise
record Links (f g : Forest) (l w : ℕ) : Type 0 where
  l_some : 0 < l
  w_some : 0 < w
  l_top : f.parent l ≡ l
  w_top : f.parent w ≡ w
  apart : l ≢ w
  parents : g.parent ≡ upd f.parent l w
  ranks : (x : ℕ) → x ≢ w → g.rank x ≡ f.rank x
  above : f.rank l < g.rank w
  keeps : f.rank w ≤ g.rank w
  light : 2 ^ g.rank w ≤ 2 ^ f.rank l + 2 ^ f.rank w

module _ (f g : Forest) (l w : ℕ) (K : Links f g l w) where
  to_winner : (x : ℕ) → x ≡ l → g.parent x ≡ w
  to_winner x e = rw K.parents (upd_same f.parent l w x e)

  as_before : (x : ℕ) → x ≢ l → g.parent x ≡ f.parent x
  as_before x e = rw K.parents (upd_other f.parent l w x e)

  winner_stays : g.parent w ≡ w
  winner_stays = as_before w (λ e. K.apart (sym e)) ∙ K.w_top

  rank_grows : (x : ℕ) → f.rank x ≤ g.rank x
  rank_grows x = ⊎_elim (λ e. rw e K.keeps) (λ e. omega (arith, K.ranks x e)) (cases_eq x w)

  module _ (n : ℕ) (G : Grown f n) (l-in : l < n) (w-in : w < n) where
    links_rises : (x : ℕ) → x < n → g.parent x ≢ x → g.rank x < g.rank (g.parent x)
    links_rises x h other =
        ⊎_elim
        (λ e. let same = K.ranks x (λ q. K.apart (sym e ∙ q)) in
        let was = ap f.rank e in
        rw (to_winner x e) (omega (arith, K.above)))
        (λ e. let at = as_before x e in
        let was : f.parent x ≢ x = λ top. other (at ∙ top) in
        let same = K.ranks x (λ q. was (rw q K.w_top)) in
        let rise = G.rises x h was in
        let more = rank_grows (f.parent x) in
        rw at (omega arith))
        (cases_eq x l)

    links_few : total (weight g) n ≤ n
    links_few =
        let others : (x : ℕ) → x ≢ l → x ≢ w → weight g x ≡ weight f x = λ x e d. weight_same f g x (as_before x e) (K.ranks x d) in
        let l-now = weight_low g l (λ e. K.apart (sym e ∙ to_winner l refl)) in
        let w-now = weight_top g w winner_stays in
        let l-was = weight_top f l K.l_top in
        let w-was = weight_top f w K.w_top in
        let light = K.light in
        let falls = total_falls n l w l-in w-in K.apart (weight f) (weight g) others (omega arith) in
        omega (arith, G.few)

    links_grown : Grown g n
    links_grown =
        record {
          inside = λ x h. ⊎_elim (λ e. rw (to_winner x e) w-in) (λ e. rw (as_before x e) (G.inside x h)) (cases_eq x l);
          none = as_before 0 (omega (arith, K.l_some)) ∙ G.none;
          some = λ x s h. ⊎_elim (λ e. rw (to_winner x e) K.w_some) (λ e. rw (as_before x e) (G.some x s h)) (cases_eq x l);
          rises = links_rises;
          few = links_few;
        }

    links_root : n ≤ 65536 → (x : ℕ) → 0 < x → x < n → root g x ≡ upd (λ r. r) l w (root f x)
    links_root small x pos h =
        let v = way_up f n G small x h in
        let r = root f x in
        let low = top_low f n G small r (v.some pos) v.inside v.top in
        let high = v.high in
        let moved = kept_steps {g = g} (λ z other. as_before z (λ e. other (rw e K.l_top))) v.steps in
        ⊎_elim
        (λ e. let at = to_winner r e in
        let last = one_more moved (λ q. K.apart (sym e ∙ sym q ∙ at)) in
        climbs (rw at at last) winner_stays 16 (omega arith) ∙ sym (upd_same (λ r. r) l w r e))
        (λ e. climbs moved (as_before r e ∙ v.top) 16 (omega arith) ∙ sym (upd_other (λ r. r) l w r e))
        (cases_eq r l)

  links_tops : (x : ℕ) → g.parent x ≡ x → (f.parent x ≡ x) × (x ≢ l)
  links_tops x top =
      let no : x ≢ l = λ e. K.apart (sym e ∙ sym top ∙ to_winner x e) in
      (sym (as_before x no) ∙ top, no)

or_else : {P : Type 0} (x y : ℕ) → (x ≢ y → P) → (x ≡ y) ⊎ P
or_else x y p = ⊎_elim inl (λ e. inr (p e)) (cases_eq x y)

module _ (f : Forest) (n : ℕ) (G : Grown f n) (small : n ≤ 65536) where
  module _ (a b : ℕ) (la : a < n) (lb : b < n) (ta : f.parent a ≡ a) (tb : f.parent b ≡ b) (apart : a ≡ b → a ≡ 0) where
    under_links : 0 < a → 0 < b → f.rank a < f.rank b → Links f (under f a b) a b
    under_links pa pb less =
        record {
          l_some = pa;
          w_some = pb;
          l_top = ta;
          w_top = tb;
          apart = λ e. omega (arith, apart e);
          parents = refl;
          ranks = λ x e. refl;
          above = less;
          keeps = omega arith;
          light = omega arith;
        }

    risen_links : 0 < a → 0 < b → f.rank b ≤ f.rank a → Links f (risen f a b) b a
    risen_links pa pb le =
        record {
          l_some = pb;
          w_some = pa;
          l_top = tb;
          w_top = ta;
          apart = λ e. omega (arith, apart (sym e));
          parents = refl;
          ranks = λ x e. grind (arith, nat_tests);
          above = grind (arith, nat_tests);
          keeps = grind (arith, nat_tests);
          light = grind (arith, nat_tests, two-pow-succ (f.rank a));
        }

    -- what holds of every link: nothing is linked, or one of the two is put under the other
    by_link : (P : Forest → ℕ → Type 0) → (a ≡ 0 → P f b) → (b ≡ 0 → P f a)
        → ((g : Forest) → Links f g a b → P g b) → ((g : Forest) → Links f g b a → P g a) → P (linked f a b) (winner f a b)
    by_link P no-a no-b low high =
        ⊎_elim
        (λ e. rw (eq-eqb a 0 e) (no-a e))
        (λ na. let pa : 0 < a = omega arith in
        ⊎_elim
        (λ e. rw (ne_eqb a 0 na, eq-eqb b 0 e) (no-b e))
        (λ nb. let pb : 0 < b = omega arith in
        ⊎_elim
        (λ less. rw (ne_eqb a 0 na, ne_eqb b 0 nb, lt-ltb (f.rank a) (f.rank b) less) (low (under f a b) (under_links pa pb less)))
        (λ le. rw (ne_eqb a 0 na, ne_eqb b 0 nb, le-ltb (f.rank a) (f.rank b) le) (high (risen f a b) (risen_links pa pb le)))
        (cases_lt (f.rank a) (f.rank b)))
        (cases_eq b 0))
        (cases_eq a 0)

    pub winner_inside : winner f a b < n
    winner_inside = grind (arith, nat_tests)

    pub winner_is : (winner f a b ≡ a) ⊎ (winner f a b ≡ b)
    winner_is = grind (arith, nat_tests)

    pub winner_top : (linked f a b).parent (winner f a b) ≡ winner f a b
    winner_top = by_link (λ g w. g.parent w ≡ w) (λ e. tb) (λ e. ta) (λ g K. winner_stays f g a b K) (λ g K. winner_stays f g b a K)

    pub linked_grown : Grown (linked f a b) n
    linked_grown =
        by_link (λ g w. Grown g n) (λ e. G) (λ e. G)
        (λ g K. links_grown f g a b K n G la lb)
        (λ g K. links_grown f g b a K n G lb la)

    pub linked_root : (x : ℕ) → 0 < x → x < n
        → root (linked f a b) x ≡ cond (eqb (root f x) a) (winner f a b) (cond (eqb (root f x) b) (winner f a b) (root f x))
    linked_root x pos h =
        let some = root_some f n G small x pos h in
        by_link
        (λ g w. root g x ≡ cond (eqb (root f x) a) w (cond (eqb (root f x) b) w (root f x)))
        (λ e. grind (arith, nat_tests))
        (λ e. grind (arith, nat_tests))
        (λ g K. links_root f g a b K n G la lb small x pos h ∙ grind (arith, nat_tests))
        (λ g K. links_root f g b a K n G lb la small x pos h ∙ grind (arith, nat_tests))

    -- a root of the linked forest was one before; it is the winner or none of the two
    pub linked_tops : (x : ℕ) → 0 < x → x < n → (linked f a b).parent x ≡ x
        → (f.parent x ≡ x) × ((x ≡ winner f a b) ⊎ ((x ≢ a) × (x ≢ b)))
    linked_tops x pos h =
        by_link
        (λ g w. g.parent x ≡ x → (f.parent x ≡ x) × ((x ≡ w) ⊎ ((x ≢ a) × (x ≢ b))))
        (λ e top. (top, or_else x b (λ no. (omega arith, no))))
        (λ e top. (top, or_else x a (λ no. (no, omega arith))))
        (λ g K top. let was = links_tops f g a b K x top in (was.0, or_else x b (λ no. (was.1, no))))
        (λ g K top. let was = links_tops f g b a K x top in (was.0, or_else x a (λ no. (no, was.1))))
