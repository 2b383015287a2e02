-- Functions changed at a point, their sums, and the weights of a forest.
use Rattle.std.proofs.Common.{◌≡◌, ℕ, zero, suc, ◌+◌, ◌^◌, ◌<◌, ◌≤◌, ◌≢◌, sym, refl, ap, ⊎_elim, arith}
use Rattle.std.proofs.lemmas.Bool.{eq-eqb, ne_eqb, cases_eq}
use Rattle.std.proofs.lemmas.Bool.Decides.{nat_tests}
use Rattle.orderings.specs.Forest.{Forest, upd, weight, total}

pub upd_same : (g : ℕ → ℕ) (i v y : ℕ) → y ≡ i → upd g i v y ≡ v
upd_same g i v y e = rw (eq-eqb y i e)

pub upd_other : (g : ℕ → ℕ) (i v y : ℕ) → y ≢ i → upd g i v y ≡ g y
upd_other g i v y e = rw (ne_eqb y i e)

pub total_same : (g h : ℕ → ℕ) (n : ℕ) → ((x : ℕ) → x < n → h x ≡ g x) → total h n ≡ total g n
total_same g h zero same = refl
total_same g h (suc n) same = rw (same n (omega arith), total_same g h n (λ x l. same x (omega arith)))

-- one summand taken out
total_out : (g : ℕ → ℕ) (n a : ℕ) → a < n → total g n ≡ g a + total (upd g a 0) n
total_out g zero a l = absurd (omega arith)
total_out g (suc n) a l =
    ⊎_elim
    (λ e. let none = upd_same g a 0 n (sym e) in
    let rest = total_same g (upd g a 0) n (λ x k. upd_other g a 0 x (omega arith)) in
    let here = ap g e in
    omega arith)
    (λ apart. let kept = upd_other g a 0 n (λ e. apart (sym e)) in let rest = total_out g n a (omega arith) in omega arith)
    (cases_eq a n)

-- the summands at two different points, and the others
module _ (n a b : ℕ) (la : a < n) (lb : b < n) (apart : a ≢ b) where
  rest : (ℕ → ℕ) → ℕ → ℕ
  rest g = upd (upd g a 0) b 0

  two_out : (g : ℕ → ℕ) → total g n ≡ g a + g b + total (rest g) n
  unfolding rest
  two_out g =
      let one = total_out g n a la in
      let other = total_out (upd g a 0) n b lb in
      let kept = upd_other g a 0 b (λ e. apart (sym e)) in
      omega arith

  pub two_le_total : (g : ℕ → ℕ) → g a + g b ≤ total g n
  two_le_total g = omega (arith, two_out g)

  -- where only these two change and their sum does not grow, no more does the whole
  pub total_falls : (g h : ℕ → ℕ) → ((x : ℕ) → x ≢ a → x ≢ b → h x ≡ g x) → h a + h b ≤ g a + g b → total h n ≤ total g n
  unfolding rest
  total_falls g h same less =
      let others : (x : ℕ) → x < n → rest h x ≡ rest g x = λ x l. grind (arith, nat_tests, same x) in
      omega (arith, two_out g, two_out h, total_same (rest g) (rest h) n others)

pub one_le_total : (g : ℕ → ℕ) (n a : ℕ) → a < n → g a ≤ total g n
one_le_total g n a l = omega (arith, total_out g n a l)

pub weight_top : (f : Forest) (x : ℕ) → f.parent x ≡ x → weight f x ≡ 2 ^ f.rank x
weight_top f x e = rw (eq-eqb (f.parent x) x e)

pub weight_low : (f : Forest) (x : ℕ) → f.parent x ≢ x → weight f x ≡ 0
weight_low f x e = rw (ne_eqb (f.parent x) x e)

pub weight_same : (f g : Forest) (x : ℕ) → g.parent x ≡ f.parent x → g.rank x ≡ f.rank x → weight g x ≡ weight f x
weight_same f g x p r = rw (p, r)
