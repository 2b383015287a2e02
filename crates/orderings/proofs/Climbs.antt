-- The way up from an element to its root.
use Rattle.std.proofs.Common.{◌≡◌, ℕ, zero, suc, ◌+◌, ◌<◌, ◌≤◌, ◌≢◌, sym, refl, ◌∙◌, ⊎_elim, arith}
use Rattle.std.proofs.lemmas.Bool.{eq-eqb, ne_eqb, cases_eq}
use Rattle.orderings.specs.Forest.{Forest, climb, total, Grown, Steps, here, up}
use Rattle.orderings.proofs.Sums.{one_le_total}

pub climb_top : (p : ℕ → ℕ) (j x : ℕ) → p x ≡ x → climb p j x ≡ x
unfolding climb
climb_top p zero x e = refl
climb_top p (suc j) x e = rw (eq-eqb (p x) x e, climb)

pub climb_up : (p : ℕ → ℕ) (j x : ℕ) → p x ≢ x → climb p (suc j) x ≡ climb p j (p x)
unfolding climb
climb_up p j x e = rw (ne_eqb (p x) x e, climb)

-- a root that is k steps up is found with k steps or more
pub climbs : {f : Forest} {k x r : ℕ} → Steps f k x r → f.parent r ≡ r → (j : ℕ) → k ≤ j → climb f.parent j x ≡ r
climbs {f} {k} {x} here top j le = climb_top f.parent j x top
climbs (up other s) top zero le = absurd (omega arith)
climbs {f} {k} {x} (up other s) top (suc j) le = climb_up f.parent j x other ∙ climbs s top j (omega arith)

-- steps through elements that keep their parents
pub kept_steps : {f g : Forest} {k x y : ℕ} → ((z : ℕ) → f.parent z ≢ z → g.parent z ≡ f.parent z) → Steps f k x y → Steps g k x y
kept_steps keeps here = here
kept_steps {f} {g} {k} {x} keeps (up other s) =
    let same = keeps x other in
    up (λ e. other (sym same ∙ e)) (rw same (kept_steps keeps s))

pub one_more : {f : Forest} {k x y : ℕ} → Steps f k x y → f.parent y ≢ y → Steps f (suc k) x (f.parent y)
one_more here other = up other here
one_more (up first s) other = up first (one_more s other)

-- the way from x up to the root r
pub record Way (f : Forest) (n x r : ℕ) : Type 0 where
  pub count : ℕ
  pub steps : Steps f count x r
  pub top : f.parent r ≡ r
  pub inside : r < n
  pub some : 0 < x → 0 < r
  pub high : f.rank x + count ≤ f.rank r

-- ranks rise along it, and none is above the sum of all
pub way : (f : Forest) (n : ℕ) → Grown f n → (j x : ℕ) → x < n → total f.rank n < j + f.rank x → (r : ℕ) × Way f n x r
way f n G zero x l h = let low = one_le_total f.rank n x l in absurd (omega arith)
way f n G (suc j) x l h =
    ⊎_elim
    (λ top. (x, record { count = 0; steps = here; top = top; inside = l; some = λ s. s; high = omega arith }))
    (λ other.
    let rise = G.rises x l other in
    let w = way f n G j (f.parent x) (G.inside x l) (omega arith) in (
      w.0,
      record {
        count = suc w.1.count;
        steps = up other w.1.steps;
        top = w.1.top;
        inside = w.1.inside;
        some = λ s. w.1.some (G.some x s l);
        high = let high = w.1.high in omega arith;
      },
    ))
    (cases_eq (f.parent x) x)
