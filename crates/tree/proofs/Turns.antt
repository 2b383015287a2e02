-- A search up the tree ends within three times log2 n turns: its jumps grow at most log2 n times, then every two turns halve them.
use Rattle.std.proofs.Common.{◌≡◌, ℕ, zero, suc, ◌+◌, ◌-◌, ◌*◌, ◌^◌, ◌<◌, ◌≤◌, true, false, cond, ◌≢◌, sym, refl, ap, ◌∙◌, subst, ⊎_elim, pow-suc, arith, pow_pos, pow_mono}
use native.Mathlib.Nat.{pow-zero}
use lib.Pow.{pow-lt}
use Rattle.std.proofs.lemmas.Bool.{cases_eq, cases_lt, cases_Bool, cond-true, cond-false}
use Rattle.orderings.specs.Store.{Frames, chain}
use Rattle.orderings.specs.Sound.{Framed}
use Rattle.tree.specs.Ancestors.{on, side}
use Rattle.tree.specs.Nodes.{Marks, leap, Marked, Turns, ends, jumps, climbs}
use Rattle.tree.proofs.Ancestors.{true_false}
use Rattle.tree.specs.Chains.{main_open}
use Rattle.tree.proofs.Sides.{closed_not_main, side_here, side_up, side_above}
use Rattle.tree.proofs.Jumps.{Longer, leads, hop, long}

module _ (fr : Frames) (m : Marks) where
  -- the search from x ends within k turns
  abbrev Ends : ℕ → ℕ → Type 0
  Ends k x = (j : ℕ) × (j ≤ k) × (b : ℕ) × Turns fr m j x b

  more : (f g x : ℕ) → f ≤ g → Ends f x → Ends g x
  more f g x l e = let low = e.1 in (e.0, omega arith, e.2, e.3)

  at_once : (k x : ℕ) → 0 < k → m.live (fr.outward x) ≡ true → Ends k x
  at_once k x l o = (1, omega arith, x, ends o)

  by_jump : (k x : ℕ) → m.live (m.jump x) ≡ false → Ends k (m.jump x) → Ends (suc k) x
  by_jump k x c e =
      let low = e.1 in
      ⊎_elim (at_once (suc k) x (omega arith)) (λ o. (suc e.0, omega arith, e.2, jumps o c e.3)) (cases_Bool (m.live (fr.outward x)))

  by_parent : (k x : ℕ) → m.live (m.jump x) ≡ true → Ends k (fr.outward x) → Ends (suc k) x
  by_parent k x c e =
      let low = e.1 in
      ⊎_elim (at_once (suc k) x (omega arith)) (λ o. (suc e.0, omega arith, e.2, climbs o c e.3)) (cases_Bool (m.live (fr.outward x)))

  -- where a search goes on
  abbrev pub next : ℕ → ℕ
  next x = cond (m.live (m.jump x)) (fr.outward x) (m.jump x)

  pub ended : (k x b : ℕ) → Turns fr m k x b → m.live (fr.outward x) ≡ true → b ≡ x
  ended k x b (ends o) _ = refl
  ended k x b (jumps c d t) o = absurd (true_false _ o c)
  ended k x b (climbs c d t) o = absurd (true_false _ o c)

  pub turned : (k x b : ℕ) → Turns fr m k x b → m.live (fr.outward x) ≡ false → (j : ℕ) × (suc j ≡ k) × Turns fr m j (next x) b
  turned k x b (ends o) c = absurd (true_false _ o c)
  turned k x b (jumps {k = j} _ d t) c = (j, refl, subst (λ (i : ℕ). Turns fr m j i b) (sym (cond-false (m.live (m.jump x)) _ _ d)) t)
  turned k x b (climbs {k = j} _ d t) c = (j, refl, subst (λ (i : ℕ). Turns fr m j i b) (sym (cond-true (m.live (m.jump x)) _ _ d)) t)

  pub some_turn : (k x b : ℕ) → Turns fr m k x b → 0 < k
  some_turn k x b (ends o) = omega arith
  some_turn k x b (jumps c d t) = omega arith
  some_turn k x b (climbs c d t) = omega arith

module _ (fr : Frames) (m : Marks) (n y : ℕ) (w : Framed fr n) (inside : y < n) (om : Marked fr m n y) (R : ℕ) (few : n ≤ 2 ^ R) where
  main : m.live 0 ≡ true
  main = om.lives 0 (omega arith) ∙ main_open fr.outward n w.inward y inside

  not_main : (x : ℕ) → m.live x ≡ false → x ≢ 0
  not_main x c e = true_false _ main (ap m.live (sym e) ∙ c)

  -- the jump is too long: every two turns halve it
  halves : (r x : ℕ) → x < n → m.live x ≡ false → m.live (m.jump x) ≡ true → leap m x + 1 ≡ 2 ^ suc r → Ends fr m (2 * r + 1) x
  halves zero x l c o e =
      let q = not_main x c in
      let low = w.inward x l q in
      let lp = long fr m n y w om (fr.outward x) (omega arith) in
      let ps = pow-suc 2 0 in
      let pz = pow-zero 2 in
      ⊎_elim
      (λ h. let len = h.2 in
      let top : fr.outward x ≡ 0 = ⊎_elim (λ z. z) (λ z. let s = lp.some z in absurd (omega arith)) (cases_eq (fr.outward x) 0) in
      at_once fr m 1 x (omega arith) (ap m.live top ∙ main))
      (λ h. at_once fr m 1 x (omega arith) (ap m.live (sym h.1) ∙ o))
      (hop fr m n y w om x l q)
  halves (suc r) x l c o e =
      let q = not_main x c in
      let p = fr.outward x in
      let low = w.inward x l q in
      let jump_low = (leads fr m n y w om p (omega arith)).low in
      let ps = pow-suc 2 (suc r) in
      let pt = pow-suc 2 r in
      let pp = pow_pos r in
      ⊎_elim
      (λ h. let even = h.0 in
      let len = h.2 in
      ⊎_elim
      (at_once fr m (2 * suc r + 1) x (omega arith))
      (λ cp. more fr m (suc (suc (2 * r + 1))) (2 * suc r + 1) x (omega arith) (by_parent fr m (suc (2 * r + 1)) x o
      (⊎_elim
      (λ oj. more fr m (2 * r + 1) (suc (2 * r + 1)) p (omega arith) (halves r p (omega arith) cp oj (omega arith)))
      (λ cj. by_jump fr m (2 * r + 1) p cj (halves r (m.jump p) (omega arith) cj (ap m.live (sym h.1) ∙ o) (omega arith)))
      (cases_Bool (m.live (m.jump p))))))
      (cases_Bool (m.live p)))
      (λ h. let len = h.2 in absurd (omega arith))
      (hop fr m n y w om x l q)

  low_power : (r x : ℕ) → x < n → leap m x + 1 ≡ 2 ^ r → r ≤ R
  low_power r x l e = let s = (leads fr m n y w om x l).shallow in ⊎_elim (λ v. let p = pow-lt {i = R} {j = r} v in absurd (omega arith)) (λ v. v) (cases_lt R r)

  shrinks : (r x g : ℕ) → x < n → m.live x ≡ false → m.live (m.jump x) ≡ true → leap m x + 1 ≡ 2 ^ r → 2 * R ≤ g + 1 → Ends fr m g x
  shrinks zero x g l c o e t = let s = (long fr m n y w om x l).some (not_main x c) in let z = pow-zero 2 in absurd (omega arith)
  shrinks (suc r) x g l c o e t = let low = low_power (suc r) x l e in more fr m (2 * r + 1) g x (omega arith) (halves r x l c o e)

  -- the jump after that of x is longer, and has a greater power
  greater : (r x : ℕ) → x < n → m.live (m.jump x) ≡ false → Longer m x → leap m x + 1 ≡ 2 ^ r → (k : ℕ) × (leap m (m.jump x) + 1 ≡ 2 ^ k) × (r < k) × (k ≤ R)
  greater r x l o s e =
      let low = (leads fr m n y w om x l).low in
      let power = (long fr m n y w om (m.jump x) (omega arith)).power in
      let k = power.0 in
      let is = power.1 in
      ⊎_elim
      (λ z. absurd (not_main (m.jump x) o z))
      (λ z. (k, is, ⊎_elim (λ v. v) (λ v. let p = pow_mono {i = k} {j = r} v in absurd (omega arith)) (cases_lt r k), low_power k (m.jump x) (omega arith) is))
      s

  -- the jumps grow until one is too long
  grows : (f r x g : ℕ) → x < n → m.live x ≡ false → Longer m x → leap m x + 1 ≡ 2 ^ r → R ≤ r + f → f + 2 * R ≤ g + 1 → Ends fr m g x
  grows zero r x g l c s e b t =
      ⊎_elim
      (λ o. shrinks r x g l c o e (omega arith))
      (λ o. let k = greater r x l o s e in let up = k.2 in let most = k.3 in absurd (omega arith))
      (cases_Bool (m.live (m.jump x)))
  grows (suc f) r x g l c s e b t =
      let low = (leads fr m n y w om x l).low in
      ⊎_elim
      (λ o. shrinks r x g l c o e (omega arith))
      (λ o. let k = greater r x l o s e in
      let up = k.2 in
      let most = k.3 in
      more fr m (suc (g - 1)) g x (omega arith)
      (by_jump fr m (g - 1) x o (grows f k.0 (m.jump x) (g - 1) (omega arith) o (long fr m n y w om x l).next k.1 (omega arith) (omega arith))))
      (cases_Bool (m.live (m.jump x)))

  -- any search from a closed scope
  pub enough : (x : ℕ) → x < n → m.live x ≡ false → Ends fr m (3 * R) x
  enough x l c =
      let low = (leads fr m n y w om x l).low in
      let lx = long fr m n y w om x l in
      ⊎_elim
      (λ o. shrinks lx.power.0 x (3 * R) l c o lx.power.1 (omega arith))
      (λ o. let lj = long fr m n y w om (m.jump x) (omega arith) in
      let k = lj.power.0 in
      let is = lj.power.1 in
      let some = lj.some (not_main (m.jump x) o) in
      let pz = pow-zero 2 in
      let one : 0 < k = ⊎_elim (λ v. v) (λ v. let p = pow_mono {i = k} {j = 0} v in absurd (omega arith)) (cases_lt 0 k) in
      let most = low_power k (m.jump x) (omega arith) is in
      more fr m (suc (3 * R - 1)) (3 * R) x (omega arith) (by_jump fr m (3 * R - 1) x o (grows (R - 1) k (m.jump x) (3 * R - 1) (omega arith) o lx.next is (omega arith) (omega arith))))
      (cases_Bool (m.live (m.jump x)))

-- and it ends at the child on the side of x
pub turns_side : (fr : Frames) (m : Marks) (n y : ℕ) → Framed fr n → y < n → Marked fr m n y → (k x b : ℕ) → Turns fr m k x b → x < n → on (chain fr.outward n y) x ≡ false → b ≡ side fr.outward n y x
turns_side fr m n y w inside om k x b (ends o) l c =
    let low = w.inward x l (closed_not_main fr.outward n w.inward y inside x c) in
    sym (side_here fr.outward n w.inward y inside x l c (sym (om.lives (fr.outward x) (omega arith)) ∙ o))
turns_side fr m n y w inside om k x b (jumps _ d t) l c =
    let to = leads fr m n y w om x l in
    let low = to.low in
    let shut = sym (om.lives (m.jump x) (omega arith)) ∙ d in
    turns_side fr m n y w inside om _ (m.jump x) b t (omega arith) shut ∙ sym (side_above fr.outward n w.inward y inside (m.jump x) x l shut to.above)
turns_side fr m n y w inside om k x b (climbs o _ t) l c =
    let low = w.inward x l (closed_not_main fr.outward n w.inward y inside x c) in
    let shut = sym (om.lives (fr.outward x) (omega arith)) ∙ o in
    turns_side fr m n y w inside om _ (fr.outward x) b t (omega arith) shut ∙ sym (side_up fr.outward n w.inward y inside x l c shut)
