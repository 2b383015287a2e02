-- Where jumps lead, and how far: the lengths of jumps are one less than powers of two, and grow upward.
use Rattle.std.proofs.Common.{◌≡◌, ℕ, zero, suc, ◌+◌, ◌*◌, ◌^◌, ◌<◌, ◌≤◌, eqb, ◌≢◌, ◌⊎◌, sym, ap, ◌∙◌, subst, inl, inr, ⊎_elim, pow-suc, arith, pow_mono}
use native.Mathlib.Nat.{pow-zero}
use Rattle.std.proofs.lemmas.Bool.{eq-eqb, ne_eqb, cases_eq, cases_lt, cond-true, cond-false}
use Rattle.orderings.specs.Store.{Frames}
use Rattle.orderings.specs.Sound.{Framed}
use Rattle.tree.specs.Ancestors.{Above, itself, further}
use Rattle.tree.specs.Nodes.{Marks, leap, jump_under, Marked}
use Rattle.tree.proofs.Ancestors.{above_trans}

-- what holds of a scope whenever it holds of the earlier ones holds of each
from_earlier : {P : ℕ → Type 0} (n : ℕ) → ((s : ℕ) → s < n → ((i : ℕ) → i < s → P i) → P s) → (s : ℕ) → s < n → P s
from_earlier {P} n step s l = go n s l l
  where
    go : (f s : ℕ) → s < f → s < n → P s
    go zero s t l = absurd (omega arith)
    go (suc f) s t l = step s l (λ i low. go f i (omega arith) (omega arith))

-- the jump of s leads up
pub record Leads (up : ℕ → ℕ) (m : Marks) (s : ℕ) : Type 0 where
  pub low : m.jump s ≤ s
  pub above : Above up (m.jump s) s
  pub rises : m.depth (m.jump s) ≤ m.depth s
  pub shallow : m.depth s ≤ s

-- a jump past two of one length, or to the parent p
pub jump_cases : (m : Marks) (p : ℕ) → ((leap m p ≡ leap m (m.jump p)) × (jump_under m p ≡ m.jump (m.jump p))) ⊎ ((leap m p ≢ leap m (m.jump p)) × (jump_under m p ≡ p))
jump_cases m p =
    ⊎_elim
    (λ e. inl (e, cond-true (eqb (leap m p) (leap m (m.jump p))) _ _ (eq-eqb _ _ e)))
    (λ e. inr (e, cond-false (eqb (leap m p) (leap m (m.jump p))) _ _ (ne_eqb _ _ e)))
    (cases_eq (leap m p) (leap m (m.jump p)))

-- the jump after a scope's is longer, or there is none
abbrev pub Longer : Marks → ℕ → Type 0
Longer m x = (m.jump x ≡ 0) ⊎ (leap m x < leap m (m.jump x))

-- the length of a jump
pub record Long (m : Marks) (x : ℕ) : Type 0 where
  pub power : (r : ℕ) × (leap m x + 1 ≡ 2 ^ r)
  pub some : x ≢ 0 → 0 < leap m x
  pub longer : (m.jump x ≡ 0) ⊎ (leap m x ≤ leap m (m.jump x))
  pub next : Longer m (m.jump x)

module _ (fr : Frames) (m : Marks) (n y : ℕ) (w : Framed fr n) (om : Marked fr m n y) where
  leads_main : (s : ℕ) → s ≡ 0 → Leads fr.outward m s
  leads_main s q =
      let j : m.jump s ≡ s = ap m.jump q ∙ om.main_jump ∙ sym q in
      let d : m.depth s ≡ 0 = ap m.depth q ∙ om.main_depth in
      let e = ap m.depth j in
      record { low = omega arith; above = subst (λ (k : ℕ). Above fr.outward k s) (sym j) itself; rises = omega arith; shallow = omega arith }

  leads_other : (s : ℕ) → s < n → s ≢ 0 → ((i : ℕ) → i < s → Leads fr.outward m i) → Leads fr.outward m s
  leads_other s l q earlier =
      let p = fr.outward s in
      let low = w.inward s l q in
      let one = earlier p low in
      let one-low = one.low in
      let two = earlier (m.jump p) (omega arith) in
      let d = om.deeper s l q in
      ⊎_elim
      (λ c. let j : m.jump s ≡ m.jump (m.jump p) = om.rule s l q ∙ c.1 in
      let e = ap m.depth j in
      record {
        low = omega arith;
        above = subst (λ (k : ℕ). Above fr.outward k s) (sym j) (further q (above_trans fr.outward _ (m.jump p) p two.above one.above));
        rises = omega arith;
        shallow = omega arith;
      })
      (λ c. let j : m.jump s ≡ p = om.rule s l q ∙ c.1 in
      let e = ap m.depth j in
      record { low = omega arith; above = subst (λ (k : ℕ). Above fr.outward k s) (sym j) (further q itself); rises = omega arith; shallow = omega arith })
      (jump_cases m p)

  pub leads : (s : ℕ) → s < n → Leads fr.outward m s
  leads = from_earlier {P = Leads fr.outward m} n (λ s l earlier. ⊎_elim (leads_main s) (λ q. leads_other s l q earlier) (cases_eq s 0))

  -- what the jump of x does to its length
  pub hop :
      (x : ℕ) → x < n → x ≢ 0
      → ((leap m (fr.outward x) ≡ leap m (m.jump (fr.outward x))) × (m.jump x ≡ m.jump (m.jump (fr.outward x))) × (leap m x ≡ 2 * leap m (fr.outward x) + 1))
      ⊎ ((leap m (fr.outward x) ≢ leap m (m.jump (fr.outward x))) × (m.jump x ≡ fr.outward x) × (leap m x ≡ 1))
  hop x l q =
      let p = fr.outward x in
      let low = w.inward x l q in
      let one = leads p (omega arith) in
      let one-low = one.low in
      let two = leads (m.jump p) (omega arith) in
      let d = om.deeper x l q in
      ⊎_elim
      (λ c. let j : m.jump x ≡ m.jump (m.jump p) = om.rule x l q ∙ c.1 in
      let e = ap m.depth j in
      let even = c.0 in
      inl (even, j, omega arith))
      (λ c. let j : m.jump x ≡ p = om.rule x l q ∙ c.1 in let e = ap m.depth j in inr (c.0, j, omega arith))
      (jump_cases m p)

  long_main : (x : ℕ) → x ≡ 0 → Long m x
  long_main x q =
      let j : m.jump x ≡ x = ap m.jump q ∙ om.main_jump ∙ sym q in
      let e = ap m.depth j in
      let z = pow-zero 2 in
      record { power = (0, omega arith); some = λ ne. absurd (ne q); longer = inl (j ∙ q); next = inl (ap m.jump j ∙ j ∙ q) }

  long_other : (x : ℕ) → x < n → x ≢ 0 → ((i : ℕ) → i < x → Long m i) → Long m x
  long_other x l q earlier =
      let p = fr.outward x in
      let low = w.inward x l q in
      let one = earlier p low in
      let one-low = (leads p (omega arith)).low in
      let two = earlier (m.jump p) (omega arith) in
      let two-low = (leads (m.jump p) (omega arith)).low in
      let three = earlier (m.jump (m.jump p)) (omega arith) in
      ⊎_elim
      (λ c. let even = c.0 in
      let j = c.1 in
      let len = c.2 in
      let r = one.power.0 in
      let is = one.power.1 in
      let ps = pow-suc 2 r in
      let same = ap (leap m) j in
      record {
        power = (suc r, omega arith);
        some = λ _. omega arith;
        longer =
            ⊎_elim
            (λ z. inl (j ∙ z))
            (λ z. let k = three.power.0 in
            let ks = three.power.1 in
            ⊎_elim
            (λ v. let pm = pow_mono {i = suc r} {j = k} v in inr (omega arith))
            (λ v. let pm = pow_mono {i = k} {j = r} v in absurd (omega arith))
            (cases_lt r k))
            one.next;
        next = subst (Longer m) (sym j) two.next;
      })
      (λ c. let odd = c.0 in
      let j = c.1 in
      let len = c.2 in
      let ps = pow-suc 2 0 in
      let pz = pow-zero 2 in
      let same = ap (leap m) j in
      record {
        power = (suc 0, omega arith);
        some = λ _. omega arith;
        longer = ⊎_elim (λ z. inl (j ∙ z)) (λ z. let s = one.some z in inr (omega arith)) (cases_eq p 0);
        next = subst (Longer m) (sym j) (⊎_elim (λ z. inl z) (λ z. inr (omega arith)) one.longer);
      })
      (hop x l q)

  pub long : (x : ℕ) → x < n → Long m x
  long = from_earlier {P = Long m} n (λ x l earlier. ⊎_elim (long_main x) (λ q. long_other x l q earlier) (cases_eq x 0))
