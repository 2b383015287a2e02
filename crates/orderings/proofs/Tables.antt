-- Main's entry, and a table whose entries go on from number 1.
use Rattle.std.proofs.Common.{◌≡◌, ℕ, ◌<◌, ◌≢◌, List, ◌∷◌, length, get_or, set, sym, ap, ◌∙◌, ⊎_elim, arith, length-set, get_or-set_other, get_or-set_same}
use mathlib.Core.Path.{fun_ext}
use Rattle.std.proofs.lemmas.Bool.{cases_eq}
use Rattle.orderings.specs.declared.table.Table.{Table}
use Rattle.orderings.specs.Table.{entries}

-- a write to one entry
module _ {E : Type 0} (d : E) (es : List E) (i : ℕ) (e : E) (h : i < length es) where
  pub here : get_or (set es i e) i d ≡ e
  here = get_or-set_same es i e d h

  pub there : (y : ℕ) → y ≢ i → get_or (set es i e) y d ≡ get_or es y d
  there y = get_or-set_other es i y e d

  -- a field that it keeps
  pub column_kept : {A : Type 0} (col : E → A) → col e ≡ col (get_or es i d) → ◌≡◌ {A = ℕ → A} (λ (y : ℕ). col (get_or (set es i e) y d)) (λ (y : ℕ). col (get_or es y d))
  column_kept col same =
      fun_ext (λ y.
      ⊎_elim
      (λ q. ap (λ (k : ℕ). col (get_or (set es i e) k d)) q ∙ ap col here ∙ same ∙ ap (λ (k : ℕ). col (get_or es k d)) (sym q))
      (λ q. ap col (there y q))
      (cases_eq y i))

-- how many entries are lent
pub new_size : {E : Type 0} (t : Table E) (m : E) (lent : List E) → entries t ≡ m ∷ lent → length t.lent.now ≡ length lent
new_size t m lent e = let size = ap length e in omega arith

pub kept_size : {E : Type 0} (old now : Table E) (n : ℕ) (x : E) → entries now ≡ set (entries old) n x → length now.lent.now ≡ length old.lent.now
kept_size old now n x e = let size = ap length e ∙ length-set (entries old) n x in omega arith
