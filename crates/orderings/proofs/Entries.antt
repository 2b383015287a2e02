-- What a write to one entry changes.
use Rattle.std.proofs.Common.{◌≡◌, ℕ, zero, suc, ◌+◌, ◌-◌, ◌*◌, ◌/◌, ◌%◌, ◌<◌, cond, eqb, List, ◌∷◌, length, get_or, set, sym, refl, ap, ◌∙◌, ⊎_elim, arith}
use mathlib.Core.Path.{fun_ext}
use Rattle.std.proofs.lemmas.Bool.{eq-eqb, ne_eqb, cases_eq, cond-true, cond-false}
use Rattle.std.proofs.lemmas.Bool.Decides.{nat_tests}
use Rattle.orderings.specs.declared.bags.entry.Entry.{Entry}
use Rattle.orderings.specs.Forest.{upd}
use Rattle.orderings.specs.Store.{empty, entry_at, frames, forest, head_of, head, with_head, contents}
use Rattle.orderings.proofs.Tables.{here, there, column_kept}
use Rattle.orderings.proofs.Sums.{upd_same, upd_other}

upd_self : (g : ℕ → ℕ) (i v : ℕ) → v ≡ g i → upd g i v ≡ g
upd_self g i v e = fun_ext (λ y. ⊎_elim (λ q. upd_same g i v y q ∙ e ∙ ap g (sym q)) (λ q. upd_other g i v y q) (cases_eq y i))

-- the table goes on from entry 1
pub table_at : (m : Entry) (t : List Entry) (i : ℕ) → 0 < i → get_or t (i - 1) empty ≡ entry_at (m ∷ t) i
table_at m t zero h = absurd (omega arith)
table_at m t (suc i) h = let e : suc i - 1 ≡ i = omega arith in rw e

pub table_set : (m : Entry) (t : List Entry) (i : ℕ) (f : Entry → Entry) → 0 < i → m ∷ set t (i - 1) (f (get_or t (i - 1) empty)) ≡ set (m ∷ t) i (f (entry_at (m ∷ t) i))
table_set m t zero f h = absurd (omega arith)
table_set m t (suc i) f h = let e : suc i - 1 ≡ i = omega arith in rw e

pub main_set : (m : Entry) (t : List Entry) (i : ℕ) (f : Entry → Entry) → i ≡ 0 → f m ∷ t ≡ set (m ∷ t) i (f (entry_at (m ∷ t) i))
main_set m t zero f e = refl
main_set m t (suc i) f e = absurd (omega arith)

-- the heads of a scope's bags
pub head_serial : (es : List Entry) (i : ℕ) → head es (2 * i) ≡ (entry_at es i).serial
head_serial es i = let h : 2 * i / 2 ≡ i = omega arith in cond-true (eqb (2 * i % 2) 0) _ _ (eq-eqb (2 * i % 2) 0 (omega arith)) ∙ ap (λ (k : ℕ). (entry_at es k).serial) h

pub head_parallel : (es : List Entry) (i : ℕ) → head es (2 * i + 1) ≡ (entry_at es i).parallel
head_parallel es i = let h : (2 * i + 1) / 2 ≡ i = omega arith in cond-false (eqb ((2 * i + 1) % 2) 0) _ _ (ne_eqb ((2 * i + 1) % 2) 0 (omega arith)) ∙ ap (λ (k : ℕ). (entry_at es k).parallel) h

module _ (es : List Entry) (i : ℕ) (e : Entry) (h : i < length es) where
  column_set : (col : Entry → ℕ) → (λ (y : ℕ). col (entry_at (set es i e) y)) ≡ upd (λ y. col (entry_at es y)) i (col e)
  column_set col =
      fun_ext (λ y.
      ⊎_elim
      (λ q. ap (λ (k : ℕ). col (entry_at (set es i e) k)) q ∙ ap col (here empty es i e h) ∙ sym (upd_same (λ y. col (entry_at es y)) i (col e) y q))
      (λ q. ap col (there empty es i e h y q) ∙ sym (upd_other (λ y. col (entry_at es y)) i (col e) y q))
      (cases_eq y i))

  head_set : head (set es i e) ≡ (λ (k : ℕ). cond (eqb (k / 2) i) (head_of e k) (head es k))
  head_set =
      fun_ext (λ k.
      ⊎_elim
      (λ q. ap (λ (j : ℕ). head_of (entry_at (set es i e) j) k) q ∙ ap (λ (x : Entry). head_of x k) (here empty es i e h) ∙ sym (cond-true (eqb (k / 2) i) _ (head es k) (eq-eqb (k / 2) i q)))
      (λ q. ap (λ (x : Entry). head_of x k) (there empty es i e h (k / 2) q) ∙ sym (cond-false (eqb (k / 2) i) (head_of e k) _ (ne_eqb (k / 2) i q)))
      (cases_eq (k / 2) i))

  pub contents_set : contents (set es i e) ≡ record { forest = record { parent = upd (forest es).parent i e.parent; rank = upd (forest es).rank i e.rank }; bag = upd (contents es).bag i e.bag; head = λ k. cond (eqb (k / 2) i) (head_of e k) (head es k) }
  contents_set = λ j. record { forest = record { parent = column_set (λ x. x.parent) j; rank = column_set (λ x. x.rank) j }; bag = column_set (λ x. x.bag) j; head = head_set j }

  pub frames_kept : e.kind ≡ (entry_at es i).kind → e.outward ≡ (entry_at es i).outward → e.within ≡ (entry_at es i).within → frames (set es i e) ≡ frames es
  frames_kept k o w = λ j. record { kind = column_kept empty es i e h (λ x. x.kind) k j; outward = column_kept empty es i e h (λ x. x.outward) o j; within = column_kept empty es i e h (λ x. x.within) w j }

-- an entry with one field changed
abbrev pub with_parent : ℕ → Entry → Entry
with_parent v e = record e { parent = v }

abbrev pub with_rank : ℕ → Entry → Entry
with_rank v e = record e { rank = v }

abbrev pub with_bag : ℕ → Entry → Entry
with_bag v e = record e { bag = v }

module _ (es : List Entry) (i : ℕ) (h : i < length es) (v : ℕ) where
  one : (g : Entry → ℕ) → upd (λ y. g (entry_at es y)) i (g (entry_at es i)) ≡ (λ (y : ℕ). g (entry_at es y))
  one g = upd_self (λ y. g (entry_at es y)) i (g (entry_at es i)) refl

  heads : (λ (k : ℕ). cond (eqb (k / 2) i) (head_of (entry_at es i) k) (head es k)) ≡ head es
  heads =
      fun_ext (λ k.
      ⊎_elim
      (λ q. cond-true (eqb (k / 2) i) _ (head es k) (eq-eqb (k / 2) i q) ∙ ap (λ (j : ℕ). head_of (entry_at es j) k) (sym q))
      (λ q. cond-false (eqb (k / 2) i) (head_of (entry_at es i) k) _ (ne_eqb (k / 2) i q))
      (cases_eq (k / 2) i))

  pub parent_set : contents (set es i (with_parent v (entry_at es i))) ≡ record { forest = record { parent = upd (forest es).parent i v; rank = (forest es).rank }; bag = (contents es).bag; head = head es }
  parent_set = contents_set es i (with_parent v (entry_at es i)) h ∙ (λ j. record { forest = record { parent = upd (forest es).parent i v; rank = one (λ x. x.rank) j }; bag = one (λ x. x.bag) j; head = heads j })

  pub rank_set : contents (set es i (with_rank v (entry_at es i))) ≡ record { forest = record { parent = (forest es).parent; rank = upd (forest es).rank i v }; bag = (contents es).bag; head = head es }
  rank_set = contents_set es i (with_rank v (entry_at es i)) h ∙ (λ j. record { forest = record { parent = one (λ x. x.parent) j; rank = upd (forest es).rank i v }; bag = one (λ x. x.bag) j; head = heads j })

  pub bag_set : contents (set es i (with_bag v (entry_at es i))) ≡ record { forest = forest es; bag = upd (contents es).bag i v; head = head es }
  bag_set = contents_set es i (with_bag v (entry_at es i)) h ∙ (λ j. record { forest = record { parent = one (λ x. x.parent) j; rank = one (λ x. x.rank) j }; bag = upd (contents es).bag i v; head = heads j })

  -- one of the two bags of the entry gets the root v
  one_head : (e : Entry) (k y : ℕ) → k / 2 ≡ i → y / 2 ≡ i → head_of (with_head k v e) y ≡ cond (eqb y k) v (head_of e y)
  one_head e k y p q = grind (arith, nat_tests)

  pub head_put : (k : ℕ) → k / 2 ≡ i → contents (set es i (with_head k v (entry_at es i))) ≡ record { forest = forest es; bag = (contents es).bag; head = upd (head es) k v }
  head_put k p = contents_set es i (with_head k v (entry_at es i)) h ∙ (λ j. record { forest = record { parent = one (λ x. x.parent) j; rank = one (λ x. x.rank) j }; bag = one (λ x. x.bag) j; head = put j })
    where
      put : (λ (y : ℕ). cond (eqb (y / 2) i) (head_of (with_head k v (entry_at es i)) y) (head es y)) ≡ upd (head es) k v
      put =
          fun_ext (λ y.
          ⊎_elim
          (λ q. cond-true (eqb (y / 2) i) _ (head es y) (eq-eqb (y / 2) i q) ∙ one_head (entry_at es i) k y p q ∙ ap (λ (j : ℕ). cond (eqb y k) v (head_of (entry_at es j) y)) (sym q))
          (λ q. cond-false (eqb (y / 2) i) (head_of (with_head k v (entry_at es i)) y) _ (ne_eqb (y / 2) i q) ∙ sym (upd_other (head es) k v y (λ e. q (ap (λ (j : ℕ). j / 2) e ∙ p))))
          (cases_eq (y / 2) i))
