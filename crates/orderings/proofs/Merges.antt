-- Several trees of a forest become one.
use Rattle.std.proofs.Common.{◌≡◌, ℕ, ◌<◌, ◌≤◌, Bool, true, false, cond, ◌||◌, eqb, sym, refl, ap, ◌∙◌, subst, ⊎_elim, arith}
use Rattle.std.proofs.lemmas.Bool.{eq-eqb, ne_eqb, eqb-true, cases_Bool, both_ways, or_cases, or_right, or_left, cond-true, cond-false, cases_eq}
use Rattle.std.proofs.lemmas.Bool.Decides.{nat_tests}
use Rattle.orderings.specs.Forest.{Forest, root, winner, linked, Grown}
use Rattle.orderings.proofs.Forests.{winner_inside, winner_is, winner_top, linked_grown, linked_root, root_top, root_self}

-- the roots that are among some have become r, which is one of them
pub record Merged (f g : Forest) (n r : ℕ) (among : ℕ → Bool) : Type 0 where
  pub grown : Grown g n
  pub some : 0 < r
  pub inside : r < n
  pub top : g.parent r ≡ r
  pub chosen : among r ≡ true
  pub roots : (x : ℕ) → 0 < x → x < n → root g x ≡ cond (among (root f x)) r (root f x)

-- the others stay roots
pub merged_keeps : (f g : Forest) (n r : ℕ) (among : ℕ → Bool) → n ≤ 65536 → Merged f g n r among → (x : ℕ) → x < n → f.parent x ≡ x → (0 < x → among x ≡ false) → g.parent x ≡ x
merged_keeps f g n r among small M x l top apart =
    ⊎_elim
    (λ z. ap g.parent z ∙ M.grown.none ∙ sym z)
    (λ z. let s : 0 < x = omega arith in
    let self = root_self f x top in
    let same : root g x ≡ x = M.roots x s l ∙ cond-false (among (root f x)) r (root f x) (ap among self ∙ apart s) ∙ self in
    subst (λ (y : ℕ). g.parent y ≡ y) same (root_top g n M.grown small x l))
    (cases_eq x 0)

pub winner_some : (f : Forest) (a b : ℕ) → (a ≡ 0 → 0 < b) → 0 < winner f a b
winner_some f a b some = grind (arith, nat_tests)

pub winner_low : (f : Forest) (a b n : ℕ) → a ≤ n → b ≤ n → winner f a b ≤ n
winner_low f a b n la lb = grind (arith, nat_tests)

cond_or : (p q : Bool) (w y : ℕ) → cond p w (cond q w y) ≡ cond (p || q) w y
cond_or true q w y = refl
cond_or false q w y = refl

module _ (f : Forest) (n : ℕ) (G : Grown f n) (small : n ≤ 65536) (a b : ℕ) (la : a < n) (lb : b < n) (ta : f.parent a ≡ a) (tb : f.parent b ≡ b) (apart : a ≡ b → a ≡ 0) where
  pub link_merges : (a ≡ 0 → 0 < b) → Merged f (linked f a b) n (winner f a b) (λ y. eqb y a || eqb y b)
  link_merges some = record {
    grown = linked_grown f n G small a b la lb ta tb apart;
    some = winner_some f a b some;
    inside = winner_inside f n G small a b la lb ta tb apart;
    top = winner_top f n G small a b la lb ta tb apart;
    chosen =
        ⊎_elim
        (λ e. or_left (eqb (winner f a b) a) _ (eq-eqb (winner f a b) a e))
        (λ e. or_right (eqb (winner f a b) a) (eqb (winner f a b) b) (eq-eqb (winner f a b) b e))
        (winner_is f n G small a b la lb ta tb apart);
    roots = λ x p l. linked_root f n G small a b la lb ta tb apart x p l ∙ cond_or (eqb (root f x) a) (eqb (root f x) b) (winner f a b) (root f x);
  }

-- what was merged is merged with one root more
pub merged_more : (f g h : Forest) (n w a r : ℕ) (p : ℕ → Bool) → Merged f g n w p → Merged g h n r (λ y. eqb y a || eqb y w) → Merged f h n r (λ y. eqb y a || p y)
merged_more f g h n w a r p one two = record {
  grown = two.grown;
  some = two.some;
  inside = two.inside;
  top = two.top;
  chosen = ⊎_elim (λ e. or_left (eqb r a) (p r) e) (λ e. or_right (eqb r a) (p r) (ap p (eqb-true r w e) ∙ one.chosen)) (or_cases (eqb r a) (eqb r w) two.chosen);
  roots = λ x s l. two.roots x s l ∙ again (root f x) (root g x) (one.roots x s l);
}
  where
    again : (y z : ℕ) → z ≡ cond (p y) w y → cond (eqb z a || eqb z w) r z ≡ cond (eqb y a || p y) r y
    again y z e =
        ⊎_elim
        (λ t. let z-is : z ≡ w = e ∙ rw t in
        cond-true (eqb z a || eqb z w) r z (or_right (eqb z a) (eqb z w) (eq-eqb z w z-is)) ∙ sym (cond-true (eqb y a || p y) r y (or_right (eqb y a) (p y) t)))
        (λ t. let z-is : z ≡ y = e ∙ rw t in
        let other : eqb y w ≡ false = ne_eqb y w (λ q. both_ways (p y) t (ap p q ∙ one.chosen)) in
        ap (λ (k : ℕ). cond (eqb k a || eqb k w) r k) z-is ∙ ap (λ (b : Bool). cond (eqb y a || b) r y) (other ∙ sym t))
        (cases_Bool (p y))
