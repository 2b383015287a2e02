-- A close keeps the tree sound, and makes the step of the meaning.
use Rattle.std.proofs.Common.{◌≡◌, ℕ, suc, ◌-◌, ◌<◌, true, false, cond, eqb, ◌≢◌, List, [], ◌∷◌, length, Ok, sym, ap, ◌∙◌, ⊎_elim, arith}
use Rattle.std.proofs.lemmas.Bool.{eq-eqb, ne_eqb, cases_eq, cases_Bool, cond-true, cond-false}
use Rattle.graph.specs.History.{Place, before, unordered, spot, moved}
use Rattle.orderings.specs.declared.words.Kind.{Kind}
use Rattle.orderings.specs.declared.words.Kind.TheVariants.{Task, Finish}
use Rattle.orderings.specs.Meaning.{scope_as, closing, after_close}
use Rattle.orderings.specs.Store.{Frames, chain}
use Rattle.orderings.specs.Placed.{placed}
use Rattle.tree.specs.Ancestors.{on, side}
use Rattle.tree.specs.Nodes.{Marks, SoundTree}
use Rattle.tree.specs.ProgramTree.{place_by, place_under, place_of}
use Rattle.orderings.proofs.Chains.{chain_split}
use Rattle.orderings.proofs.Framed.{cases_kind, innermost_is, innermost_task_is, within_task}
use Rattle.orderings.specs.Formation.{scopes_of}
use Rattle.orderings.proofs.Placed.{closing_placed, placed_close}
use Rattle.tree.specs.Chains.{on_self, on_down}
use Rattle.tree.proofs.Ancestors.{chain_alone, on_above, above_low}
use Rattle.tree.proofs.Sides.{found, outer_inside, gone, side_gone, shifts}

-- the marks where the scope s is closed
abbrev pub without_live : Marks → ℕ → Marks
without_live m s = record { live = λ i. cond (eqb i s) false (m.live i); depth = m.depth; jump = m.jump }

-- what is placed at s moves to q
abbrev goes : ℕ → Place → Place → Place
goes s q p = cond (eqb (spot p) s) q p

leaves : (s : ℕ) (q p : Place) → spot p ≡ s → goes s q p ≡ q
leaves s q p e = cond-true (eqb (spot p) s) q p (eq-eqb (spot p) s e)

stays : (s : ℕ) (q p : Place) → spot p ≢ s → goes s q p ≡ p
stays s q p e = cond-false (eqb (spot p) s) q p (ne_eqb (spot p) s e)

module _ (fr : Frames) (m : Marks) (n s count : ℕ) (o : SoundTree fr m n s count) (inside : s < n) (more : 1 < count) where
  pub inner_not_main : s ≢ 0
  inner_not_main e = let len : count ≡ length (s ∷ []) = o.counted ∙ ap length (chain_alone fr.outward n o.framed.inward s inside e) in omega arith

  pub parent_low : fr.outward s < s
  parent_low = o.framed.inward s inside inner_not_main

  outer : fr.outward s < n
  outer = outer_inside fr.outward n o.framed.inward s inside inner_not_main

  split : chain fr.outward n s ≡ s ∷ chain fr.outward n (fr.outward s)
  split = chain_split fr.outward n o.framed.inward n s inside inside inner_not_main

  pub tree_closed : SoundTree fr (without_live m s) n (fr.outward s) (count - 1)
  tree_closed =
      let len : count ≡ suc (length (chain fr.outward n (fr.outward s))) = o.counted ∙ ap length split in
      record {
        counted = omega arith;
        framed = o.framed;
        marked = record {
          lives = λ i l.
              ⊎_elim
              (λ e. cond-true (eqb i s) false _ (eq-eqb i s e) ∙ sym (ap (on (chain fr.outward n (fr.outward s))) e ∙ gone fr.outward n o.framed.inward s inside inner_not_main))
              (λ e. cond-false (eqb i s) false _ (ne_eqb i s e) ∙ o.marked.lives i l ∙ on_down fr.outward n o.framed.inward s i inside inner_not_main e)
              (cases_eq i s);
          main_depth = o.marked.main_depth;
          main_jump = o.marked.main_jump;
          deeper = o.marked.deeper;
          rule = o.marked.rule;
        };
      }

  -- the meaning moves what is placed at s to where the tasks under s are placed now
  moved_is : (p : Place) → moved (scopes_of fr (chain fr.outward n s)) p ≡ goes s (place_under fr s) p
  moved_is p = ap (λ (ss : List ℕ). moved (scopes_of fr ss) p) split ∙ ⊎_elim task finish (cases_kind (fr.kind s))
    where
      task : fr.kind s ≡ Task → moved (scope_as (fr.kind s) s ∷ scopes_of fr (chain fr.outward n (fr.outward s))) p ≡ goes s (place_under fr s) p
      task e =
          (λ j. moved (scope_as (e j) s ∷ scopes_of fr (chain fr.outward n (fr.outward s))) p)
          ∙ ap (λ (b : ℕ). goes s (unordered b) p) (innermost_is fr n o.framed n (fr.outward s) outer)
          ∙ sym (ap (λ (k : Kind). goes s (place_by k (fr.outward s) (fr.within (fr.outward s))) p) e)

      finish : fr.kind s ≡ Finish → moved (scope_as (fr.kind s) s ∷ scopes_of fr (chain fr.outward n (fr.outward s))) p ≡ goes s (place_under fr s) p
      finish e =
          (λ j. moved (scope_as (e j) s ∷ scopes_of fr (chain fr.outward n (fr.outward s))) p)
          ∙ ap (λ (b : ℕ). goes s (before b) p) (innermost_task_is fr n o.framed n (fr.outward s) outer outer)
          ∙ sym (ap (λ (k : Kind). goes s (place_by k (fr.outward s) (fr.within (fr.outward s))) p) e)

  under_task : (b : ℕ) → fr.kind b ≡ Task → place_under fr b ≡ unordered (fr.outward b)
  under_task b e = ap (λ (k : Kind). place_by k (fr.outward b) (fr.within (fr.outward b))) e

  under_finish : (b : ℕ) → fr.kind b ≡ Finish → place_under fr b ≡ before (fr.within (fr.outward b))
  under_finish b e = ap (λ (k : Kind). place_by k (fr.outward b) (fr.within (fr.outward b))) e

  -- the tasks under b, which hangs at s, go where those under s go
  under_inner : (b : ℕ) → fr.outward b ≡ s → goes s (place_under fr s) (place_under fr b) ≡ place_under fr s
  under_inner b e =
      let q = place_under fr s in
      let low = parent_low in
      ⊎_elim
      (λ t. leaves s q (place_under fr b) (ap spot (under_task b t) ∙ e))
      (λ f. let at : spot (place_under fr b) ≡ fr.within s = ap spot (under_finish b f) ∙ ap fr.within e in
      ⊎_elim
      (λ t. leaves s q (place_under fr b) (at ∙ o.framed.own s inside t))
      (λ g. let lent = o.framed.lent s inside g in
      let small = (within_task fr n o.framed n (fr.outward s) outer outer).0 in
      stays s q (place_under fr b) (omega arith) ∙ under_finish b f ∙ ap before (ap fr.within e ∙ lent) ∙ sym (under_finish s g))
      (cases_kind (fr.kind s)))
      (cases_kind (fr.kind b))

  -- those under b, which hangs further out, stay
  under_outer : (b : ℕ) → fr.outward b < s → goes s (place_under fr s) (place_under fr b) ≡ place_under fr b
  under_outer b l =
      let small = (within_task fr n o.framed n (fr.outward b) (omega arith) (omega arith)).0 in
      ⊎_elim
      (λ t. let at = ap spot (under_task b t) in stays s (place_under fr s) (place_under fr b) (omega arith))
      (λ f. let at = ap spot (under_finish b f) in stays s (place_under fr s) (place_under fr b) (omega arith))
      (cases_kind (fr.kind b))

  -- the place of an open scope, and of a closed one
  place_open : (y i : ℕ) → on (chain fr.outward n y) i ≡ true → place_of fr n y i ≡ before i
  place_open y i e = cond-true (on (chain fr.outward n y) i) (before i) _ e

  place_shut : (y i : ℕ) → on (chain fr.outward n y) i ≡ false → place_of fr n y i ≡ place_under fr (side fr.outward n y i)
  place_shut y i e = cond-false (on (chain fr.outward n y) i) (before i) _ e

  place_moved : (i : ℕ) → i < n → goes s (place_under fr s) (place_of fr n s i) ≡ place_of fr n (fr.outward s) i
  place_moved i l = ⊎_elim here there (cases_eq i s)
    where
      here : i ≡ s → goes s (place_under fr s) (place_of fr n s i) ≡ place_of fr n (fr.outward s) i
      here e =
          let old = place_open s i (ap (on (chain fr.outward n s)) e ∙ on_self fr.outward n o.framed.inward s inside) in
          let shut : on (chain fr.outward n (fr.outward s)) i ≡ false = ap (on (chain fr.outward n (fr.outward s))) e ∙ gone fr.outward n o.framed.inward s inside inner_not_main in
          leaves s (place_under fr s) (place_of fr n s i) (ap spot old ∙ e)
          ∙ sym (place_shut (fr.outward s) i shut ∙ ap (place_under fr) (ap (side fr.outward n (fr.outward s)) e ∙ side_gone fr.outward n o.framed.inward s inside inner_not_main))

      there : i ≢ s → goes s (place_under fr s) (place_of fr n s i) ≡ place_of fr n (fr.outward s) i
      there e =
          let same : on (chain fr.outward n s) i ≡ on (chain fr.outward n (fr.outward s)) i = on_down fr.outward n o.framed.inward s i inside inner_not_main e in
          ⊎_elim
          (λ c. let old = place_open s i c in
          stays s (place_under fr s) (place_of fr n s i) (λ z. e (sym (ap spot old) ∙ z)) ∙ old ∙ sym (place_open (fr.outward s) i (sym same ∙ c)))
          (λ c. let b = side fr.outward n s i in
          let open_is = on_above fr.outward n o.framed.inward n (fr.outward b) s inside inside (found fr.outward n o.framed.inward s inside n i l l c).opens in
          let low = above_low fr.outward n o.framed.inward (fr.outward b) s inside open_is in
          ap (goes s (place_under fr s)) (place_shut s i c)
          ∙ ⊎_elim
          (λ r. under_inner b r.0 ∙ ap (place_under fr) (sym r.1))
          (λ r. let ne = r.0 in under_outer b (omega arith) ∙ ap (place_under fr) (sym r.1))
          (shifts fr.outward n o.framed.inward s inside inner_not_main n i l l c)
          ∙ sym (place_shut (fr.outward s) i (sym same ∙ c)))
          (cases_Bool (on (chain fr.outward n s) i))

  pub placed_closed : (cap : ℕ) → placed fr (place_of fr n (fr.outward s)) cap n (fr.outward s) ≡ after_close (placed fr (place_of fr n s) cap n s)
  placed_closed cap = let len = o.counted in placed_close fr (place_of fr n s) cap n s o.framed inside (omega arith) (place_of fr n (fr.outward s)) inner_not_main (λ i l _. moved_is (place_of fr n s i) ∙ place_moved i l)

  pub closing_closed : (cap : ℕ) → closing (placed fr (place_of fr n s) cap n s) ≡ Ok s
  closing_closed cap = let len = o.counted in closing_placed fr (place_of fr n s) cap n s o.framed inside (omega arith)
