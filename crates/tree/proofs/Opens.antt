-- An open keeps the tree sound, and makes the step of the meaning.
use Rattle.std.proofs.Common.{◌≡◌, ℕ, zero, suc, ◌+◌, ◌-◌, ◌<◌, Bool, true, cond, eqb, ◌≢◌, List, ◌∷◌, length, sym, refl, ap, ◌∙◌, ⊎_elim, add-one, arith}
use Rattle.std.proofs.lemmas.Bool.{cases_eq, cases_Bool, cond-true, cond-false}
use Rattle.graph.specs.History.{before}
use Rattle.orderings.specs.declared.words.Kind.{Kind}
use Rattle.orderings.specs.Meaning.{with_scope}
use Rattle.orderings.specs.Store.{Frames, chain}
use Rattle.orderings.specs.Placed.{placed}
use Rattle.tree.specs.Ancestors.{on, last_off, side}
use Rattle.tree.specs.Nodes.{Marks, jump_under, Marked, SoundTree}
use Rattle.tree.specs.ProgramTree.{place_by, place_under, place_of}
use Rattle.orderings.specs.Chains.{chain_main, chain_more}
use Rattle.orderings.proofs.FramedMore.{FramedMore, each, framed_new, new_chain, old_chain}
use Rattle.orderings.proofs.Placed.{placed_open}
use Rattle.tree.specs.Chains.{on_here, on_there}
use Rattle.tree.proofs.Ancestors.{above_low}
use Rattle.tree.proofs.Sides.{found, closed_not_main}
use Rattle.tree.proofs.Jumps.{leads}

-- marks with an open scope n more, a child of s
pub record MarkedMore (m m' : Marks) (n s : ℕ) : Type 0 where
  pub lives : (i : ℕ) → i < n → m'.live i ≡ m.live i
  pub depths : (i : ℕ) → i < n → m'.depth i ≡ m.depth i
  pub jumps : (i : ℕ) → i < n → m'.jump i ≡ m.jump i
  pub new_live : m'.live n ≡ true
  pub new_depth : m'.depth n ≡ m.depth s + 1
  pub new_jump : m'.jump n ≡ jump_under m s

-- a later scope is on no chain of earlier ones
last_off_more : (up : ℕ → ℕ) (n : ℕ) → ((s : ℕ) → s < n → s ≢ 0 → up s < s) → (ys : List ℕ) (f s c : ℕ) → s < n → last_off c (chain up f s) (n ∷ ys) ≡ last_off c (chain up f s) ys
unfolding chain
last_off_more up n inward ys zero s c l = refl
last_off_more up n inward ys (suc f) s c l =
    let same : on (n ∷ ys) s ≡ on ys s = on_there s n ys (omega arith) in
    ⊎_elim
    (λ q. ap (λ (ss : List ℕ). last_off c ss (n ∷ ys)) (chain_main up f s q) ∙ ap (λ (b : Bool). cond b c s) same ∙ sym (ap (λ (ss : List ℕ). last_off c ss ys) (chain_main up f s q)))
    (λ q. let d = inward s l q in
    ap (λ (ss : List ℕ). last_off c ss (n ∷ ys)) (chain_more up f s q)
    ∙ (λ j. cond (same j) c (last_off_more up n inward ys f (up s) s (omega arith) j))
    ∙ sym (ap (λ (ss : List ℕ). last_off c ss ys) (chain_more up f s q)))
    (cases_eq s 0)

module _ (fr gr : Frames) (m m' : Marks) (n s count : ℕ) (k : Kind) (o : SoundTree fr m n s count) (inside : s < n) (F : FramedMore fr gr n s k) (M : MarkedMore m m' n s) where
  new_is : chain gr.outward (n + 1) n ≡ n ∷ chain fr.outward n s
  new_is = new_chain fr gr n s k o.framed inside F

  old_on : (i : ℕ) → i < n → on (chain gr.outward (n + 1) n) i ≡ on (chain fr.outward n s) i
  old_on i l = ap (λ (ss : List ℕ). on ss i) new_is ∙ on_there i n (chain fr.outward n s) (omega arith)

  new_on : on (chain gr.outward (n + 1) n) n ≡ true
  new_on = ap (λ (ss : List ℕ). on ss n) new_is ∙ on_here n n (chain fr.outward n s) refl

  -- the rule for jumps looks only at earlier scopes
  same_rule : (p : ℕ) → p < n → jump_under m' p ≡ jump_under m p
  same_rule p l =
      let low = (leads fr m n s o.framed o.marked p l).low in
      let low' = (leads fr m n s o.framed o.marked (m.jump p) (omega arith)).low in
      let one : m'.jump p ≡ m.jump p = M.jumps p l in
      let two : m'.jump (m'.jump p) ≡ m.jump (m.jump p) = ap m'.jump one ∙ M.jumps (m.jump p) (omega arith) in
      let d = M.depths p l in
      let d1 : m'.depth (m'.jump p) ≡ m.depth (m.jump p) = ap m'.depth one ∙ M.depths (m.jump p) (omega arith) in
      let d2 : m'.depth (m'.jump (m'.jump p)) ≡ m.depth (m.jump (m.jump p)) = ap m'.depth two ∙ M.depths (m.jump (m.jump p)) (omega arith) in
      λ j. cond (eqb (d j - d1 j) (d1 j - d2 j)) (two j) p

  marked_new : Marked gr m' (n + 1) n
  marked_new = record {
    lives =
        each {P = λ i. m'.live i ≡ on (chain gr.outward (n + 1) n) i} n
        (λ i l. M.lives i l ∙ o.marked.lives i l ∙ sym (old_on i l))
        (M.new_live ∙ sym new_on);
    main_depth = M.depths 0 (omega arith) ∙ o.marked.main_depth;
    main_jump = M.jumps 0 (omega arith) ∙ o.marked.main_jump;
    deeper =
        each {P = λ i. i ≢ 0 → m'.depth i ≡ m'.depth (gr.outward i) + 1} n
        (λ i l ne. let low = o.framed.inward i l ne in
        M.depths i l ∙ o.marked.deeper i l ne ∙ ap (λ (d : ℕ). d + 1) (sym (ap m'.depth (F.outwards i l) ∙ M.depths (fr.outward i) (omega arith))))
        (λ ne. M.new_depth ∙ ap (λ (d : ℕ). d + 1) (sym (ap m'.depth F.new_outward ∙ M.depths s inside)));
    rule =
        each {P = λ i. i ≢ 0 → m'.jump i ≡ jump_under m' (gr.outward i)} n
        (λ i l ne. let low = o.framed.inward i l ne in
        M.jumps i l ∙ o.marked.rule i l ne ∙ sym (ap (jump_under m') (F.outwards i l) ∙ same_rule (fr.outward i) (omega arith)))
        (λ ne. M.new_jump ∙ sym (ap (jump_under m') F.new_outward ∙ same_rule s inside));
  }

  pub tree_new : SoundTree gr m' (n + 1) n (count + 1)
  tree_new = record {
    counted = ap (λ (j : ℕ). j + 1) o.counted ∙ add-one _ ∙ sym (ap length new_is);
    framed = framed_new fr gr n s k o.framed inside F;
    marked = marked_new;
  }

  old_side : (i : ℕ) → i < n → side gr.outward (n + 1) n i ≡ side fr.outward n s i
  old_side i l =
      (λ j. last_off i (old_chain fr gr n s k o.framed inside F i l j) (new_is j))
      ∙ last_off_more fr.outward n o.framed.inward (chain fr.outward n s) n i i l

  old_under : (b : ℕ) → b < n → b ≢ 0 → place_under gr b ≡ place_under fr b
  old_under b l ne =
      let low = o.framed.inward b l ne in
      λ j. place_by (F.kinds b l j) (F.outwards b l j) ((ap gr.within (F.outwards b l) ∙ F.withins (fr.outward b) (omega arith)) j)

  old_place : (i : ℕ) → i < n → place_of gr (n + 1) n i ≡ place_of fr n s i
  old_place i l =
      ap (λ (b : Bool). cond b (before i) (place_under gr (side gr.outward (n + 1) n i))) (old_on i l)
      ∙ ⊎_elim
      (λ e. cond-true _ (before i) _ e ∙ sym (cond-true _ (before i) _ e))
      (λ e. let r = found fr.outward n o.framed.inward s inside n i l l e in
      let low = above_low fr.outward n o.framed.inward _ i l r.towards in
      cond-false _ (before i) _ e
      ∙ ap (place_under gr) (old_side i l)
      ∙ old_under (side fr.outward n s i) (omega arith) (closed_not_main fr.outward n o.framed.inward s inside _ r.shut)
      ∙ sym (cond-false _ (before i) _ e))
      (cases_Bool (on (chain fr.outward n s) i))

  pub placed_new : (cap : ℕ) → placed gr (place_of gr (n + 1) n) cap (n + 1) n ≡ with_scope k (placed fr (place_of fr n s) cap n s)
  placed_new cap = placed_open fr gr (place_of fr n s) (place_of gr (n + 1) n) cap n s k o.framed inside F old_place (cond-true _ (before n) _ new_on)
