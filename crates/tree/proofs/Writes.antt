-- The nodes after an open and after a close.
use Rattle.std.proofs.Common.{◌≡◌, ℕ, ◌+◌, ◌-◌, ◌<◌, Bool, true, false, cond, eqb, List, length, set, sym, refl, ap, ◌∙◌, subst, ⊎_elim, arith}
use mathlib.Core.Path.{fun_ext}
use Rattle.std.proofs.lemmas.Bool.{eq-eqb, ne_eqb, cases_eq, cond-true, cond-false}
use Rattle.tree.specs.declared.node.Node.{Node}
use Rattle.orderings.specs.Meaning.{with_scope, after_close}
use Rattle.orderings.specs.Store.{Frames}
use Rattle.orderings.specs.Placed.{placed}
use Rattle.orderings.specs.Scopes.{task_within}
use Rattle.tree.specs.Nodes.{no_node, node_at, shut, shape, Marks, marks, jump_under, SoundTree}
use Rattle.tree.specs.ProgramTree.{place_of}
use Rattle.orderings.proofs.Tables.{here, there, column_kept}
use Rattle.orderings.proofs.FramedMore.{FramedMore}
use Rattle.tree.proofs.Opens.{MarkedMore, tree_new, placed_new}
use Rattle.tree.proofs.Closes.{without_live, tree_closed, placed_closed}

-- the node e of a new scope n within s
pub record Fits (fr : Frames) (m : Marks) (n s : ℕ) (e : Node) : Type 0 where
  pub parent : e.parent ≡ s
  pub within : e.within ≡ task_within e.kind n (fr.within s)
  pub live : e.live ≡ true
  pub depth : e.depth ≡ m.depth s + 1
  pub jump : e.jump ≡ jump_under m s

module _ (es : List Node) (n s count : ℕ) (e : Node) (room : n < length es) (inside : s < n) (o : SoundTree (shape es) (marks es) n s count) (fit : Fits (shape es) (marks es) n s e) where
  framed_more : FramedMore (shape es) (shape (set es n e)) n s e.kind
  framed_more = record {
    kinds = λ i l. ap (λ (x : Node). x.kind) (there no_node es n e room i (omega arith));
    outwards = λ i l. ap (λ (x : Node). x.parent) (there no_node es n e room i (omega arith));
    withins = λ i l. ap (λ (x : Node). x.within) (there no_node es n e room i (omega arith));
    new_kind = ap (λ (x : Node). x.kind) (here no_node es n e room);
    new_outward = ap (λ (x : Node). x.parent) (here no_node es n e room) ∙ fit.parent;
    new_within = ap (λ (x : Node). x.within) (here no_node es n e room) ∙ fit.within;
  }

  marked_more : MarkedMore (marks es) (marks (set es n e)) n s
  marked_more = record {
    lives = λ i l. ap (λ (x : Node). x.live) (there no_node es n e room i (omega arith));
    depths = λ i l. ap (λ (x : Node). x.depth) (there no_node es n e room i (omega arith));
    jumps = λ i l. ap (λ (x : Node). x.jump) (there no_node es n e room i (omega arith));
    new_live = ap (λ (x : Node). x.live) (here no_node es n e room) ∙ fit.live;
    new_depth = ap (λ (x : Node). x.depth) (here no_node es n e room) ∙ fit.depth;
    new_jump = ap (λ (x : Node). x.jump) (here no_node es n e room) ∙ fit.jump;
  }

  module _ (us : List Node) (put : us ≡ set es n e) where
    pub tree_opened : SoundTree (shape us) (marks us) (n + 1) n (count + 1)
    tree_opened = subst (λ (l : List Node). SoundTree (shape l) (marks l) (n + 1) n (count + 1)) (sym put) (tree_new (shape es) _ (marks es) _ n s count e.kind o inside framed_more marked_more)

    pub placed_opened : (size cap : ℕ) → size ≡ cap → placed (shape us) (place_of (shape us) (n + 1) n) size (n + 1) n ≡ with_scope e.kind (placed (shape es) (place_of (shape es) n s) cap n s)
    placed_opened size cap same =
        (λ j. placed (shape (put j)) (place_of (shape (put j)) (n + 1) n) (same j) (n + 1) n)
        ∙ placed_new (shape es) _ (marks es) _ n s count e.kind o inside framed_more marked_more cap

module _ (es : List Node) (s : ℕ) (room : s < length es) where
  live_off : ◌≡◌ {A = ℕ → Bool} (λ i. (node_at (set es s (shut (node_at es s))) i).live) (λ i. cond (eqb i s) false (node_at es i).live)
  live_off =
      fun_ext (λ i.
      ⊎_elim
      (λ q. ap (λ (k : ℕ). (node_at (set es s (shut (node_at es s))) k).live) q ∙ ap (λ (e : Node). e.live) (here no_node es s (shut (node_at es s)) room) ∙ sym (cond-true (eqb i s) _ _ (eq-eqb i s q)))
      (λ q. ap (λ (e : Node). e.live) (there no_node es s (shut (node_at es s)) room i q) ∙ sym (cond-false (eqb i s) _ _ (ne_eqb i s q)))
      (cases_eq i s))

  pub shape_shut : shape (set es s (shut (node_at es s))) ≡ shape es
  shape_shut = λ j. record { kind = column_kept no_node es s (shut (node_at es s)) room (λ e. e.kind) refl j; outward = column_kept no_node es s (shut (node_at es s)) room (λ e. e.parent) refl j; within = column_kept no_node es s (shut (node_at es s)) room (λ e. e.within) refl j }

  pub marks_shut : marks (set es s (shut (node_at es s))) ≡ without_live (marks es) s
  marks_shut = λ j. record { live = live_off j; depth = column_kept no_node es s (shut (node_at es s)) room (λ e. e.depth) refl j; jump = column_kept no_node es s (shut (node_at es s)) room (λ e. e.jump) refl j }

module _ (es us : List Node) (n s count p : ℕ) (room : s < length es) (inside : s < n) (more : 1 < count) (o : SoundTree (shape es) (marks es) n s count) (put : us ≡ set es s (shut (node_at es s))) (to : p ≡ (shape es).outward s) where
  same_shape : shape us ≡ shape es
  same_shape = ap shape put ∙ shape_shut es s room

  pub tree_shut : SoundTree (shape us) (marks us) n p (count - 1)
  tree_shut =
      subst (λ (fr : Frames). SoundTree fr (marks us) n p (count - 1)) (sym same_shape)
      (subst (λ (m : Marks). SoundTree (shape es) m n p (count - 1)) (sym (ap marks put ∙ marks_shut es s room))
      (subst (λ (k : ℕ). SoundTree (shape es) (without_live (marks es) s) n k (count - 1)) (sym to) (tree_closed (shape es) (marks es) n s count o inside more)))

  pub placed_shut : (size cap : ℕ) → size ≡ cap → placed (shape us) (place_of (shape us) n p) size n p ≡ after_close (placed (shape es) (place_of (shape es) n s) cap n s)
  placed_shut size cap same = (λ j. placed (same_shape j) (place_of (same_shape j) n (to j)) (same j) n (to j)) ∙ placed_closed (shape es) (marks es) n s count o inside more cap
