-- The tree of main alone is sound.
use Rattle.std.proofs.Common.{◌≡◌, ℕ, true, List, [], ◌∷◌, length, sym, refl, ap, ◌∙◌, arith}
use Rattle.graph.specs.History.{before}
use Rattle.orderings.specs.declared.words.Kind.TheVariants.{Task}
use Rattle.orderings.specs.Store.{chain}
use Rattle.tree.specs.declared.node.Node.{Node}
use Rattle.tree.specs.Ancestors.{on}
use Rattle.tree.specs.Nodes.{shape, marks, SoundTree}
use Rattle.tree.specs.ProgramTree.{place_of}
use Rattle.orderings.specs.Chains.{chain_main}
use Rattle.orderings.proofs.Framed.{framed_main}
use Rattle.tree.specs.Chains.{on_here}

abbrev pub main_node : Node
main_node = record { kind = Task; live = true; parent = 0; within = 0; depth = 0; jump = 0 }

pub sound_root : (t : List Node) → SoundTree (shape (main_node ∷ t)) (marks (main_node ∷ t)) 1 0 1
sound_root t =
    let alone = chain_main (shape (main_node ∷ t)).outward 0 0 refl in
    record {
      counted = sym (ap length alone);
      framed = framed_main (shape (main_node ∷ t)) refl refl;
      marked = record {
        lives = λ s l. let z : s ≡ 0 = omega arith in ap (marks (main_node ∷ t)).live z ∙ sym (ap (λ (ss : List ℕ). on ss s) alone ∙ on_here s 0 [] z);
        main_depth = refl;
        main_jump = refl;
        deeper = λ s l ne. absurd (ne (omega arith));
        rule = λ s l ne. absurd (ne (omega arith));
      };
    }

pub main_place : (t : List Node) → place_of (shape (main_node ∷ t)) 1 0 0 ≡ before 0
unfolding chain
main_place t = refl
