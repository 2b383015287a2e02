-- That a tree is sound has one proof at most, so the fact can be had back from the ghost field.
use Rattle.std.proofs.Common.{◌≡◌, ℕ}
use mathlib.Core.Bool.{Bool-set}
use mathlib.Core.HLevel.{Π_prop}
use mathlib.Core.Logic.{∥∥₁_elim}
use native.Mathlib.Nat.{ℕ_set}
use Rattle.orderings.specs.Store.{Frames}
use Rattle.tree.specs.Nodes.{Marks, Marked, SoundTree}
use Rattle.orderings.specs.Props.{framed_prop}

marked_prop : (fr : Frames) (m : Marks) (n y : ℕ) (a b : Marked fr m n y) → a ≡ b
marked_prop fr m n y a b = λ i. record {
  lives = Π_prop (λ _. Π_prop (λ _. Bool-set _ _)) a.lives b.lives i;
  main_depth = ℕ_set _ _ a.main_depth b.main_depth i;
  main_jump = ℕ_set _ _ a.main_jump b.main_jump i;
  deeper = Π_prop (λ _. Π_prop (λ _. Π_prop (λ _. ℕ_set _ _))) a.deeper b.deeper i;
  rule = Π_prop (λ _. Π_prop (λ _. Π_prop (λ _. ℕ_set _ _))) a.rule b.rule i;
}

sound_prop : (fr : Frames) (m : Marks) (n y k : ℕ) (a b : SoundTree fr m n y k) → a ≡ b
sound_prop fr m n y k a b = λ i. record {
  counted = ℕ_set _ _ a.counted b.counted i;
  framed = framed_prop fr n a.framed b.framed i;
  marked = marked_prop fr m n y a.marked b.marked i;
}

pub reveal_tree : {fr : Frames} {m : Marks} {n y k : ℕ} → ∥ SoundTree fr m n y k ∥₁ → SoundTree fr m n y k
reveal_tree {fr} {m} {n} {y} {k} t = ∥∥₁_elim t (sound_prop fr m n y k) (λ x. x)
