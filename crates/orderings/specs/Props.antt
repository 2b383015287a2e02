-- That bags are sound has one proof at most, so the fact can be had back from the ghost field.
use Rattle.std.proofs.Common.{◌≡◌, ℕ, ◌+◌, ◌*◌, List, [], ◌∷◌, sym, refl, arith}
use mathlib.Core.HLevel.{Discrete, hedberg, Π_prop, ×_prop, Unit-prop}
use mathlib.Core.Logic.{∥∥₁_elim}
use native.Mathlib.Bridge.{le_prop}
use native.Mathlib.Nat.{ℕ_set}
use Rattle.orderings.specs.declared.words.Kind.{Kind}
use Rattle.orderings.specs.declared.words.Kind.TheVariants.{Task, Finish}
use Rattle.orderings.specs.Forest.{Forest, Grown}
use Rattle.orderings.specs.Store.{Frames, Contents, chain}
use Rattle.orderings.specs.Sound.{Framed, Live, Each, Sound}

pub task_finish : (k : Kind) → k ≡ Task → k ≡ Finish → ⊥
task_finish k t f = let z : ◌≡◌ {A = ℕ} 0 1 = cc in omega arith

kind_discrete : Discrete Kind
kind_discrete Task Task = yes refl
kind_discrete Task Finish = no (λ e. task_finish Finish (sym e) refl)
kind_discrete Finish Task = no (λ e. task_finish Finish e refl)
kind_discrete Finish Finish = yes refl

pub kind_set : IsSet Kind
kind_set = hedberg kind_discrete

grown_prop : (f : Forest) (n : ℕ) (x y : Grown f n) → x ≡ y
grown_prop f n x y = λ i. record {
  inside = Π_prop (λ _. Π_prop (λ _. le_prop)) x.inside y.inside i;
  none = ℕ_set _ _ x.none y.none i;
  some = Π_prop (λ _. Π_prop (λ _. Π_prop (λ _. le_prop))) x.some y.some i;
  rises = Π_prop (λ _. Π_prop (λ _. Π_prop (λ _. le_prop))) x.rises y.rises i;
  few = le_prop x.few y.few i;
}

live_prop : (c : Contents) (n k : ℕ) (x y : Live c n k) → x ≡ y
live_prop c n k x y = λ i. record { inside = le_prop x.inside y.inside i; top = ℕ_set _ _ x.top y.top i; named = Π_prop (λ _. ℕ_set _ _) x.named y.named i }

each_prop : (P : ℕ → Type 0) → ((n : ℕ) (x y : P n) → x ≡ y) → (ss : List ℕ) (x y : Each P ss) → x ≡ y
each_prop P h [] x y = Unit-prop x y
each_prop P h (s ∷ ss) x y = ×_prop (h s) (each_prop P h ss) x y

pub framed_prop : (fr : Frames) (n : ℕ) (x y : Framed fr n) → x ≡ y
framed_prop fr n x y = λ i. record {
  main = kind_set _ _ x.main y.main i;
  inward = Π_prop (λ _. Π_prop (λ _. Π_prop (λ _. le_prop))) x.inward y.inward i;
  own = Π_prop (λ _. Π_prop (λ _. Π_prop (λ _. ℕ_set _ _))) x.own y.own i;
  lent = Π_prop (λ _. Π_prop (λ _. Π_prop (λ _. ℕ_set _ _))) x.lent y.lent i;
}

sound_prop : (fr : Frames) (c : Contents) (n s k : ℕ) (x y : Sound fr c n s k) → x ≡ y
sound_prop fr c n s k x y = λ i. record {
  counted = ℕ_set _ _ x.counted y.counted i;
  framed = framed_prop _ _ x.framed y.framed i;
  grown = grown_prop _ _ x.grown y.grown i;
  numbered = Π_prop (λ _. Π_prop (λ _. Π_prop (λ _. le_prop))) x.numbered y.numbered i;
  heads = Π_prop (λ _. Π_prop (λ _. Π_prop (λ _. Π_prop (λ _. ℕ_set _ _)))) x.heads y.heads i;
  filled = Π_prop (λ _. Π_prop (λ _. Π_prop (λ _. le_prop))) x.filled y.filled i;
  serial = Π_prop (λ _. Π_prop (λ _. Π_prop (λ _. Π_prop (λ _. Π_prop (λ _. Π_prop (λ _. kind_set _ _)))))) x.serial y.serial i;
  live = each_prop (λ s. Live c n (2 * s) × Live c n (2 * s + 1)) (λ s. ×_prop (live_prop c n (2 * s)) (live_prop c n (2 * s + 1))) (chain fr.outward n s) x.live y.live i;
}

pub reveal : {fr : Frames} {c : Contents} {n s k : ℕ} → ∥ Sound fr c n s k ∥₁ → Sound fr c n s k
reveal {fr} {c} {n} {s} {k} t = ∥∥₁_elim t (sound_prop fr c n s k) (λ x. x)
