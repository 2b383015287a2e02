-- The meaning of a history tells what the history tells.
use Rattle.std.proofs.Common.{◌≡◌, ℕ, ◌+◌, ◌-◌, List, length, Some, None, Ok, Option, refl, ap, ◌∙◌, arith}
use Rattle.graph.specs.History.{History, Scope, begun, innermost_task}
use Rattle.orderings.specs.declared.questions.Question.{Question}
use Rattle.orderings.specs.declared.questions.Question.TheVariants.{WordOf, InnermostTask, OpenCount, KindOf, ScopesBegun, NumbersLeft}
use Rattle.orderings.specs.declared.questions.Told.TheVariants.{Word as OfWord, Number, Kind as OfKind}
use Rattle.orderings.specs.declared.words.Kind.{Kind}
use Rattle.orderings.specs.declared.words.Kind.TheVariants.{Task, Finish}
use Rattle.orderings.specs.Meaning.{Meaning, Begun, kind, kind_at, word_of}
use Rattle.orderings.specs.Past.{kind_of, as_begun, Means}
use Rattle.orderings.specs.Questions.{ok_as, telling, word_of_past, telling_past}

module _ (n : ℕ) (h : History) (m : Meaning) (M : Means n h m) where
  pub kind_as : (t : ℕ) → kind_at m.begun t ≡ kind_of h t
  kind_as t = ap kind (M.scope t) ∙ go (kind_of h t)
    where
      go : (o : Option Kind) → kind (as_begun h t o) ≡ o
      go None = refl
      go (Some Task) = refl
      go (Some Finish) = refl

  left_is : m.left ≡ (n + 1) - begun h
  left_is = let q = M.left in omega arith

  pub telling_as : (q : Question) → telling m q ≡ telling_past n h q
  telling_as (WordOf t) = ap (λ (o : Option Begun). ok_as OfWord (word_of o)) (M.scope t) ∙ go (kind_of h t)
    where
      go : (o : Option Kind) → ok_as OfWord (word_of (as_begun h t o)) ≡ word_of_past h t o
      go None = refl
      go (Some Task) = refl
      go (Some Finish) = refl
  telling_as InnermostTask = ap (λ (ss : List Scope). Ok (Number (innermost_task ss))) M.opened
  telling_as OpenCount = ap (λ (ss : List Scope). Ok (Number (length ss))) M.opened
  telling_as (KindOf k) = ap (λ (o : Option Kind). Ok (OfKind o)) (kind_as k)
  telling_as ScopesBegun = ap (λ (k : ℕ). Ok (Number k)) M.count
  telling_as NumbersLeft = ap (λ (k : ℕ). Ok (Number k)) left_is
