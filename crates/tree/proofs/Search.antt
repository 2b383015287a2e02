-- What holds of each tree: its open scopes, how long a search in it takes, and its answers.
use Rattle.std.proofs.Common.{◌≡◌, ℕ, ◌^◌, ◌<◌, true, false, Ok, sym, refl, ap, ◌∙◌, subst, arith}
use Rattle.orderings.specs.declared.words.Kind.{Kind}
use Rattle.orderings.specs.declared.words.Kind.TheVariants.{Task}
use Rattle.orderings.specs.declared.words.Word.{Word}
use Rattle.orderings.specs.declared.words.Word.TheVariants.{Before}
use Rattle.orderings.proofs.Numbers.{begun_few}
use Rattle.tree.specs.declared.Tree.{Tree}
use Rattle.orderings.specs.Meaning.{asked}
use Rattle.orderings.specs.Store.{chain}
use Rattle.tree.specs.Ancestors.{on}
use Rattle.orderings.specs.Table.{entries}
use Rattle.tree.specs.Nodes.{marks, Turns, SoundTree}
use Rattle.tree.specs.ProgramTree.{tree, place_of, meaning, OpenAbove, word_under, Query, Closed, side_of, Within3Log, Within48}
use Rattle.orderings.proofs.Placed.{asked_task}
use Rattle.tree.specs.Chains.{above_on}
use Rattle.tree.proofs.Ancestors.{true_false, above_low, not_above}
use Rattle.tree.proofs.Asks.{open_above, word_open, says_open, word_shut, says_shut}
use Rattle.tree.specs.Props.{reveal_tree}
use Rattle.tree.proofs.Sides.{found}
use Rattle.tree.proofs.Turns.{enough, turns_side}

module _ (t : Tree) where
  pub sound_of : SoundTree (tree t) (marks (entries t.nodes)) t.scopes.begun t.scopes.inner t.scopes.count
  sound_of = reveal_tree t.sound

  pub opens : OpenAbove t
  opens = open_above (tree t) t.scopes.begun t.scopes.inner sound_of.framed t.scopes.innermost

  pub closed_off : (x : ℕ) → Closed t x → on (chain (tree t).outward t.scopes.begun t.scopes.inner) x ≡ false
  closed_off x c = not_above (tree t).outward t.scopes.begun sound_of.framed.inward x t.scopes.inner t.scopes.innermost c.shut

  -- a scope begun that is not live is closed
  pub not_live : (x : ℕ) → x < t.scopes.begun → (marks (entries t.nodes)).live x ≡ false → Closed t x
  not_live x l c = record {
    begun = l;
    shut = λ above. true_false _ (above_on (tree t).outward t.scopes.begun sound_of.framed.inward x t.scopes.inner t.scopes.innermost above) (sym (sound_of.marked.lives x l) ∙ c);
  }

  pub side_begun : (x : ℕ) → Closed t x → side_of t x < t.scopes.begun
  side_begun x c =
      let l = c.begun in
      let r = found (tree t).outward t.scopes.begun sound_of.framed.inward t.scopes.inner t.scopes.innermost t.scopes.begun x l l (closed_off x c) in
      let low = above_low (tree t).outward t.scopes.begun sound_of.framed.inward (side_of t x) x l r.towards in
      omega arith

  pub within_3_log : Within3Log t
  within_3_log r few x c =
      let s = sound_of in
      let off = closed_off x c in
      let end = enough (tree t) (marks (entries t.nodes)) t.scopes.begun t.scopes.inner s.framed t.scopes.innermost s.marked r few x c.begun (s.marked.lives x c.begun ∙ off) in
      let at = turns_side (tree t) (marks (entries t.nodes)) t.scopes.begun t.scopes.inner s.framed t.scopes.innermost s.marked end.0 x end.2 end.3 c.begun off in
      (end.0, end.1, subst (Turns (tree t) (marks (entries t.nodes)) end.0 x) at end.3)

  pub within_48 : Within48 t
  within_48 = let most : 2 ^ 16 ≡ 65536 = refl in let few = begun_few t.scopes in within_3_log 16 (omega arith)

  -- the answer about a task x, and that it is what the query says
  abbrev Answers : ℕ → Word → Type 0
  Answers x w = (asked (meaning t).begun x ≡ Ok w) × Query t x w

  pub answers_open : (x : ℕ) → x < t.scopes.begun → (tree t).kind x ≡ Task → (marks (entries t.nodes)).live x ≡ true → Answers x Before
  answers_open x l task live =
      let fr = tree t in
      let o = sym (sound_of.marked.lives x l) ∙ live in
      (asked_task fr (place_of fr t.scopes.begun t.scopes.inner) t.scopes.begun x l task ∙ ap (λ (w : Word). Ok w) (word_open fr t.scopes.begun t.scopes.inner sound_of.framed t.scopes.innermost x l o), says_open fr t.scopes.begun t.scopes.inner sound_of.framed t.scopes.innermost x l o)

  pub answers_closed : (x : ℕ) (k : Kind) → Closed t x → (tree t).kind x ≡ Task → (tree t).kind (side_of t x) ≡ k → Answers x (word_under k)
  answers_closed x k c task is =
      let fr = tree t in
      let off = closed_off x c in
      let word-is = ap (λ (k : Kind). word_under k) is in (
        asked_task fr (place_of fr t.scopes.begun t.scopes.inner) t.scopes.begun x c.begun task ∙ ap (λ (w : Word). Ok w) (word_shut fr t.scopes.begun t.scopes.inner sound_of.framed t.scopes.innermost x c.begun off ∙ word-is),
        subst (Query t x) word-is (says_shut fr t.scopes.begun t.scopes.inner sound_of.framed t.scopes.innermost x c.begun off),
      )
