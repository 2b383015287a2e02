use Rattle.std.proofs.Common.{◌≡◌, ℕ, Ok, Err, Result, sym, ap, ◌∙◌, subst, arith}
use Rattle.orderings.specs.declared.words.Kind.TheVariants.{Task, Finish}
use Rattle.orderings.specs.declared.words.Word.{Word}
use Rattle.orderings.specs.declared.words.Fault.{Fault}
use Rattle.orderings.specs.declared.words.Fault.TheVariants.{NoSuchTask}
use Rattle.tree.specs.declared.Tree.{Tree}
use Rattle.tree.specs.declared.node.Node.{Node}
use Rattle.tree.specs.ProgramTree.{tree, place_of, Query}
use Rattle.orderings.proofs.Placed.{asked_none, asked_finish}
use Rattle.tree.proofs.Search.{opens, not_live, side_begun, within_48, within_3_log, answers_open, answers_closed}
use Rattle.tree.proofs.Tree.word_of.Goals as goal

-- a refusal gives no word, and an answer one
no_word : (w : Word) → ◌≡◌ {A = Result Word Fault} (Err NoSuchTask) (Ok w) → ⊥
no_word w e = let z : ◌≡◌ {A = ℕ} 0 1 = cc in omega arith

the_word : (t : Tree) (x : ℕ) (v w : Word) → Query t x v → ◌≡◌ {A = Result Word Fault} (Ok v) (Ok w) → Query t x w
the_word t x v w q e = let same : v ≡ w = cc in subst (Query t x) same q

pub returns-then-task-begun : goal.returns-then-task-begun
returns-then-task-begun c =
    let t = c.args.self.now in
    record {
      answer = sym (asked_none (tree t) (place_of (tree t) t.scopes.begun t.scopes.inner) t.scopes.begun c.args.task (let begun = c.begun.ensures in omega arith));
      query = λ w e. absurd (no_word w e);
      scopes = opens t;
      turns = within_48 t;
      logarithmic = within_3_log t;
    }

pub returns-in-Finish : goal.returns-in-Finish
returns-in-Finish c =
    let t = c.args.self.now in
    let kind = sym (ap (λ (e : Node). e.kind) c.node-node.ensures) ∙ c.in-Finish.is in
    record {
      answer = sym (asked_finish (tree t) (place_of (tree t) t.scopes.begun t.scopes.inner) t.scopes.begun c.args.task (let begun = c.begun.ensures in omega arith) kind);
      query = λ w e. absurd (no_word w e);
      scopes = opens t;
      turns = within_48 t;
      logarithmic = within_3_log t;
    }

pub returns-then-node : goal.returns-then-node
returns-then-node c =
    let t = c.args.self.now in
    let kind = sym (ap (λ (e : Node). e.kind) c.node-node.ensures) ∙ c.in-Task.is in
    let live = sym (ap (λ (e : Node). e.live) c.node-node.ensures) ∙ c.if-node.true in
    let told = answers_open t c.args.task (let begun = c.begun.ensures in omega arith) kind live in
    record { answer = sym told.0; query = λ w e. the_word t c.args.task _ w told.1 e; scopes = opens t; turns = within_48 t; logarithmic = within_3_log t }

pub side-side-requires : goal.side-side-requires
side-side-requires c = not_live c.args.self.now c.args.task (let begun = c.begun.ensures in omega arith) (sym (ap (λ (e : Node). e.live) c.node-node.ensures) ∙ c.if-node.false)

pub node-requires : goal.node-requires
node-requires c =
    let t = c.args.self.now in
    let shut = not_live t c.args.task (let begun = c.begun.ensures in omega arith) (sym (ap (λ (e : Node). e.live) c.node-node.ensures) ∙ c.if-node.false) in
    let low = side_begun t c.args.task shut in
    let is = c.side-side.ensures in
    omega arith

pub returns-in-Task-kind : goal.returns-in-Task-kind
returns-in-Task-kind c =
    let t = c.args.self.now in
    let shut = not_live t c.args.task (let begun = c.begun.ensures in omega arith) (sym (ap (λ (e : Node). e.live) c.node-node.ensures) ∙ c.if-node.false) in
    let kind = sym (ap (λ (e : Node). e.kind) c.node-node.ensures) ∙ c.in-Task.is in
    let side = sym (ap (λ (e : Node). e.kind) c.node.ensures ∙ ap (tree t).kind c.side-side.ensures) ∙ c.in-Task-kind.is in
    let told = answers_closed t c.args.task Task shut kind side in
    record { answer = sym told.0; query = λ w e. the_word t c.args.task _ w told.1 e; scopes = opens t; turns = within_48 t; logarithmic = within_3_log t }

pub returns-in-Finish-kind : goal.returns-in-Finish-kind
returns-in-Finish-kind c =
    let t = c.args.self.now in
    let shut = not_live t c.args.task (let begun = c.begun.ensures in omega arith) (sym (ap (λ (e : Node). e.live) c.node-node.ensures) ∙ c.if-node.false) in
    let kind = sym (ap (λ (e : Node). e.kind) c.node-node.ensures) ∙ c.in-Task.is in
    let side = sym (ap (λ (e : Node). e.kind) c.node.ensures ∙ ap (tree t).kind c.side-side.ensures) ∙ c.in-Finish-kind.is in
    let told = answers_closed t c.args.task Finish shut kind side in
    record { answer = sym told.0; query = λ w e. the_word t c.args.task _ w told.1 e; scopes = opens t; turns = within_48 t; logarithmic = within_3_log t }
