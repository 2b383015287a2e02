use Rattle.std.proofs.Common.{◌≡◌, ℕ, ◌+◌, ◌*◌, ◌<◌, eqb, List, length, sym, refl, ap, ◌∙◌, subst, arith}
use Rattle.std.proofs.lemmas.Bool.{eq-eqb, ne_eqb, cond-true, cond-false}
use Rattle.orderings.specs.declared.words.Kind.{Kind}
use Rattle.orderings.specs.declared.bags.entry.Entry.{Entry}
use Rattle.orderings.specs.Forest.{winner}
use Rattle.orderings.specs.Store.{entry_at, forest, frames, contents, joined, poured, poured_by}
use Rattle.orderings.specs.Table.{entries}
use Rattle.orderings.proofs.Entries.{head_serial, head_parallel}
use Rattle.orderings.proofs.Closing.{linkable_same, outer_inside, task_inside, serial_linkable, parallel_linkable, task_linkable, outer_linkable, own_root_inside}
use Rattle.orderings.proofs.bags.store.Table+Entry.pour_out.Goals as goal

-- the bags of the entry that was read
module _ (es : List Entry) (s : ℕ) (e : Entry) (read : e ≡ entry_at es s) where
  serial_is : e.serial ≡ (contents es).head (2 * s)
  serial_is = ap (λ (x : Entry). x.serial) read ∙ sym (head_serial es s)

  parallel_is : e.parallel ≡ (contents es).head (2 * s + 1)
  parallel_is = ap (λ (x : Entry). x.parallel) read ∙ sym (head_parallel es s)

pub link-root-requires : goal.link-root-requires
link-root-requires c =
    let es : List Entry = entries c.args.self.now in
    let s = c.args.s in
    let size = length c.args.self.now.lent.now in
    let a = serial_is es s c.at-scope.result c.at-scope.ensures in
    let b = parallel_is es s c.at-scope.result c.at-scope.ensures in
    let serial = serial_linkable (frames es) (contents es) size s c.requires in
    let parallel = parallel_linkable (frames es) (contents es) size s c.requires in
    let serial-in = serial.inside in
    let parallel-in = parallel.inside in
    record { a_in_bounds = (omega arith, omega arith); a_bound = λ p. subst (λ (x : ℕ). (forest es).rank x < 255) (sym a) (serial.low (omega arith)) }

pub overflow_mul-bag : goal.overflow_mul-bag
overflow_mul-bag c =
    let out = ap (λ (x : Entry). x.outward) c.at-scope.ensures in
    let outer = outer_inside _ _ _ c.args.s c.requires in
    omega arith

pub overflow_add-bag : goal.overflow_add-bag
overflow_add-bag c =
    let out = ap (λ (x : Entry). x.outward) c.at-scope.ensures in
    let outer = outer_inside _ _ _ c.args.s c.requires in
    omega arith

pub overflow_mul-bag-then-scope-ne0 : goal.overflow_mul-bag-then-scope-ne0
overflow_mul-bag-then-scope-ne0 c =
    let es : List Entry = entries c.args.self.now in
    let within = ap (λ (x : Entry). x.within) c.at-bag.ensures ∙ ap (frames es).within (ap (λ (x : Entry). x.outward) c.at-scope.ensures) in
    let task = task_inside _ _ _ c.args.s c.requires in
    omega arith

pub pour-requires : goal.pour-requires
pour-requires c =
    let es : List Entry = entries c.args.self.now in
    let s = c.args.s in
    let size = length c.args.self.now.lent.now in
    let a = serial_is es s c.at-scope.result c.at-scope.ensures in
    let b = parallel_is es s c.at-scope.result c.at-scope.ensures in
    let out = ap (λ (x : Entry). x.outward) c.at-scope.ensures in
    let root = c.link-root.ensures.answer ∙ (λ j. winner (forest es) (a j) (b j)) in
    let same = c.link-root.ensures.size in
    let outer = outer_inside (frames es) (contents es) size s c.requires in
    let own = own_root_inside (frames es) (contents es) size s c.requires in
    record {
      in_bounds = (omega arith, (omega arith, omega arith));
      linkable = linkable_same _ _ _ _ _ _ (c.link-root.ensures.bags ∙ (λ j. joined (contents es) (a j) (b j))) (ap (λ (x : ℕ). 2 * x + 1) out) same (outer_linkable (frames es) (contents es) size s c.requires);
    }

pub pour-requires-then-scope-ne0 : goal.pour-requires-then-scope-ne0
pour-requires-then-scope-ne0 c =
    let es : List Entry = entries c.args.self.now in
    let s = c.args.s in
    let size = length c.args.self.now.lent.now in
    let b = parallel_is es s c.at-scope.result c.at-scope.ensures in
    let out = ap (λ (x : Entry). x.outward) c.at-scope.ensures in
    let within = ap (λ (x : Entry). x.within) c.at-bag.ensures ∙ ap (frames es).within out in
    let task = task_inside (frames es) (contents es) size s c.requires in
    let parallel = (parallel_linkable (frames es) (contents es) size s c.requires).inside in
    record {
      in_bounds = (omega arith, (omega arith, omega arith));
      linkable = linkable_same _ _ _ _ _ _ refl (ap (λ (x : ℕ). 2 * x) within) refl (task_linkable (frames es) (contents es) size s c.requires);
    }

pub returns-in-Task-clause-bags : goal.returns-in-Task-clause-bags
returns-in-Task-clause-bags c =
    let es : List Entry = entries c.args.self.now in
    let s = c.args.s in
    let a = serial_is es s c.at-scope.result c.at-scope.ensures in
    let b = parallel_is es s c.at-scope.result c.at-scope.ensures in
    let out = ap (λ (x : Entry). x.outward) c.at-scope.ensures in
    let root = c.link-root.ensures.answer ∙ (λ j. winner (forest es) (a j) (b j)) in
    let links = c.link-root.ensures.bags ∙ (λ j. joined (contents es) (a j) (b j)) in
    let kind = sym (ap (λ (x : Entry). x.kind) c.at-scope.ensures) ∙ c.in-Task.is in
    c.pour.ensures.bags ∙ (λ j. poured (links j) (2 * out j + 1) (root j)) ∙ sym (ap (λ (k : Kind). poured_by k (frames es) (contents es) s) kind)

pub returns-then-scope-ne0-clause-bags : goal.returns-then-scope-ne0-clause-bags
returns-then-scope-ne0-clause-bags c =
    let es : List Entry = entries c.args.self.now in
    let s = c.args.s in
    let b = parallel_is es s c.at-scope.result c.at-scope.ensures in
    let out = ap (λ (x : Entry). x.outward) c.at-scope.ensures in
    let within = ap (λ (x : Entry). x.within) c.at-bag.ensures ∙ ap (frames es).within out in
    let kind = sym (ap (λ (x : Entry). x.kind) c.at-scope.ensures) ∙ c.in-Finish.is in
    c.pour-then-scope-ne0.ensures.bags ∙ (λ j. poured (contents es) (2 * within j) (b j))
    ∙ sym (ap (λ (k : Kind). poured_by k (frames es) (contents es) s) kind ∙ cond-false (eqb ((contents es).head (2 * s + 1)) 0) _ _ (ne_eqb ((contents es).head (2 * s + 1)) 0 (omega arith)))

pub returns-else-scope-ne0-clause-bags : goal.returns-else-scope-ne0-clause-bags
returns-else-scope-ne0-clause-bags c =
    let es : List Entry = entries c.args.self.now in
    let s = c.args.s in
    let b = parallel_is es s c.at-scope.result c.at-scope.ensures in
    let kind = sym (ap (λ (x : Entry). x.kind) c.at-scope.ensures) ∙ c.in-Finish.is in
    sym (ap (λ (k : Kind). poured_by k (frames es) (contents es) s) kind ∙ cond-true (eqb ((contents es).head (2 * s + 1)) 0) _ _ (eq-eqb ((contents es).head (2 * s + 1)) 0 (omega arith)))
