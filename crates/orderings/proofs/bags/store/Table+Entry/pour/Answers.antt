use Rattle.std.proofs.Common.{List, ap, ◌∙◌, arith}
use Rattle.orderings.specs.declared.bags.entry.Entry.{Entry}
use Rattle.orderings.specs.Store.{head_of}
use Rattle.orderings.specs.Table.{entries}
use Rattle.orderings.proofs.Filling.{put_filled}
use Rattle.orderings.proofs.bags.store.Table+Entry.pour.Goals as goal

pub returns : goal.returns
returns c =
    let k = c.args.bag in
    let r = c.link-root.result in
    let m = c.link-root.new.self.main in
    let t : List Entry = c.link-root.new.self.lent.now in
    let size = c.link-root.ensures.size in
    let a-is = c.head.ensures ∙ ap (λ (e : Entry). head_of e k) c.at.ensures in
    let filled = put_filled (entries c.args.self.now) m t c.head.result c.args.x r k c.link-root.ensures.bags c.link-root.ensures.scopes c.link-root.ensures.answer (omega arith) (omega arith) (omega arith) (omega arith) (entries c.set_head.new.self) c.set_head.ensures a-is in
    let same = filled.2 in
    record { bags = filled.0; scopes = filled.1; size = omega arith }
