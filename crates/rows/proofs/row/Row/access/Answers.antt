use Rattle.std.proofs.Common.{◌≡◌, ◌≤◌, sym, ap, ◌∙◌, lt-ltb, rules}
use Rattle.orderings.specs.Meaning.{Meaning}
use Rattle.rows.specs.Slots.{first_clash}
use Rattle.rows.specs.Rows.{filled, is_unordered_in}
use Rattle.rows.proofs.Filled.{answered}
use Rattle.rows.proofs.row.Row.access.Goals as goal

pub returns-clause-answer : goal.returns-clause-answer
returns-clause-answer g c sound =
    let few : c.args.self.now.count ≤ 8 = search rules in
    let all : c.in_ok-slots.slots.now ≡ filled c.args.self.now = search rules in
    let a = answered (g.R.ClashRule.known c.args.rule.now) (g.R.ClashRule.clash c.args.rule.now) (g.O.Ordering.meaning c.args.ordering.now) c.args.event c.args.«class» c.args.self.now c.in_ok-slots.slots.now few all (c.if-not-is_whole.ensures sound) in
    let room = lt-ltb c.place_of-place.result 8 c.if-place-ge-SLOTS.false in
    let m : Meaning = g.O.Ordering.meaning c.args.ordering.now in
    let found : c.look-clash.result ≡ first_clash (g.R.ClashRule.clash c.args.rule.now) (is_unordered_in m.begun) c.args.«class» c.args.event c.in_ok-slots.slots.now = c.look-clash.ensures.answer sound ∙ ap (first_clash (g.R.ClashRule.clash c.args.rule.now) (is_unordered_in m.begun) c.args.«class» c.args.event) (search rules) in
    simp (found, a, sym c.place_of-place.ensures, room)
