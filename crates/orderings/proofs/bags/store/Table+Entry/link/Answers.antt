use Rattle.std.proofs.Common.{◌≡◌, ℕ, ◌+◌, ◌-◌, ◌<◌, ◌≤◌, ◌≢◌, List, ◌∷◌, length, get_or, set, sym, refl, ap, ◌∙◌, arith, length-set}
use Rattle.std.proofs.lemmas.Bool.{ne_eqb, eq-eqb, lt-ltb, le-ltb}
use Rattle.orderings.specs.declared.bags.entry.Entry.{Entry}
use Rattle.orderings.specs.Forest.{Forest, winner, linked, under, risen, upd}
use Rattle.orderings.specs.Store.{empty, contents, forest, frames}
use Rattle.orderings.specs.Table.{entries}
use Rattle.orderings.proofs.Entries.{table_at, table_set, with_parent, with_rank, parent_set, rank_set, frames_kept}
use Rattle.orderings.proofs.bags.store.Table+Entry.link.Goals as goal

-- the ways to link two elements
module _ (f : Forest) (a b : ℕ) (na : a ≢ 0) (nb : b ≢ 0) where
  under_wins : f.rank a < f.rank b → (winner f a b ≡ b) × (linked f a b ≡ under f a b)
  under_wins l = let x = ne_eqb a 0 na in let y = ne_eqb b 0 nb in let z = lt-ltb (f.rank a) (f.rank b) l in (rw (x, y, z), rw (x, y, z))

  over_wins : f.rank b ≤ f.rank a → (winner f a b ≡ a) × (linked f a b ≡ risen f a b)
  over_wins l = let x = ne_eqb a 0 na in let y = ne_eqb b 0 nb in let z = le-ltb (f.rank a) (f.rank b) l in (rw (x, y, z), rw (x, y, z))

pub returns-then-ours-theirs-clause-bags : goal.returns-then-ours-theirs-clause-bags
returns-then-ours-theirs-clause-bags c =
    let s = c.args.self.now in
    let a = c.args.a in
    let b = c.args.b in
    let es : List Entry = entries s in
    let ra = ap (λ (x : Entry). x.rank) (table_at s.main s.lent.now a (omega arith)) in
    let rb = ap (λ (x : Entry). x.rank) (table_at s.main s.lent.now b (omega arith)) in
    let way = under_wins (forest es) a b c.if-a-eq0.false c.if-b-eq0.false (omega arith) in
    let put = table_set s.main s.lent.now a (with_parent b) (omega arith) in
    ap contents put ∙ parent_set es a (omega arith) b ∙ (λ j. record { forest = sym way.1 j; bag = (contents es).bag; head = (contents es).head })

pub returns-then-ours-theirs-2 : goal.returns-then-ours-theirs-2
returns-then-ours-theirs-2 c =
    let s = c.args.self.now in
    let a = c.args.a in
    let b = c.args.b in
    let m = s.main in
    let t : List Entry = s.lent.now in
    let u : List Entry = set t (b - 1) (with_parent a (get_or t (b - 1) empty)) in
    let es : List Entry = entries s in
    let len : length u ≡ length t = length-set t (b - 1) _ in
    let ra = ap (λ (x : Entry). x.rank) (table_at m t a (omega arith)) in
    let rb = ap (λ (x : Entry). x.rank) (table_at m t b (omega arith)) in
    let way = over_wins (forest es) a b c.if-a-eq0.false c.if-b-eq0.false (omega arith) in
    let even = eq-eqb ((forest es).rank a) ((forest es).rank b) (omega arith) in
    let one = table_set m t b (with_parent a) (omega arith) in
    let two = table_set m u a (with_rank ((get_or t (a - 1) empty).rank + 1)) (omega arith) in
    let mid = ap contents one ∙ parent_set es b (omega arith) a in
    let risen-is : risen (forest es) a b ≡ record { parent = upd (forest es).parent b a; rank = upd (forest es).rank a ((get_or t (a - 1) empty).rank + 1) } = rw (even, ← ra) in
    record {
      answer = sym way.0;
      bags =
          ap contents two ∙ rank_set (m ∷ u) a (omega arith) _
          ∙ (λ j. record { forest = record { parent = (mid j).forest.parent; rank = upd (mid j).forest.rank a ((get_or t (a - 1) empty).rank + 1) }; bag = (mid j).bag; head = (mid j).head })
          ∙ (λ j. record { forest = sym (way.1 ∙ risen-is) j; bag = (contents es).bag; head = (contents es).head });
      scopes = ap frames two ∙ frames_kept (m ∷ u) a _ (omega arith) refl refl refl ∙ ap frames one ∙ frames_kept es b _ (omega arith) refl refl refl;
      size = simp length-set;
    }

pub returns-else-ours-theirs-2-clause-bags : goal.returns-else-ours-theirs-2-clause-bags
returns-else-ours-theirs-2-clause-bags c =
    let s = c.args.self.now in
    let a = c.args.a in
    let b = c.args.b in
    let es : List Entry = entries s in
    let ra = ap (λ (x : Entry). x.rank) (table_at s.main s.lent.now a (omega arith)) in
    let rb = ap (λ (x : Entry). x.rank) (table_at s.main s.lent.now b (omega arith)) in
    let way = over_wins (forest es) a b c.if-a-eq0.false c.if-b-eq0.false (omega arith) in
    let odd = ne_eqb ((forest es).rank a) ((forest es).rank b) (omega arith) in
    let put = table_set s.main s.lent.now b (with_parent a) (omega arith) in
    let risen-is : risen (forest es) a b ≡ under (forest es) b a = rw odd in
    ap contents put ∙ parent_set es b (omega arith) a ∙ (λ j. record { forest = sym (way.1 ∙ risen-is) j; bag = (contents es).bag; head = (contents es).head })
