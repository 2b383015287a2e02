-- What the writes of a pour amount to.
use Rattle.std.proofs.Common.{◌≡◌, ℕ, ◌-◌, ◌/◌, ◌<◌, ◌≤◌, List, ◌∷◌, length, get_or, set, refl, ap, ◌∙◌, arith, length-set}
use Rattle.orderings.specs.declared.bags.entry.Entry.{Entry}
use Rattle.orderings.specs.Forest.{upd, winner, linked}
use Rattle.orderings.specs.Store.{empty, entry_at, frames, forest, head, with_head, Contents, contents, joined, poured}
use Rattle.orderings.proofs.Entries.{table_set, with_bag, bag_set, head_put, frames_kept}
use Rattle.orderings.proofs.Merges.{winner_some, winner_low}

filled : (c d e : Contents) (a x r k : ℕ) → d ≡ record { forest = linked c.forest a x; bag = upd c.bag r k; head = c.head } → e ≡ record { forest = d.forest; bag = d.bag; head = upd d.head k r } → a ≡ c.head k → r ≡ winner c.forest a x → e ≡ poured c k x
filled c d e a x r k linked-is head-is a-is r-is =
    let won : r ≡ winner c.forest (c.head k) x = r-is ∙ ap (λ (b : ℕ). winner c.forest b x) a-is in
    head-is
    ∙ (λ j. record { forest = (linked-is j).forest; bag = (linked-is j).bag; head = upd (linked-is j).head k r })
    ∙ (λ j. record { forest = linked c.forest (a-is j) x; bag = upd c.bag (won j) k; head = upd c.head k (won j) })

-- the table t after its root r got the number k
abbrev pub numbered : List Entry → ℕ → ℕ → List Entry
numbered t r k = set t (r - 1) (with_bag k (get_or t (r - 1) empty))

-- After the link of a and x the entries are m and t. The root r gets the number k of a bag, and the scope of that bag gets the root.
module _ (es : List Entry) (m : Entry) (t : List Entry) (a x r k : ℕ) (links : contents (m ∷ t) ≡ joined (contents es) a x) (stay : frames (m ∷ t) ≡ frames es) (r-is : r ≡ winner (forest es) a x) (some : 0 < x) (a_in : a ≤ length t) (x-in : x ≤ length t) where
  r_some : 0 < r
  r_some = let won = winner_some (forest es) a x (λ z. some) in omega arith

  r_in : r < length (m ∷ t)
  r_in = let low = winner_low (forest es) a x (length t) a_in x-in in omega arith

  put : m ∷ numbered t r k ≡ set (m ∷ t) r (with_bag k (entry_at (m ∷ t) r))
  put = table_set m t r (with_bag k) r_some

  numbered_is : contents (m ∷ numbered t r k) ≡ record { forest = linked (forest es) a x; bag = upd (contents es).bag r k; head = head es }
  numbered_is = ap contents put ∙ bag_set (m ∷ t) r r_in k ∙ (λ j. record { forest = (links j).forest; bag = upd (links j).bag r k; head = (links j).head })

  numbered_frames : frames (m ∷ numbered t r k) ≡ frames es
  numbered_frames = ap frames put ∙ frames_kept (m ∷ t) r _ r_in refl refl refl ∙ stay

  module _ (s-in : k / 2 ≤ length t) (us : List Entry) where
    inside : k / 2 < length (m ∷ numbered t r k)
    inside = let size = length-set t (r - 1) (with_bag k (get_or t (r - 1) empty)) in omega arith

    pub put_filled : us ≡ set (m ∷ numbered t r k) (k / 2) (with_head k r (entry_at (m ∷ numbered t r k) (k / 2))) → a ≡ head es k → (contents us ≡ poured (contents es) k x) × (frames us ≡ frames es) × (length us ≡ length (m ∷ t))
    put_filled e a-is = (
      filled (contents es) _ (contents us) a x r k numbered_is (ap contents e ∙ head_put (m ∷ numbered t r k) (k / 2) inside r k refl) a-is r-is,
      ap frames e ∙ frames_kept (m ∷ numbered t r k) (k / 2) _ inside refl refl refl ∙ numbered_frames,
      (let size = ap length e ∙ length-set (m ∷ numbered t r k) (k / 2) _ in let same = length-set t (r - 1) (with_bag k (get_or t (r - 1) empty)) in omega arith),
    )
