-- What settling does to a row, by the place of the class.
use Rattle.std.proofs.Common.{◌≡◌, ℕ, ◌+◌, ◌<◌, ◌≤◌, Bool, true, false, List, [], ◌∷◌, ◌++◌, length, get_or, drop, set, refl, add-one, arith, get_or-take}
use Rattle.std.proofs.lemmas.Bool.Decides.{nat_tests}
use Rattle.std.proofs.lemmas.List.{length-take-le, length-set, length_push, take-append-drop, set-append_left, set_split, append_assoc}
use Rattle.rows.specs.declared.row.Row.{Row}
use Rattle.rows.specs.declared.row.Slot.{Slot}
use Rattle.rows.specs.Slots.{index_of, settled}
use Rattle.rows.specs.Rows.{no_slot, filled, refilled}
use Rattle.rows.proofs.Filled.{index_le}

module _ (free : ℕ → Bool) (new : Slot) where
  abbrev here : List Slot → ℕ
  here l = index_of new.class l

  settled_new : (l : List Slot) → length l ≤ here l → settled free new l ≡ l ++ new ∷ []
  settled_new [] h = refl
  settled_new (s ∷ l) h = let ih = settled_new l in grind (arith, nat_tests)

  settled_stays : (l : List Slot) → here l < length l → free (get_or l (here l) no_slot).task ≡ true → settled free new l ≡ l
  settled_stays [] h f = absurd (omega arith)
  settled_stays (s ∷ l) h f = let ih = settled_stays l in grind (arith, nat_tests)

  settled_over : (l : List Slot) → here l < length l → free (get_or l (here l) no_slot).task ≡ false → settled free new l ≡ set l (here l) new
  settled_over [] h f = absurd (omega arith)
  settled_over (s ∷ l) h f = let ih = settled_over l in grind (arith, nat_tests)

-- a row with its slots put back
module _ (row : Row) (le : row.count ≤ length row.slots) where
  full : length (filled row) ≡ row.count
  full = length-take-le row.count row.slots le

  refilled_same : refilled row (filled row) ≡ row
  refilled_same = rw (full, take-append-drop)

  refilled_set : (i : ℕ) (x : Slot) → i < row.count → refilled row (set (filled row) i x) ≡ record { count = row.count; slots = set row.slots i x }
  refilled_set i x h =
      let k : i < length (filled row) = rw full h in
      rw (length-set, full, ← set-append_left (filled row) (drop row.count row.slots) i x k, take-append-drop)

  refilled_push : (x : Slot) → row.count < length row.slots → refilled row (filled row ++ x ∷ []) ≡ record { count = row.count + 1; slots = set row.slots row.count x }
  refilled_push x h = rw (length_push, full, append_assoc, set_split row.slots row.count x h, add-one)

  module _ (free : ℕ → Bool) (i : ℕ) (x : Slot) (e : i ≡ index_of x.class (filled row)) where
    abbrev after : Row
    after = refilled row (settled free x (filled row))

    pub pushed : row.count ≤ i → i < length row.slots → record { count = i + 1; slots = set row.slots i x } ≡ after
    pushed h l = let f = full in let k = index_le x.class (filled row) in let n = settled_new free x (filled row) in grind (arith, refilled_push)

    pub taken_over : i < row.count → free (get_or row.slots i no_slot).task ≡ false → record { count = row.count; slots = set row.slots i x } ≡ after
    taken_over h p = let f = full in let n = settled_over free x (filled row) in grind (arith, refilled_set, get_or-take)

    pub stayed : i < row.count → free (get_or row.slots i no_slot).task ≡ true → row ≡ after
    stayed h p = let f = full in let n = settled_stays free x (filled row) in grind (arith, refilled_same, get_or-take)

-- the class is new, its leader is before, or its leader is unordered
pub ruleset cases = (pushed, taken_over, stayed)
