-- What is looked up among the filled slots, in the library's words, and what a whole row answers.
use Rattle.std.proofs.Common.{◌≡◌, ℕ, ◌≤◌, Bool, true, cond, not, eqb, ltb, List, [], ◌∷◌, length, Ok, Err, refl, arith}
use Rattle.std.proofs.lemmas.Bool.Decides.{nat_tests}
use Rattle.std.proofs.lemmas.List.{length-take}
use Rattle.std.proofs.lemmas.List.Sums.{prefix_len-le-length}
use Rattle.std.specs.List.{list_any, find}
use Rattle.std.specs.Option.{option_map}
use Rattle.orderings.specs.Meaning.{Meaning}
use Rattle.rows.specs.declared.row.Row.{Row}
use Rattle.rows.specs.declared.row.Slot.{Slot}
use Rattle.rows.specs.declared.words.RowFault.TheVariants.{Full}
use Rattle.rows.specs.Slots.{holds_class, has_room, index_of, led_by, leader_in, first_clash}
use Rattle.rows.specs.Rows.{filled, is_unordered_in, slots_whole, row_answer}

pub held_as : (c : ℕ) (l : List Slot) → holds_class c l ≡ list_any (λ s. eqb s.class c) l
held_as c [] = refl
held_as c (s ∷ l) = let ih = held_as c l in grind (arith, nat_tests)

pub leader_as : (c : ℕ) (l : List Slot) → leader_in l c ≡ option_map led_by (find (λ s. eqb s.class c) l)
leader_as c [] = refl
leader_as c (s ∷ l) = let ih = leader_as c l in grind (arith, nat_tests)

pub index_le : (c : ℕ) (l : List Slot) → index_of c l ≤ length l
index_le c l = prefix_len-le-length (λ (s : Slot). not (eqb s.class c)) l

-- a class is held where its place is below the end
held : (c : ℕ) (l : List Slot) → holds_class c l ≡ ltb (index_of c l) (length l)
held c [] = refl
held c (s ∷ l) = let ih = held c l in grind (arith, nat_tests)

room_at : (c : ℕ) (l : List Slot) → length l ≤ 8 → has_room c l ≡ ltb (index_of c l) 8
room_at c l h =
    let e = held c l in
    let i = index_le c l in
    grind (arith, nat_tests)

-- what a whole row answers, by the place of the class
module _ (known : ℕ → Bool) (clash : ℕ → ℕ → Bool) (m : Meaning) (n c : ℕ) (row : Row) (l : List Slot) where
  pub answered : row.count ≤ 8 → l ≡ filled row → true ≡ slots_whole known m.begun n l → row_answer known clash m n c row ≡ cond (ltb (index_of c l) 8) (Ok (first_clash clash (is_unordered_in m.begun) c n l)) (Err Full)
  answered h e w =
      let short : length (filled row) ≤ 8 = simp length-take (omega arith) in
      let room = room_at c (filled row) short in
      grind (arith, nat_tests)
