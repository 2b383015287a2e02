-- A row as it lies in memory, and what an access answers and leaves there, for every row and every meaning of the ordering.
use Rattle.std.specs.Prelude.{ℕ, Bool, true, false, cond, not, ◌&&◌, List, [], ◌∷◌, ◌++◌, length, take, drop, replicate, Some, None, Ok, Err, Option, Result, nat_le, nat_lt}
use Rattle.graph.specs.History.{innermost_task}
use Rattle.orderings.specs.declared.words.Fault.{Fault}
use Rattle.orderings.specs.declared.words.Kind.{Kind}
use Rattle.orderings.specs.declared.words.Kind.TheVariants.{Task, Finish}
use Rattle.orderings.specs.declared.words.Word.{Word}
use Rattle.orderings.specs.declared.words.Word.TheVariants.{Before, Unordered}
use Rattle.orderings.specs.Meaning.{Meaning, Begun, asked, kind_at}
use Rattle.rows.specs.declared.row.Row.{Row}
use Rattle.rows.specs.declared.row.Slot.{Slot}
use Rattle.rows.specs.declared.words.Leader.{Leader}
use Rattle.rows.specs.declared.words.RowFault.{RowFault}
use Rattle.rows.specs.declared.words.RowFault.TheVariants.{Full, Damaged}
use Rattle.rows.specs.Slots.{holds_class, has_room, leader_in, first_clash, settled}

abbrev pub no_slot : Slot
no_slot = record { class = 0; event = 0; task = 0 }

-- a row filled with zeros
abbrev pub zero_row : Row
zero_row = record { count = 0; slots = replicate 8 no_slot }

-- what stands past the last row; no row is read there
abbrev pub no_row : Row
no_row = record { count = 0; slots = [] }

abbrev pub filled : Row → List Slot
filled row = take row.count row.slots

-- the row with these slots filled, and what lay behind them
abbrev pub refilled : Row → List Slot → Row
refilled row ss = record { count = length ss; slots = ss ++ drop (length ss) row.slots }

-- the leader of a class in a row; a row with a count above 8 has none
abbrev pub row_leader : Row → ℕ → Option Leader
row_leader row c = cond (nat_le row.count 8) (leader_in (filled row) c) None

-- whether the ordering calls a task unordered
abbrev pub says_unordered : Result Word Fault → Bool
says_unordered (Ok Unordered) = true
says_unordered (Ok Before) = false
says_unordered (Err e) = false

abbrev pub is_unordered_in : List Begun → ℕ → Bool
is_unordered_in bs t = says_unordered (asked bs t)

abbrev pub says_task : Option Kind → Bool
says_task (Some Task) = true
says_task (Some Finish) = false
says_task None = false

-- A filled slot, before others, is whole unless its class is unknown or held once more, its task was never begun, or its event number is not
-- below the n events.
abbrev pub slot_whole : (ℕ → Bool) → List Begun → ℕ → Slot → List Slot → Bool
slot_whole known bs n s others =
    known s.class && (not (holds_class s.class others) && (says_task (kind_at bs s.task) && nat_lt s.event n))

abbrev pub slots_whole : (ℕ → Bool) → List Begun → ℕ → List Slot → Bool
slots_whole known bs n [] = true
slots_whole known bs n (s ∷ ss) = slot_whole known bs n s ss && slots_whole known bs n ss

-- a row is whole unless its count is above 8 or a filled slot is not
abbrev pub row_whole : (ℕ → Bool) → List Begun → ℕ → Row → Bool
row_whole known bs n row = nat_le row.count 8 && slots_whole known bs n (filled row)

-- What event n, an access of class c, is answered: a damaged row is refused, then a row that holds eight other classes.
abbrev pub row_answer : (ℕ → Bool) → (ℕ → ℕ → Bool) → Meaning → ℕ → ℕ → Row → Result (Option (ℕ × ℕ)) RowFault
row_answer known clash m n c row =
    cond (row_whole known m.begun n row)
    (cond (has_room c (filled row)) (Ok (first_clash clash (is_unordered_in m.begun) c n (filled row))) (Err Full))
    (Err Damaged)

-- and what it leaves: a refusal nothing, an accepted access the leader of its class settled
abbrev pub row_after : Meaning → ℕ → ℕ → Row → Result (Option (ℕ × ℕ)) RowFault → Row
row_after m n c row (Ok f) =
    refilled row (settled (is_unordered_in m.begun) (record { class = c; event = n; task = innermost_task m.opened }) (filled row))
row_after m n c row (Err e) = row
