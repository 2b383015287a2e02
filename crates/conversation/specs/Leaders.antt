-- Who leads at a record, from the events accepted.
use Rattle.std.specs.Prelude.{ℕ, ◌-◌, cond, List, [], ◌∷◌, ◌++◌, map, length, replicate, Some, None, Option, ◌==◌}
use Rattle.graph.specs.History.{open_task, open_finish, close, access, History, scopes, innermost_task, place, is_unordered}
use Rattle.rows.specs.declared.row.Row.{Row}
use Rattle.rows.specs.declared.row.Slot.{Slot}
use Rattle.rows.specs.declared.words.Leader.{Leader}
use Rattle.rows.specs.Rows.{no_slot}

-- the class is put last, unless it is there
abbrev pub with_class : ℕ → List ℕ → List ℕ
with_class c [] = c ∷ []
with_class c (d ∷ ds) = cond (d == c) (d ∷ ds) (d ∷ with_class c ds)

-- the classes that have reached record r, in the order of their first access
abbrev pub reached : History → ℕ → List ℕ
reached [] r = []
reached (open_task ∷ h) r = reached h r
reached (open_finish ∷ h) r = reached h r
reached (close ∷ h) r = reached h r
reached (access c q ∷ h) r = cond (q == r) (with_class c (reached h r)) (reached h r)

-- an access put next, with its task
abbrev pub newest : History → Leader
newest h = record { event = length h; task = innermost_task (scopes h) }

-- the first access becomes leader; a later one takes over exactly when the leader's task is before at that time
abbrev pub taken_over : History → Option Leader → Option Leader
taken_over h None = Some (newest h)
taken_over h (Some l) = cond (is_unordered (place h l.task)) (Some l) (Some (newest h))

-- the leader of class c at record r, none before the first access of the class
abbrev pub leader : History → ℕ → ℕ → Option Leader
leader [] c r = None
leader (open_task ∷ h) c r = leader h c r
leader (open_finish ∷ h) c r = leader h c r
leader (close ∷ h) c r = leader h c r
leader (access d q ∷ h) c r = cond (q == r) (cond (d == c) (taken_over h (leader h c r)) (leader h c r)) (leader h c r)

-- the slot of a class and its leader
abbrev pub slot_of : ℕ → Option Leader → Slot
slot_of c None = no_slot
slot_of c (Some l) = record { class = c; event = l.event; task = l.task }

abbrev pub slots_of : History → ℕ → List ℕ → List Slot
slots_of h r ds = map (λ d. slot_of d (leader h d r)) ds

-- the row of record r: the classes that reached it, in the order of their first access, each with its leader, and zeros behind them
abbrev pub row_of : History → ℕ → Row
row_of h r = record {
  count = length (reached h r);
  slots = slots_of h r (reached h r) ++ replicate (8 - length (reached h r)) no_slot;
}
