-- The filled slots of a row, the first class to reach the record first: what is looked up in them, and what an access does to them.
use Rattle.std.specs.Prelude.{ℕ, Bool, true, false, cond, ◌&&◌, List, [], ◌∷◌, length, Some, None, Option, ◌==◌, nat_lt}
use Rattle.std.specs.List.{position_or_len}
use Rattle.rows.specs.declared.row.Slot.{Slot}
use Rattle.rows.specs.declared.words.Leader.{Leader}

-- whether one of the slots holds the class
abbrev pub holds_class : ℕ → List Slot → Bool
holds_class c [] = false
holds_class c (s ∷ ss) = cond (s.class == c) true (holds_class c ss)

-- there is room for a class that is held already, and for an eighth class
abbrev pub has_room : ℕ → List Slot → Bool
has_room c ss = cond (holds_class c ss) true (nat_lt (length ss) 8)

-- where a class is held, or else would be
abbrev pub index_of : ℕ → List Slot → ℕ
index_of c ss = position_or_len (λ s. s.class == c) ss

abbrev pub led_by : Slot → Leader
led_by s = record { event = s.event; task = s.task }

-- the leader of a class: the first slot that holds it
abbrev pub leader_in : List Slot → ℕ → Option Leader
leader_in [] c = None
leader_in (s ∷ ss) c = cond (s.class == c) (Some (led_by s)) (leader_in ss c)

-- What event n, an access of class c, finds: the first slot whose class clashes with c and whose task is unordered makes a clash, of which the
-- two event numbers are told, the earlier first. None is clear.
abbrev pub first_clash : (ℕ → ℕ → Bool) → (ℕ → Bool) → ℕ → ℕ → List Slot → Option (ℕ × ℕ)
first_clash clash unordered c n [] = None
first_clash clash unordered c n (s ∷ ss) =
    cond (clash s.class c && unordered s.task) (Some (s.event, n)) (first_clash clash unordered c n ss)

-- The leader of the class of a new access is settled: the first access of the class becomes leader, a later one takes over where the leader's
-- task is before.
abbrev pub settled : (ℕ → Bool) → Slot → List Slot → List Slot
settled unordered new [] = new ∷ []
settled unordered new (s ∷ ss) =
    cond (s.class == new.class) (cond (unordered s.task) s new ∷ ss) (s ∷ settled unordered new ss)
