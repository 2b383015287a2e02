-- What each call of the check answers and leaves, for every check, meaning and rows. What is left is a function of the answer, so that a
-- refusal visibly leaves all as it was.
use Rattle.std.specs.Prelude.{ℕ, ◌+◌, Bool, cond, ◌&&◌, List, length, replicate, Some, None, Option, Ok, Err, Result, ◌==◌, nat_le, nat_lt, slice_index_or, slice_set}
use Rattle.orderings.specs.declared.words.Fault.{Fault}
use Rattle.orderings.specs.Meaning.{Meaning}
use Rattle.rows.specs.declared.row.Row.{Row}
use Rattle.rows.specs.declared.words.RowFault.{RowFault}
use Rattle.rows.specs.Rows.{no_row, zero_row, row_answer, row_after}
use Rattle.trace_check.specs.declared.state.Check.{Check}
use Rattle.trace_check.specs.declared.words.Counts.{Counts}
use Rattle.trace_check.specs.declared.words.Refusal.{Refusal}
use Rattle.trace_check.specs.declared.words.Refusal.TheVariants.{BadStart, AlreadyBegun, LimitReached, NoSuchRecord, UnknownClass, ScopeOpen, Row as RowRefuses, Order}

-- what a check holds, without its invariant
pub record View : Type 0 where
  pub limit : ℕ
  pub events : ℕ
  pub accesses : ℕ
  pub clashes : ℕ

abbrev pub view : Check → View
view k = record { limit = k.limit; events = k.events; accesses = k.accesses; clashes = k.clashes }

-- Start: on 1 to 65,536 rows, with a limit of 1 to 1,000,000, and an ordering that has begun main alone.
abbrev pub new_check : ℕ → View
new_check limit = record { limit = limit; events = 0; accesses = 0; clashes = 0 }

abbrev pub is_between : ℕ → ℕ → ℕ → Bool
is_between low high n = nat_le low n && nat_le n high

abbrev pub start_answer : ℕ → ℕ → ℕ → Result View Refusal
start_answer rows limit begun =
    cond (is_between 1 65536 rows && is_between 1 1000000 limit)
    (cond (begun == 1) (Ok (new_check limit)) (Err AlreadyBegun))
    (Err BadStart)

abbrev pub seen : Result Check Refusal → Result View Refusal
seen (Ok k) = Ok (view k)
seen (Err e) = Err e

-- an accepted start fills the rows with zeros
abbrev pub start_rows : Result Check Refusal → List Row → List Row
start_rows (Ok k) rows = replicate (length rows) zero_row
start_rows (Err e) rows = rows

-- Opens, closes and accesses: refused once there are as many events as the limit.
abbrev pub has_room : View → Bool
has_room k = nat_lt k.events k.limit

abbrev pub limited : {A : Type 0} → View → Result A Refusal → Result A Refusal
limited k answer = cond (has_room k) answer (Err LimitReached)

-- An open or a close: then as the ordering refuses.
abbrev pub by_ordering : {A : Type 0} → Result A Fault → Result A Refusal
by_ordering (Ok x) = Ok x
by_ordering (Err f) = Err (Order f)

-- the meaning afterwards, where the ordering would leave n
abbrev pub when_room : View → Meaning → Meaning → Meaning
when_room k m n = cond (has_room k) n m

abbrev pub one_more : View → Result ℕ Refusal → View
one_more k (Ok n) = record { limit = k.limit; events = k.events + 1; accesses = k.accesses; clashes = k.clashes }
one_more k (Err e) = k

-- An access: then for a record with no row, for an unknown class, and as the record's row refuses.
abbrev pub by_row : Result (Option (ℕ × ℕ)) RowFault → Result (Option (ℕ × ℕ)) Refusal
by_row (Ok f) = Ok f
by_row (Err f) = Err (RowRefuses f)

abbrev pub access_answer : (ℕ → Bool) → (ℕ → ℕ → Bool) → View → Meaning → List Row → ℕ → ℕ → Result (Option (ℕ × ℕ)) Refusal
access_answer known clash k m rows c r =
    limited k
    (cond (nat_lt r (length rows))
    (cond (known c) (by_row (row_answer known clash m k.events c (slice_index_or rows r no_row))) (Err UnknownClass))
    (Err NoSuchRecord))

-- one more where the access found a clash
abbrev pub one_clash : Option (ℕ × ℕ) → ℕ → ℕ
one_clash None n = n
one_clash (Some p) n = n + 1

abbrev pub one_access : View → Result (Option (ℕ × ℕ)) Refusal → View
one_access k (Ok f) = record { limit = k.limit; events = k.events + 1; accesses = k.accesses + 1; clashes = one_clash f k.clashes }
one_access k (Err e) = k

-- an accepted access changes one row
abbrev pub access_rows : View → Meaning → List Row → ℕ → ℕ → Result (Option (ℕ × ℕ)) Refusal → List Row
access_rows k m rows c r (Ok f) = slice_set rows r (row_after m k.events c (slice_index_or rows r no_row) (Ok f))
access_rows k m rows c r (Err e) = rows

-- The end: the verdict is refused while a scope besides main is open, and then the check is handed back; giving up is not.
abbrev pub counted : View → ℕ → Counts
counted k scopes = record { accesses = k.accesses; clashes = k.clashes; scopes = scopes }

abbrev pub verdict_answer : Check → Meaning → Result Counts (Refusal × Check)
verdict_answer k m = cond (length m.opened == 1) (Ok (counted (view k) (length m.begun))) (Err (ScopeOpen, k))
