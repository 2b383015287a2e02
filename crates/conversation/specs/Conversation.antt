-- A whole conversation with a check, from its start to its end.
use Rattle.std.specs.Prelude.{◌≡◌, ℕ, ◌<◌, Bool, cond, List, length, Ok, Err, Result, ◌==◌, slice_index_or}
use Rattle.graph.specs.History.{History, begun, scopes}
use Rattle.orderings.specs.Exchanges.{calls_of}
use Rattle.orderings.specs.Meaning.{Meaning}
use Rattle.orderings.specs.Past.{Means}
use Rattle.rows.specs.declared.row.Row.{Row}
use Rattle.rows.specs.Rows.{no_row}
use Rattle.trace_check.specs.declared.words.Call.{Call}
use Rattle.trace_check.specs.declared.words.Counts.{Counts}
use Rattle.conversation.specs.declared.words.Ending.{Ending}
use Rattle.conversation.specs.declared.words.Ending.TheVariants.{Verdict, GivenUp}
use Rattle.conversation.specs.Exchanges.{Exchange}
use Rattle.trace_check.specs.declared.words.Refusal.{Refusal}
use Rattle.conversation.specs.Leaders.{row_of}
use Rattle.conversation.specs.Replies.{Setting, events, accesses, clashes_found}
use Rattle.conversation.specs.Theorem.{RepliesRight, Facts}
use Rattle.trace_check.specs.Calls.{View, start_answer, new_check, counted}

-- the setting of a check that starts on a meaning and rows, under a rule
abbrev pub setting : ℕ → Meaning → List Row → (ℕ → Bool) → (ℕ → ℕ → Bool) → Setting
setting limit m rows known clash = record { limit = limit; numbers = m.left; records = length rows; known = known; clash = clash }

abbrev pub counts : Setting → History → Counts
counts s h = record { accesses = accesses h; clashes = clashes_found s h; scopes = begun h }

-- the verdict, or the same counts while a scope besides main is open
abbrev pub ending : Setting → History → Ending
ending s h = cond (length (scopes h) == 1) (Verdict (counts s h)) (GivenUp (counts s h))

-- how a check ends that holds k, where the ordering means m
abbrev pub end_answer : View → Meaning → Ending
end_answer k m =
    cond (length m.opened == 1) (Verdict (counted k (length m.begun))) (GivenUp (counted k (length m.begun)))

-- What a conversation comes to: the calls are those put; every reply is the one that the definitions give; the facts about clashes, reads and
-- orders hold; and meaning, rows and counts in the end are those of the history of accepted events.
pub record Conversation (s : Setting) (put : List Call) (all : List Exchange) (m : Meaning) (rs : List Row) (last : Ending) : Type 0 where
  pub calls : calls_of all ≡ put
  pub replies : RepliesRight s all
  pub facts : Facts s all
  pub meaning : Means s.numbers (events all) m
  pub records : length rs ≡ s.records
  pub rows : (r : ℕ) → r < s.records → slice_index_or rs r no_row ≡ row_of (events all) r
  pub ends : last ≡ ending s (events all)

-- A conversation takes place exactly when the start is accepted.
abbrev pub Conversed : ℕ → (ℕ → Bool) → (ℕ → ℕ → Bool) → (m m' : Meaning) → (rows rows' : List Row) → (xs xs' : List Exchange) → Result Ending Refusal → Type 0
Conversed limit known clash m m' rows rows' xs xs' (Ok last) =
    (start_answer (length rows) limit (length m.begun) ≡ Ok (new_check limit)) ×
    Conversation (setting limit m rows known clash) (calls_of xs) xs' m' rows' last
Conversed limit known clash m m' rows rows' xs xs' (Err e) =
    start_answer (length rows) limit (length m.begun) ≡ Err e
