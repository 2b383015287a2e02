-- What the check, the ordering and the rows hold after a history.
use Rattle.std.specs.Prelude.{◌≡◌, ℕ, ◌<◌, ◌≤◌, List, [], length, slice_index_or}
use Rattle.graph.specs.History.{History}
use Rattle.orderings.specs.Past.{Means}
use Rattle.rows.specs.Rows.{no_row}
use Rattle.conversation.specs.Leaders.{reached, row_of}
use Rattle.conversation.specs.Exchanges.{Exchange}
use Rattle.conversation.specs.Replies.{Setting, events, accesses, clashes_found}
use Rattle.conversation.specs.Theorem.{RepliesRight}
use Rattle.trace_check.specs.Puts.{Store}

pub record State (s : Setting) (h : History) (σ : Store) : Type 0 where
  pub limit : σ.check.limit ≡ s.limit
  pub events : σ.check.events ≡ length h
  pub accesses : σ.check.accesses ≡ accesses h
  pub clashes : σ.check.clashes ≡ clashes_found s h
  pub meaning : Means s.numbers h σ.meaning
  pub records : length σ.rows ≡ s.records
  pub rows : (r : ℕ) → r < s.records → slice_index_or σ.rows r no_row ≡ row_of h r
  pub few : (r : ℕ) → r < s.records → length (reached h r) ≤ 8

-- From a new check, the replies are right and all is kept as the history has it.
abbrev pub Ran : Setting → Store → List Exchange → Store → Type 0
Ran s σ all τ = State s [] σ → RepliesRight s all × State s (events all) τ
