-- What holds of a conversation with a check.
use Rattle.std.specs.Prelude.{◌≡◌, ℕ, ◌<◌, T, ◌≢◌, ◌↔◌, List, length, Some, None, Option, Ok, Err}
use Rattle.graph.specs.History.{History}
use Rattle.graph.specs.Graph.{Path, IsAccess}
use Rattle.graph.specs.Orders.{Exchangeable}
use Rattle.graph.specs.Reads.{SameReads}
use Rattle.rules.specs.Rules.{depot}
use Rattle.orderings.specs.Exchanges.{Comes}
use Rattle.trace_check.specs.declared.words.Call.TheVariants.{Access}
use Rattle.trace_check.specs.declared.words.Refusal.TheVariants.{Row}
use Rattle.rows.specs.declared.words.RowFault.TheVariants.{Damaged}
use Rattle.trace_check.specs.declared.words.Reply.TheVariants.{Found}
use Rattle.conversation.specs.Exchanges.{Exchange}
use Rattle.conversation.specs.Replies.{Setting, reply_to, events}

-- every reply is the one that the events accepted before it give
abbrev pub RepliesRight : Setting → List Exchange → Type 0
RepliesRight s all = (before : List Exchange) (x : Exchange) → Comes all before x → x.reply ≡ reply_to s (events before) x.call

-- event j is an access of class c to record r, and f is what it was answered
pub record Answered (all : List Exchange) (j c r : ℕ) (f : Option (ℕ × ℕ)) : Type 0 where
  pub before : List Exchange
  pub comes : Comes all before (record { call = Access c r; reply = Ok (Found f) })
  pub number : length (events before) ≡ j

-- event i is an access to record r earlier than event j, its class clashes with class c by the rule, and it has no path to j
pub record Clashing (s : Setting) (h : History) (c r i j : ℕ) : Type 0 where
  pub class : ℕ
  pub is : IsAccess h i class r
  pub earlier : i < j
  pub clashes : T (s.clash class c)
  pub free : ¬ Path h i j

-- An access was answered clash exactly when an earlier access to its record clashes with it and has no path to it. The one shown is one of those.
pub record ClashExact (s : Setting) (h : History) (j c r : ℕ) (f : Option (ℕ × ℕ)) : Type 0 where
  pub event : IsAccess h j c r
  pub exactly : ((i : ℕ) × (k : ℕ) × (f ≡ Some (i, k))) ↔ ((i : ℕ) × Clashing s h c r i j)
  pub shown : (i k : ℕ) → f ≡ Some (i, k) → Clashing s h c r i j × (k ≡ j)

-- the rule means the depot rule
abbrev pub IsDepot : Setting → Type 0
IsDepot s = (a b : ℕ) → T (s.known a) → T (s.known b) → s.clash a b ≡ depot a b

pub record Facts (s : Setting) (all : List Exchange) : Type 0 where
  -- no row was found damaged
  pub undamaged : (before : List Exchange) (x : Exchange) → Comes all before x → x.reply ≢ Err (Row Damaged)
  -- every access was answered
  pub answers : (j c r : ℕ) → IsAccess (events all) j c r → (f : Option (ℕ × ℕ)) × Answered all j c r f
  pub clash : (j c r : ℕ) (f : Option (ℕ × ℕ)) → Answered all j c r f → ClashExact s (events all) j c r f
  -- under the depot rule, if no access was answered clash, each read has the same last write and the same adds since in every allowed order
  pub reads : IsDepot s → ((j c r : ℕ) (f : Option (ℕ × ℕ)) → Answered all j c r f → f ≡ None) → SameReads (events all)
  -- the two events of a clash shown stand side by side in two allowed orders that differ in nothing else
  pub orders : (j c r i k : ℕ) → Answered all j c r (Some (i, k)) → Exchangeable (events all) i k

abbrev pub FactsFollow : Type 0
FactsFollow = (s : Setting) (all : List Exchange) → RepliesRight s all → Facts s all
