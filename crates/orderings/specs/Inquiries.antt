-- A list of requests to an ordering, and the responses.
use Rattle.std.specs.Prelude.{◌≡◌, ℕ, cond, ◌↔◌, List, [], ◌∷◌, length, is_err, Some, None, Ok, Option, Result}
use Rattle.graph.specs.History.{Event, open_task, open_finish, close, access, History, task}
use Rattle.graph.specs.Graph.{Closes, Path}
use Rattle.orderings.specs.declared.exchange.Exchange.{Exchange as ExchangeOf}
use Rattle.orderings.specs.declared.inquiries.Request.{Request}
use Rattle.orderings.specs.declared.inquiries.Request.TheVariants.{Open, Close, Ask}
use Rattle.orderings.specs.declared.inquiries.Response.{Response}
use Rattle.orderings.specs.declared.inquiries.Response.TheVariants.{Opened, Closed, Told as ToldSo}
use Rattle.orderings.specs.declared.questions.Question.TheVariants.{WordOf}
use Rattle.orderings.specs.declared.questions.Told.TheVariants.{Word as OfWord}
use Rattle.orderings.specs.declared.words.Fault.{Fault}
use Rattle.orderings.specs.declared.words.Kind.{Kind}
use Rattle.orderings.specs.declared.words.Kind.TheVariants.{Task, Finish}
use Rattle.orderings.specs.declared.words.Word.TheVariants.{Unordered}
use Rattle.orderings.specs.Exchanges.{Comes, after_each}
use Rattle.orderings.specs.Meaning.{Meaning, opening, after_open, closing, after_close}
use Rattle.orderings.specs.Questions.{ok_as, telling}

-- a request, and the response to it
abbrev pub Inquiry : Type 0
Inquiry = ExchangeOf Request (Result Response Fault)

-- the response to a request, from the meaning before it
abbrev pub response_to : Meaning → Request → Result Response Fault
response_to m (Open k) = ok_as Opened (opening m)
response_to m Close = ok_as Closed (closing m)
response_to m (Ask q) = ok_as ToldSo (telling m q)

-- and the meaning after it
abbrev pub after_request : Meaning → Request → Meaning
after_request m (Open k) = after_open k m
after_request m Close = after_close m
after_request m (Ask q) = m

abbrev pub after_inquiry : Meaning → Inquiry → Meaning
after_inquiry m x = after_request m x.call

abbrev pub after_requests : Meaning → List Inquiry → Meaning
after_requests = after_each after_inquiry

-- the event that an open of a kind is
abbrev pub opens : Kind → Event
opens Task = open_task
opens Finish = open_finish

-- the event that a request is, if it is accepted
abbrev pub event_of : Request → Option Event
event_of (Open k) = Some (opens k)
event_of Close = Some close
event_of (Ask q) = None

abbrev pub noted : Option Event → History → History
noted None h = h
noted (Some e) h = e ∷ h

-- the events accepted after an inquiry
abbrev pub noted_if_accepted : History → Inquiry → History
noted_if_accepted h x = cond (is_err x.reply) h (noted (event_of x.call) h)

-- the events accepted, after those of h
abbrev pub events_after : List Inquiry → History → History
events_after xs h = after_each noted_if_accepted h xs

abbrev pub events : List Inquiry → History
events xs = events_after xs []

-- task t is closed, and the graph of the events has no path from its close to an access put next
abbrev pub ClosedWithoutPath : History → ℕ → Type 0
ClosedWithoutPath h t = (i : ℕ) × Closes h i (task t) × ((c r : ℕ) → ¬ Path (access c r ∷ h) i (length h))

-- the response says that the task asked about is unordered
abbrev pub unordered_said : Result Response Fault
unordered_said = Ok (ToldSo (OfWord Unordered))

-- What a list of requests comes to: each response is the one that the meaning gives after the requests before it, the meaning in the end is the
-- one that they lead to, and over an ordering that has begun main alone the words are those of the graph.
pub record Inquired (m : Meaning) (all : List Inquiry) (m' : Meaning) : Type 0 where
  pub responses : (before : List Inquiry) (x : Inquiry) → Comes all before x → x.reply ≡ response_to (after_requests m before) x.call
  pub meaning : m' ≡ after_requests m all
  pub words : length m.begun ≡ 1 → (before : List Inquiry) (x : Inquiry) → Comes all before x → (t : ℕ) → x.call ≡ Ask (WordOf t) → (x.reply ≡ unordered_said) ↔ ClosedWithoutPath (events before) t
