-- What an ordering tells, from its meaning, and from the history that the meaning is of.
use Rattle.std.specs.Prelude.{ℕ, ◌+◌, ◌-◌, length, Some, None, Ok, Err, Option, Result}
use Rattle.graph.specs.History.{History, begun, scopes, innermost_task, place}
use Rattle.orderings.specs.declared.questions.Question.{Question}
use Rattle.orderings.specs.declared.questions.Question.TheVariants.{WordOf, InnermostTask, OpenCount, KindOf, ScopesBegun, NumbersLeft}
use Rattle.orderings.specs.declared.questions.Told.{Told}
use Rattle.orderings.specs.declared.questions.Told.TheVariants.{Word as OfWord, Number, Kind as OfKind}
use Rattle.orderings.specs.declared.words.Fault.{Fault}
use Rattle.orderings.specs.declared.words.Fault.TheVariants.{NoSuchTask}
use Rattle.orderings.specs.declared.words.Kind.{Kind}
use Rattle.orderings.specs.declared.words.Kind.TheVariants.{Task, Finish}
use Rattle.orderings.specs.Meaning.{Meaning, word, asked, kind_at}
use Rattle.orderings.specs.Past.{kind_of}

-- what is accepted, as f makes it, and a refusal as it is
abbrev pub ok_as : {A B E : Type 0} → (A → B) → Result A E → Result B E
ok_as f (Ok x) = Ok (f x)
ok_as f (Err e) = Err e

abbrev pub telling : Meaning → Question → Result Told Fault
telling m (WordOf t) = ok_as OfWord (asked m.begun t)
telling m InnermostTask = Ok (Number (innermost_task m.opened))
telling m OpenCount = Ok (Number (length m.opened))
telling m (KindOf n) = Ok (OfKind (kind_at m.begun n))
telling m ScopesBegun = Ok (Number (length m.begun))
telling m NumbersLeft = Ok (Number m.left)

-- the word of number t, whose scope is of that kind
abbrev pub word_of_past : History → ℕ → Option Kind → Result Told Fault
word_of_past h t None = Err NoSuchTask
word_of_past h t (Some Finish) = Err NoSuchTask
word_of_past h t (Some Task) = Ok (OfWord (word (place h t)))

-- what is told after the history h, which began with n numbers left
abbrev pub telling_past : ℕ → History → Question → Result Told Fault
telling_past n h (WordOf t) = word_of_past h t (kind_of h t)
telling_past n h InnermostTask = Ok (Number (innermost_task (scopes h)))
telling_past n h OpenCount = Ok (Number (length (scopes h)))
telling_past n h (KindOf k) = Ok (OfKind (kind_of h k))
telling_past n h ScopesBegun = Ok (Number (begun h))
telling_past n h NumbersLeft = Ok (Number ((n + 1) - begun h))
