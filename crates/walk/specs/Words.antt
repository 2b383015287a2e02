-- The words for tasks, scopes and counts.
use Rattle.std.specs.Prelude.{ℕ, cond, List, ◌++◌, ◌==◌, codes, decimal}
use Rattle.orderings.specs.declared.words.Kind.{Kind}
use Rattle.orderings.specs.declared.words.Kind.TheVariants.{Task, Finish}
use Rattle.trace_check.specs.declared.words.Counts.{Counts}
use Rattle.conversation.specs.declared.words.Ending.{Ending}
use Rattle.conversation.specs.declared.words.Ending.TheVariants.{Verdict, GivenUp}

abbrev pub task_name : ℕ → List ℕ
task_name n = cond (n == 0) (codes "main") (codes "task " ++ decimal n)

abbrev pub scope_name : Kind → ℕ → List ℕ
scope_name Task n = codes "task " ++ decimal n
scope_name Finish n = codes "finish " ++ decimal n

-- a number, and the word for one thing or for several
abbrev pub counted : ℕ → List ℕ → List ℕ → List ℕ
counted n one many = decimal n ++ codes " " ++ cond (n == 1) one many

abbrev pub totals_text : Counts → List ℕ
totals_text c =
    counted c.accesses (codes "access") (codes "accesses") ++ codes ", " ++
    decimal c.clashes ++ codes " with a clash, " ++
    counted c.scopes (codes "scope") (codes "scopes") ++ codes " begun"

abbrev pub summary_text : Ending → List ℕ
summary_text (Verdict c) = codes "verdict: " ++ totals_text c
summary_text (GivenUp c) = codes "given up, for a scope besides main is still open: " ++ totals_text c
