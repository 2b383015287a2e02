-- The rules answer alike both ways round.
use Rattle.std.specs.Prelude.{◌≡◌, ℕ, Bool, not, ◌&&◌, ◌||◌}
use Rattle.std.proofs.Common.{ap}
use Rattle.std.proofs.Math.Bool.{and_comm, or_comm}
use Rattle.rules.specs.declared.Rule.{Rule}
use Rattle.rules.specs.declared.Rule.TheVariants.{Plain, Depot, Field}
use Rattle.rules.specs.Alike.{Alike}
use Rattle.rules.specs.Any.{known_under, clash_under}
use Rattle.rules.specs.Fields.{writes_field, touches_field, meet_in, some_field}
use Rattle.rules.specs.Rules.{reads, adds, plain, depot, field}

pub plain_alike : (a b : ℕ) → plain a b ≡ plain b a
plain_alike a b = ap not (and_comm (reads a) (reads b))

pub depot_alike : (a b : ℕ) → depot a b ≡ depot b a
depot_alike a b = λ i. not (and_comm (reads a) (reads b) i || and_comm (adds a) (adds b) i)

-- tests that agree on every field agree on the four
pub some_field_cong : (s t : ℕ → Bool) → ((f : ℕ) → s f ≡ t f) → some_field s ≡ some_field t
some_field_cong s t e = rw (e 0, e 1, e 2, e 3)

pub field_alike : (a b : ℕ) → field a b ≡ field b a
field_alike a b =
    some_field_cong (meet_in a b) (meet_in b a)
    (λ f. or_comm (writes_field a f && touches_field b f) (writes_field b f && touches_field a f))

-- any of the three rules answers alike both ways round
pub any_alike : (x : Rule) → Alike (known_under x) (clash_under x)
any_alike (Plain _) a b _ _ = plain_alike a b
any_alike (Depot _) a b _ _ = depot_alike a b
any_alike (Field _) a b _ _ = field_alike a b
