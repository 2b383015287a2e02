-- The field rule's test, and what it says of the fields.
use Rattle.std.specs.Prelude.{◌≡◌, ℕ, zero, suc, ◌+◌, ◌/◌, ◌%◌, ◌^◌, ◌<◌, Bool, true, ◌||◌, Decides}
use Rattle.std.proofs.Common.{inl, inr, arith, lit<}
use Rattle.std.proofs.lemmas.Bool.{or_cases}
use Rattle.std.proofs.lemmas.Bool.Decides.{Decides-eqb, Decides-and, Decides-or}
use Rattle.rules.specs.Fields.{writes_field, touches_field, meet_in, some_field}
use Rattle.rules.specs.Rules.{field}
use Rattle.rules.specs.Words.{MeetIn, TouchesField, WritesField}

-- each test over fields decides its relation
decides_writes : (c f : ℕ) → Decides (writes_field c f) (WritesField c f)
decides_writes c f = Decides-eqb (c / 2 ^ (4 + f) % 2) 1

decides_touches : (c f : ℕ) → Decides (touches_field c f) (TouchesField c f)
decides_touches c f = Decides-or _ _ (Decides-eqb (c / 2 ^ f % 2) 1) (decides_writes c f)

decides_meet : (a b f : ℕ) → Decides (meet_in a b f) (MeetIn a b f)
decides_meet a b f =
    Decides-or _ _
    (Decides-and _ _ (decides_writes a f) (decides_touches b f))
    (Decides-and _ _ (decides_writes b f) (decides_touches a f))

-- where one of the four fields passes the test, some field below 4 does, and the other way round
one_of : (t : ℕ → Bool) → some_field t ≡ true → (f : ℕ) × (f < 4) × (t f ≡ true)
one_of t e =
    elim (or_cases (t 0 || t 1 || t 2) (t 3) e) [
      | inl e ↦ elim (or_cases (t 0 || t 1) (t 2) e) [
        | inl e ↦ elim (or_cases (t 0) (t 1) e) [ inl e ↦ (0, lit< tt, e) | inr e ↦ (1, lit< tt, e) ]
        | inr e ↦ (2, lit< tt, e)
      ]
      | inr e ↦ (3, lit< tt, e)
    ]

of_one : (t : ℕ → Bool) (f : ℕ) → f < 4 → t f ≡ true → some_field t ≡ true
of_one t zero h e = grind arith
of_one t (suc zero) h e = grind arith
of_one t (suc (suc zero)) h e = grind arith
of_one t (suc (suc (suc zero))) h e = grind arith
of_one t (suc (suc (suc (suc f)))) h e = grind arith

-- two classes clash under the field rule exactly where they meet in a field
pub field_clash : (a b : ℕ) → Decides (field a b) ((f : ℕ) × (f < 4) × MeetIn a b f)
field_clash a b = (
  λ e. let o = one_of (meet_in a b) e in (o.0, o.1, (decides_meet a b o.0).0 o.2),
  λ o. of_one (meet_in a b) o.0 o.1 ((decides_meet a b o.0).1 o.2),
)
