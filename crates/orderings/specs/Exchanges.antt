-- Exchanges, one after the other.
use Rattle.std.specs.Prelude.{◌≡◌, List, [], ◌∷◌, ◌++◌, map}
use Rattle.orderings.specs.declared.exchange.Exchange.{Exchange}

abbrev pub calls_of : {C R : Type 0} → List (Exchange C R) → List C
calls_of {C} {R} xs = map (λ (x : Exchange C R). x.call) xs

-- x comes right after those `before`
abbrev pub Comes : {A : Type 0} → List A → List A → A → Type 0
Comes {A} all before x = (rest : List A) × (all ≡ before ++ x ∷ rest)

-- what is left after all, where each leaves `next`
abbrev pub after_each : {S X : Type 0} → (S → X → S) → S → List X → S
after_each next s [] = s
after_each next s (x ∷ xs) = after_each next (next s x) xs
