-- A leader clashes exactly when some earlier access does.
use mathlib.Core.Path.{◌≡◌, refl}
use mathlib.Core.Logic.{⊎_elim}
use Prim.Native.Nat.{ℕ}
use native.Mathlib.Omega.{arith}
use Rattle.graph.specs.History.{access, History, scopes, innermost_task, Before, Unordered}
use Rattle.graph.specs.Graph.{Of}
use Rattle.graph.specs.Leaders.{Access, AccessClashes, LeaderClashes}
use Rattle.graph.specs.Theorems.{LeadersFindClashes}
use Rattle.graph.proofs.LeadersDecide.{leaders_decide}
use Rattle.graph.proofs.WordsArePaths.{event_right, word}

access_of : {h : History} {i c r t : ℕ} → Access h i c r t → Of h i t
access_of {c = c} {r = r} a = record { event = access c r; past = a.past; put = a.put; by = a.by }

pub leaders_find_clashes : LeadersFindClashes
leaders_find_clashes clash h a c r = (λ v. found v.0 v.1, λ i x. shown i x)
  where
    found : (i : ℕ) → AccessClashes clash h c r i → (i : ℕ) × LeaderClashes clash h c r i
    found i x =
        let L = leaders_decide h a x.class r in
        let t : ℕ = innermost_task (scopes x.is.0) in
        let at : Access h i x.class r t = record { past = x.is.0; put = x.is.1; by = refl } in
        let f : Unordered h t = ⊎_elim (λ b. absurd (x.free ((event_right h a c r i t (access_of at)).1 b))) (λ f. f) (word h t) in
        let l = L.leads i t at in
        (l.0, record { class = x.class; task = l.1; leader = l.2; clashes = x.clashes; free = L.decides i t l.0 l.1 at l.2 f })

    shown : (i : ℕ) → LeaderClashes clash h c r i → AccessClashes clash h c r i
    shown i x =
        let at = (leaders_decide h a x.class r).only i x.task x.leader in
        record { class = x.class; is = (at.past, at.put); clashes = x.clashes; free = λ p. apart x.task ((event_right h a c r i x.task (access_of at)).0 p) x.free }
      where
        apart : (t : ℕ) → Before h t → Unordered h t → ⊥
        apart t (s, e) (m, f) = let z : ◌≡◌ {A = ℕ} 0 1 = cc in omega arith
