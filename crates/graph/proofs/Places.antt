-- Every place is an open scope, an open task is placed at itself, and what the steps do to a place.
use mathlib.Core.Path.{◌≡◌, refl, sym, ◌∙◌, subst, subst⁻¹, ap}
use mathlib.Core.Logic.{◌⊎◌, inl, inr, ◌≢◌, ⊎_elim}
use mathlib.Core.Bool.{Bool, true, false, cond}
use mathlib.Core.List.{List, [], ◌∷◌}
use Prim.Native.Nat.{ℕ, ◌<◌, ◌≤◌}
use native.Mathlib.Omega.{arith}
use lib.ListN.{length}
use lib.Dec.{T, eqb, eqb→eq, eqb_refl}
use Rattle.graph.specs.History.{open_task, open_finish, close, access, History, Scope, task, finish, number, begun, outward, scopes, innermost, innermost_task, Accepted, Place, before, unordered, spot, moved, place}
use Rattle.graph.proofs.OpenScopes.{Falling, falling, On, on_below, on_outward}

-- a choice by an equality test
pub by_eqb : {A : Type 0} (m n : ℕ) (x y : A) → ((m ≡ n) × (cond (eqb m n) x y ≡ x)) ⊎ ((m ≢ n) × (cond (eqb m n) x y ≡ y))
by_eqb {A} m n x y = go (eqb m n) (eqb→eq m n) (λ e. subst (λ k. T (eqb m k)) e (eqb_refl m))
  where
    go : (b : Bool) → (T b → m ≡ n) → (m ≡ n → T b) → ((m ≡ n) × (cond b x y ≡ x)) ⊎ ((m ≢ n) × (cond b x y ≡ y))
    go true f g = inl (f tt, refl)
    go false f g = inr (g, refl)

pub main_open : (h : History) → Accepted h → On (scopes h) (task 0)
main_open [] a = inl refl
main_open (open_task ∷ h) a = inr (main_open h a)
main_open (open_finish ∷ h) a = inr (main_open h a)
main_open (close ∷ h) a = go (scopes h) (falling h) (main_open h a.0) a.1
  where
    go : (ss : List Scope) → Falling (begun h) ss → On ss (task 0) → 1 < length ss → On (outward ss) (task 0)
    go [] f o l = absurd o
    go (s ∷ []) f o l = absurd (omega arith)
    go (s ∷ x ∷ ss) f (inl e) l = let d = ap number e in absurd (omega arith)
    go (s ∷ x ∷ ss) f (inr o) l = o
main_open (access c r ∷ h) a = main_open h a

pub task_on : (ss : List Scope) (n : ℕ) → On ss (task n) → On ss (task (innermost_task ss))
task_on [] n o = absurd o
task_on (task t ∷ ss) n o = inl refl
task_on (finish f ∷ ss) n (inl e) = absurd (never e)
  where
    kind : Scope → ℕ
    kind (task m) = 0
    kind (finish m) = 1

    never : finish f ≡ task n → ⊥
    never e = let d = ap kind e in omega arith
task_on (finish f ∷ ss) n (inr o) = inr (task_on ss n o)

-- no open task is inward of the innermost one
pub task_max : (k : ℕ) (ss : List Scope) (n : ℕ) → Falling k ss → On ss (task n) → n ≤ innermost_task ss
task_max k [] n f o = absurd o
task_max k (task t ∷ ss) n f (inl e) = let d = ap number e in omega arith
task_max k (task t ∷ ss) n f (inr o) = let d = on_below t ss (task n) f.1 o in omega arith
task_max k (finish g ∷ ss) n f (inl e) = absurd (never e)
  where
    kind : Scope → ℕ
    kind (task m) = 0
    kind (finish m) = 1

    never : finish g ≡ task n → ⊥
    never e = let d = ap kind e in omega arith
task_max k (finish g ∷ ss) n f (inr o) = task_max g ss n f.1 o

-- the innermost scope is inward of every other
pub inner_max : (k : ℕ) (ss : List Scope) (x : Scope) → Falling k ss → On ss x → number x ≤ innermost ss
inner_max k [] x f o = absurd o
inner_max k (s ∷ ss) x f (inl e) = let d = ap number e in omega arith
inner_max k (s ∷ ss) x f (inr o) = let d = on_below (number s) ss x f.1 o in omega arith

abbrev pub Placed : List Scope → Place → Type 0
Placed ss (before s) = On ss (task s)
Placed ss (unordered s) = (x : Scope) × On ss x × (number x ≡ s)

inner_on : (ss : List Scope) (x : Scope) → On ss x → (y : Scope) × On ss y × (number y ≡ innermost ss)
inner_on [] x o = absurd o
inner_on (s ∷ ss) x o = (s, inl refl, refl)

-- what is not placed at the scope that closes is placed further out
pub placed_out : (s : Scope) (ss : List Scope) (p : Place) → Placed (s ∷ ss) p → spot p ≢ number s → Placed ss p
placed_out s ss (before q) (inl e) n = absurd (n (sym (ap number e)))
placed_out s ss (before q) (inr o) n = o
placed_out s ss (unordered q) (x, inl e, m) n = absurd (n (sym (ap number e ∙ m)))
placed_out s ss (unordered q) (x, inr o, m) n = (x, o, m)

placed_moved : (ss : List Scope) (p : Place) → On (outward ss) (task 0) → Placed ss p → Placed (outward ss) (moved ss p)
placed_moved [] p o d = absurd o
placed_moved (task s ∷ ss) p o d =
    ⊎_elim (λ v. subst⁻¹ (Placed ss) v.1 (inner_on ss (task 0) o)) (λ v. subst⁻¹ (Placed ss) v.1 (placed_out (task s) ss p d v.0))
    (by_eqb (spot p) s (unordered (innermost ss)) p)
placed_moved (finish s ∷ ss) p o d =
    ⊎_elim (λ v. subst⁻¹ (Placed ss) v.1 (task_on ss 0 o)) (λ v. subst⁻¹ (Placed ss) v.1 (placed_out (finish s) ss p d v.0))
    (by_eqb (spot p) s (before (innermost_task ss)) p)

placed_wider : (s : Scope) (ss : List Scope) (p : Place) → Placed ss p → Placed (s ∷ ss) p
placed_wider s ss (before q) o = inr o
placed_wider s ss (unordered q) d = (d.0, inr d.1, d.2)

-- every place is an open scope, and an open task if the word is before
pub placed : (h : History) → Accepted h → (t : ℕ) → Placed (scopes h) (place h t)
placed [] a t = inl refl
placed (open_task ∷ h) a t =
    ⊎_elim (λ v. subst⁻¹ (Placed (task (begun h) ∷ scopes h)) v.1 (inl (ap task (sym v.0))))
    (λ v. subst⁻¹ (Placed (task (begun h) ∷ scopes h)) v.1 (placed_wider (task (begun h)) (scopes h) (place h t) (placed h a t)))
    (by_eqb t (begun h) (before t) (place h t))
placed (open_finish ∷ h) a t = placed_wider (finish (begun h)) (scopes h) (place h t) (placed h a t)
placed (close ∷ h) a t = placed_moved (scopes h) (place h t) (main_open (close ∷ h) a) (placed h a.0 t)
placed (access c r ∷ h) a t = placed h a t

-- a place outward of the scope that closes stays
pub stays : (k : ℕ) (ss : List Scope) (p : Place) (x : Scope) → Falling k ss → On (outward ss) x → spot p ≡ number x → moved ss p ≡ p
stays k [] p x f o e = refl
stays k (task s ∷ ss) p x f o e =
    let l = on_below s ss x f.1 o in
    ⊎_elim (λ v. absurd (omega (arith, v.0))) (λ v. v.1) (by_eqb (spot p) s (unordered (innermost ss)) p)
stays k (finish s ∷ ss) p x f o e =
    let l = on_below s ss x f.1 o in
    ⊎_elim (λ v. absurd (omega (arith, v.0))) (λ v. v.1) (by_eqb (spot p) s (before (innermost_task ss)) p)

-- an open task is placed at itself, before
pub open_placed : (h : History) (t : ℕ) → On (scopes h) (task t) → place h t ≡ before t
open_placed [] t (inl e) = ap before (ap number e)
open_placed [] t (inr o) = absurd o
open_placed (open_task ∷ h) t (inl e) = ⊎_elim (λ v. v.1) (λ v. absurd (v.0 (sym (ap number e)))) (by_eqb t (begun h) (before t) (place h t))
open_placed (open_task ∷ h) t (inr o) =
    let l = on_below (begun h) (scopes h) (task t) (falling h) o in
    ⊎_elim (λ v. absurd (omega (arith, v.0))) (λ v. v.1 ∙ open_placed h t o) (by_eqb t (begun h) (before t) (place h t))
open_placed (open_finish ∷ h) t (inr o) = open_placed h t o
open_placed (open_finish ∷ h) t (inl e) = absurd (never e)
  where
    kind : Scope → ℕ
    kind (task m) = 0
    kind (finish m) = 1

    never : finish (begun h) ≡ task t → ⊥
    never e = let d = ap kind e in omega arith
open_placed (close ∷ h) t o =
    let p = open_placed h t (on_outward (scopes h) (task t) o) in
    stays (begun h) (scopes h) (place h t) (task t) (falling h) o (ap spot p) ∙ p
open_placed (access c r ∷ h) t o = open_placed h t o

pub placed_below : (k : ℕ) (ss : List Scope) (p : Place) → Falling k ss → Placed ss p → spot p < k
placed_below k ss (before q) f o = on_below k ss (task q) f o
placed_below k ss (unordered q) f d = let l = on_below k ss d.0 f d.1 in omega (arith, d.2)

-- no place is inward of the innermost scope
pub placed_max : (k : ℕ) (ss : List Scope) (p : Place) → Falling k ss → Placed ss p → spot p ≤ innermost ss
placed_max k ss (before q) f o = inner_max k ss (task q) f o
placed_max k ss (unordered q) f d = let l = inner_max k ss d.0 f d.1 in omega (arith, d.2)
