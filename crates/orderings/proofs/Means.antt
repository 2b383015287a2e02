-- The meaning follows the history.
use Rattle.std.proofs.Common.{◌≡◌, ℕ, zero, suc, ◌+◌, ◌-◌, ◌≤◌, Bool, true, false, cond, eqb, ◌≢◌, List, [], ◌∷◌, ◌++◌, map, length, Some, None, Option, sym, refl, ap, ◌∙◌, subst, inl, inr, arith, eq-eqb, ne_eqb, eqb-true}
use lib.Dec.{eqb-suc-zero, eqb-zero-suc, eqb-suc-suc}
use Rattle.std.proofs.lemmas.List.{length_push, length-map}
use Rattle.graph.specs.History.{Event, open_task, open_finish, close, access, History, Scope, task, finish, begun, outward, scopes, innermost_task, Place, before, place, moved, Accepted}
use Rattle.graph.proofs.OpenScopes.{On, on_outward}
use Rattle.graph.proofs.Places.{main_open, task_on}
use Rattle.orderings.specs.declared.words.Kind.{Kind}
use Rattle.orderings.specs.declared.words.Kind.TheVariants.{Task, Finish}
use Rattle.orderings.specs.Meaning.{Meaning, Begun, task_at, a_finish, at, Fall, WellFormed, with_scope, without_innermost, shifted}
use Rattle.orderings.specs.Past.{kind_of, as_begun, Means}
use Rattle.orderings.specs.Inquiries.{opens}

at_push : (l : List Begun) (x : Begun) (k : ℕ) → at (l ++ x ∷ []) k ≡ cond (eqb k (length l)) (Some x) (at l k)
at_push [] x zero = refl
at_push [] x (suc k) = rw (eqb-suc-zero k)
at_push (b ∷ l) x zero = rw (eqb-zero-suc (length l))
at_push (b ∷ l) x (suc k) = rw (eqb-suc-suc k (length l)) (at_push l x k)

abbrev mapped : (Begun → Begun) → Option Begun → Option Begun
mapped f None = None
mapped f (Some b) = Some (f b)

at_map : (f : Begun → Begun) (l : List Begun) (k : ℕ) → at (map f l) k ≡ mapped f (at l k)
at_map f [] k = refl
at_map f (b ∷ l) zero = refl
at_map f (b ∷ l) (suc k) = at_map f l k

-- only the place of the task counts
as_same : (g h : History) (k : ℕ) (o : Option Kind) → place g k ≡ place h k → as_begun g k o ≡ as_begun h k o
as_same g h k None e = refl
as_same g h k (Some Task) e = ap (λ (p : Place). Some (task_at p)) e
as_same g h k (Some Finish) e = refl

one_less : (n j b : ℕ) → j ≢ 0 → j + b ≡ n + 1 → (j - 1) + suc b ≡ n + 1
one_less n j b ne e = omega arith

module _ (n : ℕ) (h : History) (m : Meaning) (M : Means n h m) where
  pub means_task : m.left ≢ 0 → Means n (open_task ∷ h) (with_scope Task m)
  means_task some = record {
    opened = ap (λ (k : ℕ). task k ∷ m.opened) M.count ∙ ap (λ (l : List Scope). task (begun h) ∷ l) M.opened;
    count = let e = length_push m.begun (task_at (before (length m.begun))) in let c = M.count in omega arith;
    scope = λ k. at_push m.begun _ k ∙ ap (λ (j : ℕ). cond (eqb k j) (Some (task_at (before j))) (at m.begun k)) M.count ∙ go k (eqb k (begun h)) refl;
    left = one_less n m.left (begun h) some M.left;
  }
    where
      go : (k : ℕ) (b : Bool) → eqb k (begun h) ≡ b → cond (eqb k (begun h)) (Some (task_at (before (begun h)))) (at m.begun k) ≡ as_begun (open_task ∷ h) k (cond (eqb k (begun h)) (Some Task) (kind_of h k))
      go k true e = rw (e, e) (ap (λ (j : ℕ). Some (task_at (before j))) (sym (eqb-true k (begun h) e)))
      go k false e = rw e (M.scope k ∙ as_same h (open_task ∷ h) k (kind_of h k) (rw e))

  pub means_finish : m.left ≢ 0 → Means n (open_finish ∷ h) (with_scope Finish m)
  means_finish some = record {
    opened = ap (λ (k : ℕ). finish k ∷ m.opened) M.count ∙ ap (λ (l : List Scope). finish (begun h) ∷ l) M.opened;
    count = let e = length_push m.begun a_finish in let c = M.count in omega arith;
    scope = λ k. at_push m.begun a_finish k ∙ ap (λ (j : ℕ). cond (eqb k j) (Some a_finish) (at m.begun k)) M.count ∙ go k (eqb k (begun h)) refl;
    left = one_less n m.left (begun h) some M.left;
  }
    where
      go : (k : ℕ) (b : Bool) → eqb k (begun h) ≡ b → cond (eqb k (begun h)) (Some a_finish) (at m.begun k) ≡ as_begun (open_finish ∷ h) k (cond (eqb k (begun h)) (Some Finish) (kind_of h k))
      go k true e = rw e
      go k false e = rw e (M.scope k ∙ as_same h (open_finish ∷ h) k (kind_of h k) refl)

  pub means_open : (k : Kind) → m.left ≢ 0 → Means n (opens k ∷ h) (with_scope k m)
  means_open Task = means_task
  means_open Finish = means_finish

  pub means_close : Means n (close ∷ h) (without_innermost m)
  means_close = record {
    opened = ap outward M.opened;
    count = length-map m.begun (shifted m.opened) ∙ M.count;
    scope = λ k. at_map (shifted m.opened) m.begun k ∙ ap (mapped (shifted m.opened)) (M.scope k) ∙ go k (kind_of h k);
    left = M.left;
  }
    where
      go : (k : ℕ) (o : Option Kind) → mapped (shifted m.opened) (as_begun h k o) ≡ as_begun (close ∷ h) k o
      go k None = refl
      go k (Some Task) = ap (λ (ss : List Scope). Some (task_at (moved ss (place h k)))) M.opened
      go k (Some Finish) = refl

  pub means_access : (c r : ℕ) → Means n (access c r ∷ h) m
  means_access c r = record { opened = M.opened; count = M.count; scope = λ k. M.scope k ∙ as_same h (access c r ∷ h) k (kind_of h k) refl; left = M.left }

-- an ordering that has begun nothing but main is new
pub means_new : (m : Meaning) → WellFormed m → length m.begun ≡ 1 → Means m.left [] m
means_new m w e = record { opened = w.outermost.1 ∙ ap (λ (l : List Scope). l ++ task 0 ∷ []) (alone w.outermost.0 (subst (Fall 1) w.outermost.1 (subst (λ (k : ℕ). Fall k m.opened) e w.falling))); count = e; scope = λ k. ap (λ (l : List Begun). at l k) main ∙ first k; left = refl }
  where
    alone : (inner : List Scope) → Fall 1 (inner ++ task 0 ∷ []) → inner ≡ []
    alone [] f = refl
    alone (s ∷ []) f = absurd (omega arith)
    alone (s ∷ t ∷ inner) f = absurd (omega arith)

    none : (rest : List Begun) → length rest ≡ 0 → rest ≡ []
    none [] q = refl
    none (b ∷ rest) q = absurd (omega arith)

    main : m.begun ≡ task_at (before 0) ∷ []
    main = w.main.1 ∙ ap (λ (l : List Begun). task_at (before 0) ∷ l) (none w.main.0 (let q = ap length w.main.1 in omega arith))

    first : (k : ℕ) → at (task_at (before 0) ∷ []) k ≡ as_begun [] k (kind_of [] k)
    first zero = refl
    first (suc k) = rw (eqb-suc-zero k)

-- no scope has a number that is still to come
pub kind_none : (h : History) (n : ℕ) → begun h ≤ n → kind_of h n ≡ None
kind_none [] n l = let e = ne_eqb n 0 (λ q. omega arith) in rw e
kind_none (open_task ∷ h) n l = let e = ne_eqb n (begun h) (λ q. omega arith) in rw e (kind_none h n (omega arith))
kind_none (open_finish ∷ h) n l = let e = ne_eqb n (begun h) (λ q. omega arith) in rw e (kind_none h n (omega arith))
kind_none (close ∷ h) n l = kind_none h n l
kind_none (access c r ∷ h) n l = kind_none h n l

-- a task begun stays one
pub kind_stays : (e : Event) (h : History) (t : ℕ) → kind_of h t ≡ Some Task → kind_of (e ∷ h) t ≡ Some Task
kind_stays open_task h t k = go (eqb t (begun h))
  where
    go : (b : Bool) → cond b (Some Task) (kind_of h t) ≡ Some Task
    go true = refl
    go false = k
kind_stays open_finish h t k = go (eqb t (begun h)) refl
  where
    go : (b : Bool) → eqb t (begun h) ≡ b → cond b (Some Finish) (kind_of h t) ≡ Some Task
    go true e = let q = eqb-true t (begun h) e in let f = kind_none h t (omega arith) in let z : ◌≡◌ {A = ℕ} 0 1 = cc in absurd (omega arith)
    go false e = k
kind_stays close h t k = k
kind_stays (access c r) h t k = k

-- an open task is a task begun
pub kind_open : (h : History) (t : ℕ) → On (scopes h) (task t) → kind_of h t ≡ Some Task
kind_open [] t (inl e) = let q : 0 ≡ t = cc in subst (λ (k : ℕ). kind_of [] k ≡ Some Task) q refl
kind_open [] t (inr o) = absurd o
kind_open (open_task ∷ h) t (inl e) = let q : t ≡ begun h = cc in rw (eq-eqb t (begun h) q)
kind_open (open_task ∷ h) t (inr o) = kind_stays open_task h t (kind_open h t o)
kind_open (open_finish ∷ h) t (inl e) = let z : ◌≡◌ {A = ℕ} 0 1 = cc in absurd (omega arith)
kind_open (open_finish ∷ h) t (inr o) = kind_stays open_finish h t (kind_open h t o)
kind_open (close ∷ h) t o = kind_open h t (on_outward (scopes h) (task t) o)
kind_open (access c r ∷ h) t o = kind_open h t o

-- the innermost task is one
pub kind_innermost : (h : History) → Accepted h → kind_of h (innermost_task (scopes h)) ≡ Some Task
kind_innermost h a = kind_open h (innermost_task (scopes h)) (task_on (scopes h) 0 (main_open h a))
