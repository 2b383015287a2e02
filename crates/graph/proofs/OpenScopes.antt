-- The list of open scopes: its numbers fall, and a scope that is open now was open since it was begun.
use mathlib.Core.Path.{◌≡◌, refl, ap}
use mathlib.Core.Logic.{◌⊎◌, inl, inr}
use mathlib.Core.List.{List, [], ◌∷◌}
use Prim.Native.Nat.{ℕ, ◌<◌, ◌≤◌}
use native.Mathlib.Omega.{arith}
use native.Mathlib.Decide.{dec_lt}
use lib.ListN.{length}
use Rattle.graph.specs.History.{Event, open_task, open_finish, close, access, History, Scope, task, finish, number, begun, outward, scopes, innermost_task, InnermostFinish}
use Rattle.graph.specs.Graph.{Put, newest, older}

abbrev pub Falling : ℕ → List Scope → Type 0
Falling n [] = Unit {0}
Falling n (s ∷ ss) = (number s < n) × Falling (number s) ss

falling_wider : (m n : ℕ) (ss : List Scope) → m ≤ n → Falling m ss → Falling n ss
falling_wider m n [] le f = tt
falling_wider m n (s ∷ ss) le f = (omega arith, f.1)

falling_outward : (n : ℕ) (ss : List Scope) → Falling n ss → Falling n (outward ss)
falling_outward n [] f = tt
falling_outward n (s ∷ ss) f = falling_wider (number s) n ss (omega arith) f.1

pub falling : (h : History) → Falling (begun h) (scopes h)
falling [] = (omega arith, tt)
falling (open_task ∷ h) = (omega arith, falling h)
falling (open_finish ∷ h) = (omega arith, falling h)
falling (close ∷ h) = falling_outward (begun h) (scopes h) (falling h)
falling (access c r ∷ h) = falling h

-- the scope is on the list
abbrev pub On : List Scope → Scope → Type 0
On [] s = ⊥
On (x ∷ ss) s = (x ≡ s) ⊎ On ss s

pub on_below : (n : ℕ) (ss : List Scope) (s : Scope) → Falling n ss → On ss s → number s < n
on_below n [] s f o = absurd o
on_below n (x ∷ ss) s f (inl e) = let e' = ap number e in omega arith
on_below n (x ∷ ss) s f (inr o) = let k = on_below (number x) ss s f.1 o in omega arith

pub on_outward : (ss : List Scope) (s : Scope) → On (outward ss) s → On ss s
on_outward [] s o = absurd o
on_outward (x ∷ ss) s o = inr o

pub task_below : (n : ℕ) (ss : List Scope) → Falling n ss → 0 < n → innermost_task ss < n
task_below n [] f p = p
task_below n (task t ∷ ss) f p = f.0
task_below n (finish g ∷ ss) f p = task_below n ss (falling_outward n (finish g ∷ ss) f) p

pub begun_pos : (h : History) → 0 < begun h
begun_pos [] = omega arith
begun_pos (open_task ∷ h) = omega arith
begun_pos (open_finish ∷ h) = omega arith
begun_pos (close ∷ h) = begun_pos h
begun_pos (access c r ∷ h) = begun_pos h

pub finish_on : (ss : List Scope) (f : ℕ) → InnermostFinish ss f → On ss (finish f)
finish_on [] f i = absurd i
finish_on (task t ∷ ss) f i = inr (finish_on ss f i)
finish_on (finish g ∷ ss) f i = inl (ap finish i)

-- q is the history at an earlier time
pub data Tail : History → History → Type 0 where
  same : {h : History} → Tail h h
  more : {d : Event} {h q : History} → Tail h q → Tail (d ∷ h) q

pub begun_mono : {h q : History} → Tail h q → begun q ≤ begun h
begun_mono same = omega arith
begun_mono (more {d = open_task} t) = let k = begun_mono t in omega arith
begun_mono (more {d = open_finish} t) = let k = begun_mono t in omega arith
begun_mono (more {d = close} t) = begun_mono t
begun_mono (more {d = access c r} t) = begun_mono t

pub was_open : {h q : History} → Tail h q → (s : Scope) → On (scopes h) s → number s < begun q → On (scopes q) s
was_open same s o l = o
was_open (more {d = open_task} t) s (inl e) l = let e' = ap number e in let k = begun_mono t in absurd (omega arith)
was_open (more {d = open_task} t) s (inr o) l = was_open t s o l
was_open (more {d = open_finish} t) s (inl e) l = let e' = ap number e in let k = begun_mono t in absurd (omega arith)
was_open (more {d = open_finish} t) s (inr o) l = was_open t s o l
was_open (more {d = close} {h = h} t) s o l = was_open t s (on_outward (scopes h) s o) l
was_open (more {d = access c r} t) s o l = was_open t s o l

-- events put
pub put_lt : {h : History} {i : ℕ} {e : Event} {p : History} → Put h i e p → i < length h
put_lt newest = omega arith
put_lt (older q) = let k = put_lt q in omega arith

pub put_tail : {h : History} {i : ℕ} {e : Event} {p : History} → Put h i e p → Tail h (e ∷ p)
put_tail newest = same
put_tail (older q) = more (put_tail q)

pub put_length : {h : History} {i : ℕ} {e : Event} {p : History} → Put h i e p → i ≡ length p
put_length newest = refl
put_length (older q) = put_length q

pub put_same : {h : History} {i j : ℕ} {e d : Event} {p q : History} → Put h i e p → Put h j d q → i ≡ j → (e ≡ d) × (p ≡ q)
put_same newest newest l = (refl, refl)
put_same newest (older b) l = let k = put_lt b in absurd (omega arith)
put_same (older a) newest l = let k = put_lt a in absurd (omega arith)
put_same (older a) (older b) l = put_same a b l

-- an earlier event, with its past, is in the past of a later one
pub put_before : {h : History} {i j : ℕ} {e d : Event} {p q : History} → Put h i e p → Put h j d q → i < j → Put q i e p
put_before newest b l = let k = put_lt b in absurd (omega arith)
put_before (older a) newest l = a
put_before (older a) (older b) l = put_before a b l

pub put_past : {h : History} {i : ℕ} {e : Event} {p : History} → Put h i e p → Tail h p
put_past newest = more same
put_past (older q) = more (put_past q)

pub ordered : (a b : ℕ) → (a < b) ⊎ ((a ≡ b) ⊎ (b < a))
ordered a b = go (dec_lt a b) (dec_lt b a)
  where
    go : Dec (a < b) → Dec (b < a) → (a < b) ⊎ ((a ≡ b) ⊎ (b < a))
    go (yes p) q = inl p
    go (no n) (yes q) = inr (inr q)
    go (no n) (no m) = inr (inl (omega arith))
