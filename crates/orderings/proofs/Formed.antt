-- Each step keeps a meaning well formed.
use Rattle.std.proofs.Common.{◌≡◌, ℕ, ◌<◌, ◌≤◌, false, eqb, List, [], ◌∷◌, ◌++◌, map, length, refl, ap, ◌∙◌, subst, arith, ne_eqb}
use mathlib.Core.Path.{subst⁻¹}
use Rattle.std.proofs.lemmas.List.{length_push, length-map}
use Rattle.graph.specs.History.{Scope, task, finish, number, outward, Place, before, moved}
use Rattle.orderings.specs.declared.words.Kind.{Kind}
use Rattle.orderings.specs.declared.words.Kind.TheVariants.{Task, Finish}
use Rattle.orderings.specs.Meaning.{Meaning, Begun, task_at, Fall, WellFormed, new, scope_as, begun_as, with_scope, without_innermost, shifted}

pub formed_new : (n : ℕ) → WellFormed (new n)
formed_new n = record { main = ([], refl); outermost = ([], refl); falling = (omega arith, tt) }

fall_wider : (a b : ℕ) (ss : List Scope) → a ≤ b → Fall a ss → Fall b ss
fall_wider a b [] l f = tt
fall_wider a b (s ∷ ss) l f = (omega arith, f.1)

module _ (m : Meaning) (w : WellFormed m) where
  pub formed_open : (k : Kind) → WellFormed (with_scope k m)
  formed_open k = record {
    main = (w.main.0 ++ x ∷ [], ap (λ (l : List Begun). l ++ x ∷ []) w.main.1);
    outermost = (y ∷ w.outermost.0, ap (λ (l : List Scope). y ∷ l) w.outermost.1);
    falling = (let p = length_push m.begun x in let e = numbered k in omega arith, subst⁻¹ (λ (j : ℕ). Fall j m.opened) (numbered k) w.falling);
  }
    where
      x : Begun
      x = begun_as k (length m.begun)

      y : Scope
      y = scope_as k (length m.begun)

      numbered : (k : Kind) → number (scope_as k (length m.begun)) ≡ length m.begun
      numbered Task = refl
      numbered Finish = refl

  -- main is not the innermost, so its place stays
  stays : (n : ℕ) (inner : List Scope) (s : Scope) → Fall n (s ∷ inner ++ task 0 ∷ []) → moved (s ∷ inner ++ task 0 ∷ []) (before 0) ≡ before 0
  stays n inner s f = go s (ne_eqb 0 (number s) (above inner (number s) f.1))
    where
      above : (l : List Scope) (k : ℕ) → Fall k (l ++ task 0 ∷ []) → 0 ≡ k → ⊥
      above [] k g q = omega arith
      above (x ∷ l) k g q = omega arith

      go : (s : Scope) → eqb 0 (number s) ≡ false → moved (s ∷ inner ++ task 0 ∷ []) (before 0) ≡ before 0
      go (task k) e = rw e
      go (finish k) e = rw e

  pub formed_close : 1 < length m.opened → WellFormed (without_innermost m)
  formed_close more = go w.outermost.0 w.outermost.1
    where
      go : (inner : List Scope) → m.opened ≡ inner ++ task 0 ∷ [] → WellFormed (without_innermost m)
      go [] e = let q = ap length e in absurd (omega arith)
      go (s ∷ inner) e = record {
        main = (map (shifted m.opened) w.main.0, ap (map (shifted m.opened)) w.main.1 ∙ ap (λ (p : Place). task_at p ∷ map (shifted m.opened) w.main.0) (ap (λ (l : List Scope). moved l (before 0)) e ∙ stays (length m.begun) inner s (subst (Fall (length m.begun)) e w.falling)));
        outermost = (inner, ap outward e);
        falling = subst⁻¹ (λ (l : List Scope). Fall (length (map (shifted m.opened) m.begun)) (outward l)) e (fall_wider (number s) _ (inner ++ task 0 ∷ []) (let f = subst (Fall (length m.begun)) e w.falling in let q = length-map m.begun (shifted m.opened) in omega arith) (subst (Fall (length m.begun)) e w.falling).1);
      }
