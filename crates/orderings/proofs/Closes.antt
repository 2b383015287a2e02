-- A close: the bags of the innermost scope, and where what they hold goes.
use Rattle.std.proofs.Common.{◌≡◌, ℕ, zero, suc, ◌+◌, ◌*◌, ◌<◌, false, ◌||◌, eqb, ◌≢◌, ◌∷◌, length, sym, ap, ◌∙◌, subst, ⊎_elim, arith}
use Rattle.std.proofs.lemmas.Bool.{ne_eqb, cases_eq, or_from, both_ways}
use Rattle.orderings.specs.Forest.{Forest, winner, linked}
use Rattle.orderings.specs.Store.{Frames, Contents, joined, poured, chain}
use Rattle.orderings.specs.Sound.{Live, Each, Closable}
use Rattle.orderings.proofs.Chains.{chain_split, each_first}
use Rattle.orderings.specs.Chains.{chain_main}
use Rattle.orderings.proofs.Merges.{Merged, merged_keeps, merged_more, link_merges}
use Rattle.orderings.proofs.Pours.{Moved, head_test, moved_none, moved}
use Rattle.orderings.proofs.Framed.{each_within}

-- the root of a scope's bags linked
abbrev pub own_root : Contents → ℕ → ℕ
own_root c s = winner c.forest (c.head (2 * s)) (c.head (2 * s + 1))

module _ (fr : Frames) (c : Contents) (size s : ℕ) (K : Closable fr c size s) where
  pub not_main : s ≢ 0
  not_main e = alone K.begun K.inside K.sound.counted
    where
      alone : (f : ℕ) → s < f → K.count ≡ length (chain fr.outward f s) → ⊥
      alone zero l counted = omega arith
      alone (suc f) l counted = let one = ap length (chain_main fr.outward f s e) in let more = K.more in omega arith

  pub outer_low : fr.outward s < s
  outer_low = K.sound.framed.inward s K.inside not_main

  pub split : chain fr.outward K.begun s ≡ s ∷ chain fr.outward K.begun (fr.outward s)
  split = chain_split fr.outward K.begun K.sound.framed.inward K.begun s K.inside K.inside not_main

  lives : Each (λ s. Live c K.begun (2 * s) × Live c K.begun (2 * s + 1)) (s ∷ chain fr.outward K.begun (fr.outward s))
  lives = subst (Each (λ s. Live c K.begun (2 * s) × Live c K.begun (2 * s + 1))) split K.sound.live

  -- the bags in use
  pub live_serial : Live c K.begun (2 * s)
  live_serial = lives.0.0

  pub live_parallel : Live c K.begun (2 * s + 1)
  live_parallel = lives.0.1

  pub live_outer : Live c K.begun (2 * fr.outward s + 1)
  live_outer = let low = outer_low in (each_first fr.outward K.begun K.sound.framed.inward (λ s. Live c K.begun (2 * s) × Live c K.begun (2 * s + 1)) K.begun (fr.outward s) (omega arith) lives.1).1

  pub live_task : Live c K.begun (2 * fr.within (fr.outward s))
  live_task = let low = outer_low in (each_within fr K.begun K.sound.framed (λ s. Live c K.begun (2 * s) × Live c K.begun (2 * s + 1)) K.begun (fr.outward s) (omega arith) (omega arith) lives.1).0

  test : (k : ℕ) → Live c K.begun k → (y : ℕ) → 0 < y → y < K.begun → c.forest.parent y ≡ y → eqb y (c.head k) ≡ eqb (c.bag y) k
  test = head_test c K.begun K.sound.grown K.few K.sound.heads

  -- bags of different numbers have no head in common
  apart : (j k : ℕ) → Live c K.begun j → Live c K.begun k → j ≢ k → c.head j ≡ c.head k → c.head j ≡ 0
  apart j k v w ne e =
      ⊎_elim
      (λ z. z)
      (λ z. absurd (ne (sym (v.named (omega arith)) ∙ ap c.bag e ∙ w.named (omega arith))))
      (cases_eq (c.head j) 0)

  -- a finish with an empty P bag moves nothing
  pub finish_empty : (q : ℕ) → c.head (2 * s + 1) ≡ 0 → Moved c c K.begun q (λ k. eqb k (2 * s + 1))
  finish_empty q z = moved_none c K.begun K.sound.grown K.few K.sound.heads q (λ k. eqb k (2 * s + 1)) (λ y some l top. sym (test (2 * s + 1) live_parallel y some l top) ∙ ne_eqb y (c.head (2 * s + 1)) (λ e. omega arith))

  -- and else pours it into a bag in use
  pub finish_moves : (q : ℕ) → q < 2 * K.begun → Live c K.begun q → q ≢ 2 * s + 1 → 0 < c.head (2 * s + 1) → Moved c (poured c q (c.head (2 * s + 1))) K.begun q (λ k. eqb k (2 * s + 1))
  finish_moves q q-in v ne some =
      moved c K.begun K.sound.grown K.few K.sound.heads (linked c.forest (c.head q) (c.head (2 * s + 1))) q (winner c.forest (c.head q) (c.head (2 * s + 1))) (λ y. eqb y (c.head q) || eqb y (c.head (2 * s + 1))) (λ k. eqb k (2 * s + 1))
      (link_merges c.forest K.begun K.sound.grown K.few (c.head q) (c.head (2 * s + 1)) v.inside live_parallel.inside v.top live_parallel.top (apart q (2 * s + 1) v live_parallel ne) (λ z. some)) q-in
      (λ y p l top. λ i. test q v y p l top i || test (2 * s + 1) live_parallel y p l top i)

  -- a task first links its two bags
  pub task_links : Merged c.forest (linked c.forest (c.head (2 * s)) (c.head (2 * s + 1))) K.begun (own_root c s) (λ y. eqb y (c.head (2 * s)) || eqb y (c.head (2 * s + 1)))
  task_links =
      let some = K.sound.filled s (let ne = not_main in omega arith) K.inside in
      link_merges c.forest K.begun K.sound.grown K.few (c.head (2 * s)) (c.head (2 * s + 1)) live_serial.inside live_parallel.inside live_serial.top live_parallel.top (apart (2 * s) (2 * s + 1) live_serial live_parallel (omega arith)) (λ z. omega arith)

  -- and then pours them
  pub task_moves : (q : ℕ) → q < 2 * K.begun → Live c K.begun q → q ≢ 2 * s → q ≢ 2 * s + 1 → Moved c (poured (joined c (c.head (2 * s)) (c.head (2 * s + 1))) q (own_root c s)) K.begun q (λ k. eqb k (2 * s) || eqb k (2 * s + 1))
  task_moves q q-in v ne nf =
      let g : Forest = linked c.forest (c.head (2 * s)) (c.head (2 * s + 1)) in
      let out : 0 < c.head q → (eqb (c.head q) (c.head (2 * s)) || eqb (c.head q) (c.head (2 * s + 1))) ≡ false = λ p.
      or_from (eqb (c.head q) (c.head (2 * s))) (eqb (c.head q) (c.head (2 * s + 1)))
      (ne_eqb (c.head q) (c.head (2 * s)) (λ e. let z = apart q (2 * s) v live_serial ne e in omega arith))
      (ne_eqb (c.head q) (c.head (2 * s + 1)) (λ e. let z = apart q (2 * s + 1) v live_parallel nf e in omega arith)) in
      let top = merged_keeps c.forest g K.begun (own_root c s) _ K.few task_links (c.head q) v.inside v.top out in
      let alone : c.head q ≡ own_root c s → c.head q ≡ 0 = λ e. absurd (both_ways (eqb (c.head q) (c.head (2 * s)) || eqb (c.head q) (c.head (2 * s + 1))) (out (let p = task_links.some in omega arith)) (ap (λ (y : ℕ). eqb y (c.head (2 * s)) || eqb y (c.head (2 * s + 1))) e ∙ task_links.chosen)) in
      let last = link_merges g K.begun task_links.grown K.few (c.head q) (own_root c s) v.inside task_links.inside top task_links.top alone (λ z. task_links.some) in
      moved c K.begun K.sound.grown K.few K.sound.heads (linked g (c.head q) (own_root c s)) q (winner g (c.head q) (own_root c s)) (λ y. eqb y (c.head q) || (eqb y (c.head (2 * s)) || eqb y (c.head (2 * s + 1)))) (λ k. eqb k (2 * s) || eqb k (2 * s + 1))
      (merged_more c.forest g (linked g (c.head q) (own_root c s)) K.begun (own_root c s) (c.head q) (winner g (c.head q) (own_root c s)) _ task_links last) q-in
      (λ y p l top. λ i. test q v y p l top i || (test (2 * s) live_serial y p l top i || test (2 * s + 1) live_parallel y p l top i))
