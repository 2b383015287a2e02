-- Main alone.
use Rattle.std.proofs.Common.{◌+◌, ◌*◌, List, ◌∷◌, length, sym, refl, ap, subst, arith}
use Rattle.orderings.specs.declared.bags.entry.Entry.{Entry}
use Rattle.orderings.specs.Store.{empty, frames, contents}
use Rattle.orderings.specs.Sound.{Live, Each, Sound}
use Rattle.orderings.proofs.Forests.{grown_main}
use Rattle.orderings.specs.Chains.{chain_main}
use Rattle.orderings.proofs.Framed.{framed_main}

pub sound_main : (t : List Entry) → Sound (frames (empty ∷ t)) (contents (empty ∷ t)) 1 0 1
sound_main t =
    let alone = chain_main (frames (empty ∷ t)).outward 0 0 refl in
    record {
      counted = sym (ap length alone);
      framed = framed_main (frames (empty ∷ t)) refl refl;
      grown = grown_main (contents (empty ∷ t)).forest refl refl;
      numbered = λ x p l. absurd (omega arith);
      heads = λ x p l. absurd (omega arith);
      filled = λ s p l. absurd (omega arith);
      serial = λ x p l. absurd (omega arith);
      live =
          subst (Each (λ s. Live (contents (empty ∷ t)) 1 (2 * s) × Live (contents (empty ∷ t)) 1 (2 * s + 1))) (sym alone)
          ((record { inside = omega arith; top = refl; named = λ p. absurd (omega arith) }, record { inside = omega arith; top = refl; named = λ p. absurd (omega arith) }), tt);
    }
