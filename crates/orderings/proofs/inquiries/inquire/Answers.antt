use Rattle.std.proofs.Common.{◌≡◌, ℕ, ◌<◌, List, length, take, ◌∙◌, subst, arith}
use Rattle.std.proofs.lemmas.List.{take_all}
use Rattle.orderings.specs.Meaning.{Meaning, WellFormed}
use Rattle.orderings.specs.Inquiries.{Inquiry, after_requests, Inquired}
use Rattle.orderings.proofs.Inquiring.{InTurn, one_turn, inquired}
use Rattle.orderings.proofs.Turns.{same_calls}
use Rattle.orderings.proofs.inquiries.inquire.Goals as goal

pub loop-inquiry-preserved : goal.loop-inquiry-preserved
loop-inquiry-preserved g c =
    let l : c.loop-inquiry.inquiry-index < length c.loop-inquiry.inquiries = omega arith in
    let p = c.put-inquiry.ensures in (
      λ sound. p.kept (c.loop-inquiry.invariant.0 sound),
      same_calls c.loop-inquiry.inquiries c.loop-inquiry.inquiry-index _ c.put-inquiry.result ∙ c.loop-inquiry.invariant.1,
      λ sound.
          (let now-sound = c.loop-inquiry.invariant.0 sound in
          one_turn (g.O.Ordering.meaning c.args.ordering.now) (g.O.Ordering.meaning c.loop-inquiry.ordering) (g.O.Ordering.meaning c.put-inquiry.new.ordering) c.loop-inquiry.inquiries c.loop-inquiry.inquiry-index _ l (p.response now-sound) (p.after now-sound) (c.loop-inquiry.invariant.2 sound)),
    )

finished : (m m' : Meaning) (xs : List Inquiry) (i : ℕ) → WellFormed m → take i xs ≡ xs → InTurn m (take i xs) × (m' ≡ after_requests m (take i xs)) → Inquired m xs m'
finished m m' xs i w e v = let u = subst (λ (ys : List Inquiry). InTurn m ys × (m' ≡ after_requests m ys)) e v in inquired m m' xs w u.0 u.1

pub returns-clause-inquired : goal.returns-clause-inquired
returns-clause-inquired g c = λ sound. finished (g.O.Ordering.meaning c.args.ordering.now) (g.O.Ordering.meaning c.loop-inquiry.ordering) c.loop-inquiry.inquiries c.loop-inquiry.inquiry-index (g.met.O.Ordering.formed c.args.ordering.now sound) (take_all c.loop-inquiry.inquiry-index c.loop-inquiry.inquiries (omega arith)) (c.loop-inquiry.invariant.2 sound)
