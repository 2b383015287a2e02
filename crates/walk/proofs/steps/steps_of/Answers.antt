use Rattle.std.proofs.Common.{rules, ◌≡◌, IfOk, List, map, vec_items, ap, ◌∙◌, subst}
use Rattle.std.specs.List.{zip}
use Rattle.std.proofs.lemmas.Iterator.{items_from_collect, YieldsList-from_slice, YieldsList-from_zip, YieldsList-from_map}
use Rattle.walk.specs.declared.steps.Step.{Step}
use Rattle.walk.specs.Steps.{paired}
use Rattle.walk.proofs.Pairing.{step_of, paired_zip}
use Rattle.walk.proofs.steps.steps_of.Goals as goal

pub returns : goal.returns
returns c =
    let actions = c.args.actions.now in
    let pairs = c.as_chunks.result.0.now in
    let all = items_from_collect _ c.collect.ensures.ran (YieldsList-from_map _ step_of (YieldsList-from_zip (YieldsList-from_slice actions cc) (YieldsList-from_slice pairs cc)) c.map.ensures.closure (λ x r q k. search rules)) in
    let same : map step_of (zip actions pairs) ≡ paired actions c.args.exchanges.now = ap (λ xs. map step_of (zip actions xs)) c.as_chunks.ensures.front ∙ paired_zip actions c.args.exchanges.now in
    subst (λ (xs : List Step). IfOk c.collect.result (λ v. vec_items v ≡ xs)) same all
