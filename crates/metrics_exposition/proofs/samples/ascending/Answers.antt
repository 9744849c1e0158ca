use Rattle.std.proofs.Common.{rules}
use Rattle.metrics_exposition.proofs.GatherLemmas.{gathers, on-ok}
use Rattle.metrics_exposition.proofs.samples.ascending.Goals as goal

pub returns : goal.returns
returns c =
    let kept = gathers _ (λ q. q.0.ghost_name) (λ q. q.1.ghost_name) (λ q. q.0.now) (λ q. q.1.now.items) (λ q x v k. (search rules, search rules, search rules, search rules)) _ _ _ c.in_ok-buckets.ensures.items c.visit_ascending-shown.ensures in
    let items = on-ok c.visit_ascending-shown.result.0.now c.in_ok-done.field-0 kept.2 in
    search (rules, kept, items)
