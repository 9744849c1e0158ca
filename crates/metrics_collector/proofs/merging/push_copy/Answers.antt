use Rattle.std.proofs.Common.{◌≡◌, ◌∙◌, List, map, ap, rules}
use Rattle.metrics_collector.specs.declared.gathered.GatheredSeries.{GatheredSeries}
use Rattle.metrics_collector.specs.Gathering.{keyed_gathered}
use Rattle.metrics_collector.proofs.MergingLemmas.{pushed}
use Rattle.metrics_collector.proofs.merging.push_copy.Goals as goal

pub returns-clause-ok : goal.returns-clause-ok
returns-clause-ok c =
    let row = c.args.row.now in
    let key : c.in_ok-key.key ≡ row.key = search rules in
    ap (λ (xs : List GatheredSeries). map keyed_gathered xs) c.in_ok-push.ensures.items
    ∙ pushed c.args.rows.now.items row (record { key = c.in_ok-key.key; value = c.in_ok-value.value }) key c.in_ok-value.ensures.kind c.in_ok-value.ensures.value
