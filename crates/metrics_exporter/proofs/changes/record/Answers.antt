use Rattle.std.proofs.Common.{refl, rules, of_calls}
use Rattle.metrics_exporter.specs.Describing.{unit_from}
use Rattle.metrics_exporter.specs.Kept.{empty_in}
use Rattle.metrics_exporter.specs.Stepping.{TakesSample}
use Rattle.metrics_exporter.proofs.RoomLemmas.{sample-refused, registry-refused, same-registry}
use Rattle.metrics_exporter.proofs.changes.record.Goals as goal

pub returns-clause-err : goal.returns-clause-err
returns-clause-err c =
    let old = c.args.registry.now in
    let new = c.get_or_make_histogram.new.self in
    let h = c.in_ok-get_or_make_histogram.ensures in
    let call = h.histograms.0 in
    let r = c.in_ok-get_or_make_histogram.field-0 in
    let takes : TakesSample c.args.sample call.0 r call.1 = search (rules, of_calls) in
    registry-refused r _ _ _ (same-registry new old h.rest.0 h.rest.1 h.rest.2 h.rest.3)
    (sample-refused c.args.sample c.args.key.now (empty_in old (unit_from c.args.source.now c.args.key.now) c.args.key.now.name) refl old.histograms new.histograms call.0 call.1 call.4 h.histograms.1.0 c.shards-shards.ensures.once.2 r call.2 takes)
