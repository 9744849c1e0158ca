use Rattle.std.proofs.Common.{rules, of_calls}
use Rattle.std.specs.Prelude.{not}
use Rattle.std.specs.Ordering.{is_lt}
use Rattle.std.proofs.lemmas.Fn.{always_returns_same}
use Rattle.metrics_names.specs.Names.{LabelParts, label_cmp}
use Rattle.metrics_exposition.proofs.LabelLemmas.{placed-at, parts-at}
use Rattle.metrics_exposition.proofs.labels.place_of.Goals as goal

pub returns-clause-placed : goal.returns-clause-placed
returns-clause-placed c =
    let l : LabelParts = c.args.label.now in
    let ls = c.args.labels.now in
    let point = c.partition_point.ensures.partitioned (λ m. not (is_lt (label_cmp l m))) (always_returns_same _ _ _ (λ a r f k. search (rules, of_calls))) (parts-at l ls c.requires) in
    placed-at l ls c.partition_point.result c.partition_point.ensures.bound point.0 point.1
