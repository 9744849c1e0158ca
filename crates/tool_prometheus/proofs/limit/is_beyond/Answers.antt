use Rattle.std.proofs.Common.{◌∙◌, ap, is_some, arith}
use Rattle.metrics_exporter.specs.Exporting.{steps, cells_after}
use Rattle.metrics_exporter.specs.Gathering.{series_at}
use Rattle.tool_prometheus.proofs.LimitLemmas.{fewer, enough}
use Rattle.tool_prometheus.proofs.limit.is_beyond.Goals as goal

pub returns-then-len-most : goal.returns-then-len-most
returns-then-len-most c = λ setup log after.
    fewer c.args.most c.in-Some.most c.len.result _ _ _ c.in-Some.is (c.len.ensures setup log after) (omega arith) (omega arith)

pub returns : goal.returns
returns c = λ setup log after.
    let cells = cells_after setup (steps log) in
    enough c.args.most c.in-Some.most c.len.result _ cells _ c.holds.result c.in-Some.is (c.len.ensures setup log after) (λ low. omega (arith, low))
    (c.holds.ensures setup log after ∙ ap (λ kind. is_some (cells (series_at kind c.args.key.now))) c.kind.ensures)
