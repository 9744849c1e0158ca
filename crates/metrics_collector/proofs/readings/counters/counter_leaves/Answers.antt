use Rattle.std.proofs.Common.{ap, ◌∙◌}
use Rattle.std.specs.Arc.{arc_with_value}
use Rattle.metrics_collector.proofs.readings.counters.counter_leaves.Goals as goal

-- what is written back is the cell that was borrowed
pub returns-in-Some-get_mut-clause-same : goal.returns-in-Some-get_mut-clause-same
returns-in-Some-get_mut-clause-same g c =
    ap (arc_with_value c.args.cell.now) (c.last_generation.ensures.same ∙ c.in-Some-get_mut.ensures.value)
