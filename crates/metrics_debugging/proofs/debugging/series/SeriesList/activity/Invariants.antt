use Rattle.std.proofs.Common.{◌≡◌, take, map}
use Rattle.metrics_debugging.specs.DebuggingSeries.{is_active}
use Rattle.metrics_debugging.proofs.debugging.series.SeriesList.activity.Given as goal

abbrev pub invariant-loop-stored : goal.invariant-loop-stored
invariant-loop-stored l = l.active.items ≡ map is_active (take l.stored-index l.stored-items)
