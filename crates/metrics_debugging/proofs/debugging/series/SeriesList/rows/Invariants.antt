use Rattle.std.proofs.Common.{◌≡◌, [], take, map}
use Rattle.metrics.specs.Book.{row_of}
use Rattle.metrics_debugging.specs.Debugging.{content_of}
use Rattle.metrics_debugging.specs.DebuggingSeries.{all_series}
use Rattle.metrics_debugging.proofs.debugging.series.SeriesList.rows.Given as goal

abbrev pub invariant-loop-stored : goal.invariant-loop-stored
invariant-loop-stored l = l.rows.items ≡ map (row_of (content_of [] [] l.descriptions)) (all_series l.self.numbers (take l.stored-index l.stored-items))
