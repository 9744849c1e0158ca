-- The entries so far.
use Rattle.std.proofs.Common.{map}
use Rattle.std.specs.Map.Iter.{deref_pair}
use Rattle.metrics_exporter.specs.Gathering.{seen_in}
use Rattle.metrics_exporter.specs.Stepping.{Rechecks}
use Rattle.metrics_exporter.proofs.expiring.recheck_cells.Given as goal

abbrev pub invariant-loop-key : goal.invariant-loop-key
invariant-loop-key g l = Rechecks l.now (seen_in g.C.KindCell.kind_held g.C.KindCell.shows (map deref_pair l.yielded)) l.initial.recency l.recency
