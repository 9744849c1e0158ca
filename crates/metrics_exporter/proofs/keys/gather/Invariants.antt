-- The entries so far.
use Rattle.std.proofs.Common.{◌≡◌, ◌++◌, map}
use Rattle.std.specs.Map.Iter.{deref_pair}
use Rattle.metrics_exporter.specs.Gathering.{all_seen, seen_in}
use Rattle.metrics_exporter.proofs.keys.gather.Given as goal

abbrev pub invariant-loop-key : goal.invariant-loop-key
invariant-loop-key g l = all_seen l.series.items ≡ all_seen l.initial.series.items ++ seen_in g.C.KindCell.kind_held g.C.KindCell.shows (map deref_pair l.yielded)
