-- The rows with the others so far, each of which could be joined.
use Rattle.std.proofs.Common.{◌≡◌, map, take}
use Rattle.metrics_collector.specs.Gathering.{keyed_gathered}
use Rattle.metrics_collector.specs.Merging.{with_all}
use Rattle.metrics_collector.proofs.MergingLemmas.{AreJoinedUpTo}
use Rattle.metrics_collector.proofs.merging.together.Given as goal

abbrev pub invariant-loop-other : goal.invariant-loop-other
invariant-loop-other l = record {
  rows : map keyed_gathered l.all.items ≡ with_all (take l.other-index (map keyed_gathered l.others)) (map keyed_gathered l.rows);
  joined : AreJoinedUpTo (map keyed_gathered l.rows) (map keyed_gathered l.others) l.other-index;
}
