-- The bounds so far, and the next one.
use Rattle.std.proofs.Common.{◌≡◌, length}
use Rattle.metrics_exporter.specs.BoundLists.{stepped}
use Rattle.metrics_exporter.proofs.BoundListsLemmas.{IsEach, IsNext}
use Rattle.metrics_exporter.proofs.bound_lists.steps.Given as goal

abbrev pub invariant-loop-k : goal.invariant-loop-k
invariant-loop-k l = record {
  number : length l.bounds.items ≡ l.k;
  each : IsEach (stepped l.step) l.start l.bounds.items l.k;
  next : IsNext (stepped l.step) l.start l.next l.k;
}
