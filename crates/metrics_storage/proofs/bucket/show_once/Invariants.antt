use Rattle.std.proofs.Common.{length, reverse}
use Rattle.metrics_storage.specs.Bucket.{IsCalledAtEach, TakesInTurn}
use Rattle.metrics_storage.proofs.bucket.show_once.Given as goal

-- calls at the rest that end in `last` make calls at all that end there
abbrev pub invariant-loop-newest : goal.invariant-loop-newest
invariant-loop-newest g l = record {
  takes : TakesInTurn g.F.FnMut l.f (reverse l.rest);
  calls : (last : _) → IsCalledAtEach g.F.FnMut l.f (reverse l.rest) last → IsCalledAtEach g.F.FnMut l.fn.f (reverse l.fn.blocks) last;
}

abbrev pub decreases-loop-newest : goal.decreases-loop-newest
decreases-loop-newest g l = length l.rest
