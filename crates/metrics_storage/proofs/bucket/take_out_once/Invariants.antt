use Rattle.std.proofs.Common.{length, reverse}
use Rattle.metrics_storage.specs.Bucket.{IsCalledAtEach, TakesInTurn}
use Rattle.metrics_storage.proofs.bucket.take_out_once.Given as goal

-- calls at the rest that end in `last` make calls at all that end there
abbrev pub invariant-loop-block : goal.invariant-loop-block
invariant-loop-block g l = record {
  takes : TakesInTurn g.F.FnMut l.f (reverse l.blocks.items);
  calls : (last : _) → IsCalledAtEach g.F.FnMut l.f (reverse l.blocks.items) last → IsCalledAtEach g.F.FnMut l.fn.f (reverse l.fn.blocks.items) last;
}

abbrev pub decreases-loop-block : goal.decreases-loop-block
decreases-loop-block g l = length l.blocks.items
