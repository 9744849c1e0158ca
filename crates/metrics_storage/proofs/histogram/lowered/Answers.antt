use Rattle.std.proofs.Common.{◌+◌, ◌<◌, length, arith}
use Rattle.metrics_storage.proofs.Counting.{sum-next, sum-more}
use Rattle.metrics_storage.proofs.histogram.lowered.Goals as goal

pub overflow_sub-sum : goal.overflow_sub-sum
overflow_sub-sum c =
    let i = c.loop-i.i in let ranks = c.args.ranks.now in let within : i < length ranks = omega (arith, c.loop-i-test.true, c.requires.within) in
    omega (arith, c.loop-i.invariant, sum-next ranks i within, sum-more ranks (i + 1) c.args.from (omega (arith, c.loop-i-test.true)))

pub loop-i-preserved : goal.loop-i-preserved
loop-i-preserved c =
    let i = c.loop-i.i in let ranks = c.args.ranks.now in let within : i < length ranks = omega (arith, c.loop-i-test.true, c.requires.within) in
    omega (arith, c.loop-i.invariant, sum-next ranks i within, sum-more ranks (i + 1) c.args.from (omega (arith, c.loop-i-test.true)))
