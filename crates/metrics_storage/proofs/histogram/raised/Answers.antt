use Rattle.std.proofs.Common.{◌+◌, ◌<◌, length, get_or, ap, sym, ◌∙◌, arith}
use Rattle.metrics_storage.proofs.Counting.{sum-next, sum-le-total}
use Rattle.metrics_storage.proofs.histogram.raised.Goals as goal

pub overflow_add-sum : goal.overflow_add-sum
overflow_add-sum c =
    let i = c.loop-i.i in let ranks = c.args.ranks.now in let within : i < length ranks = omega (arith, c.loop-i-test.true, c.requires.within) in
    record { fits = omega (arith, c.loop-i.invariant, sum-next ranks i within, sum-le-total ranks (i + 1), c.requires.fits) }

pub loop-i-preserved : goal.loop-i-preserved
loop-i-preserved c =
    let i = c.loop-i.i in let ranks = c.args.ranks.now in let within : i < length ranks = omega (arith, c.loop-i-test.true, c.requires.within) in
    ap (λ n. n + get_or ranks i 0) c.loop-i.invariant ∙ sym (sum-next ranks i within)
