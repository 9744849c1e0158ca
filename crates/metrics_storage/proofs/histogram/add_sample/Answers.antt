use Rattle.std.proofs.Common.{◌<◌, length, arith}
use Rattle.metrics_storage.proofs.Counting.{get-le-total}
use Rattle.metrics_storage.proofs.histogram.add_sample.Goals as goal

pub overflow_add-ranks : goal.overflow_add-ranks
overflow_add-ranks c =
    let r = c.rank_of.result in let ranks = c.args.ranks.now in
    let within : r < length ranks = omega (arith, c.rank_of.ensures.most, c.requires.same) in
    record { fits = omega (arith, get-le-total ranks r within, c.requires.room) }
