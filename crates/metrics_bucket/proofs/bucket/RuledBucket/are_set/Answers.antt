use Rattle.std.proofs.Common.{◌-◌, ◌*◌, arith}
use Rattle.metrics_bucket.proofs.AllowedVisits.{sees_marks}
use Rattle.metrics_bucket.proofs.Packed.{mask_test}
use Rattle.metrics_bucket.proofs.bucket.RuledBucket.are_set.Goals as goal

pub load-requires : goal.load-requires
load-requires g c = (c.requires.home.0, c.requires.word, sees_marks _ _ _ _ c.requires.home.1 _ _ c.args.side c.args.block c.args.end c.requires.block _ c.requires.visits)

pub returns-clause-marked : goal.returns-clause-marked
returns-clause-marked g c equal =
    let b = c.requires.block in
    let some_place = b.some_place in
    let cut = b.cut in
    (c.load.ensures.2 g.W.Walker.kind c.args.side c.args.block c.args.end b c.requires.visits).0 ((mask_test c.load.result (64 - (c.args.end - 64 * c.args.block)) (c.args.end - 64 * c.args.block) (omega arith)).0 equal)

pub returns-clause-other : goal.returns-clause-other
returns-clause-other g c differs =
    let b = c.requires.block in
    let some_place = b.some_place in
    let cut = b.cut in
    (c.load.ensures.2 g.W.Walker.kind c.args.side c.args.block c.args.end b c.requires.visits).1 ((mask_test c.load.result (64 - (c.args.end - 64 * c.args.block)) (c.args.end - 64 * c.args.block) (omega arith)).1 differs)
