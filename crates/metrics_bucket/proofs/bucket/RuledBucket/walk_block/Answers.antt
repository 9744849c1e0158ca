use Rattle.std.proofs.Common.{rules, ◌*◌}
use Rattle.metrics_bucket.specs.declared.view.Visit.TheVariants.{Marked}
use Rattle.metrics_bucket.specs.WalkedPlaces.{Goes}
use Rattle.metrics_bucket.proofs.bucket.RuledBucket.walk_block.Goals as goal

pub read_block-requires-clause-visits : goal.read_block-requires-clause-visits
read_block-requires-clause-visits g c i a b =
    let seen : Goes (λ _. Marked) g.W.Walker.kind c.args.seat.now.me c.if-not-are_set.seat.me c.args.side (64 * c.args.block) c.args.end = search rules in
    (seen.found i a b).1
