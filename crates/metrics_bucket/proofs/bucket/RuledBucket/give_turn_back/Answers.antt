use Rattle.std.proofs.Common.{rules, ◌≡◌, ◌+◌, ◌*◌, arith}
use Rattle.metrics_bucket.specs.BucketState.{blocks_of}
use Rattle.metrics_bucket.proofs.AllowedLeaves.{quits_turn}
use Rattle.metrics_bucket.proofs.bucket.RuledBucket.give_turn_back.Goals as goal

pub store-requires : goal.store-requires
store-requires g c =
    let words : c.deref.result.now.shared.table_id.words ≡ 2 + 2 * c.self.inside.places + 2 * blocks_of c.self.inside.places = search rules in
    let some_places = c.self.invariant.2 in
    (search rules, omega arith, quits_turn _ _ _ _ _ c.requires.home.1 c.requires.hold.0 c.requires.hold.1)
