use Rattle.std.proofs.Common.{rules, ◌≡◌, ℕ, ◌<◌, ◌/◌, ◌%◌, ◌∙◌, arith}
use Rattle.metrics_bucket.specs.declared.view.Hold.TheVariants.{Ticket}
use Rattle.metrics_bucket.specs.BucketState.{holding_at}
use Rattle.metrics_bucket.specs.Steps.{Seated}
use Rattle.metrics_bucket.proofs.Allowed.{draws}
use Rattle.metrics_bucket.proofs.bucket.RuledBucket.draw_at.Goals as goal

pub compare_exchange-requires : goal.compare_exchange-requires
compare_exchange-requires g c =
    let room : c.args.found / 2 < c.deref.result.now.shared.key.0 = search rules in
    (search rules, search rules, draws _ _ _ _ _ _ c.requires.home.2 c.requires.hold room)

pub returns-clause-ok : goal.returns-clause-ok
returns-clause-ok g c =
    let x : ℕ = c.args.found in
    let hit : c.compare_exchange.result ≡ x = search rules in
    let drawn = c.compare_exchange.ensures.2.0 hit in
    let old : Seated = c.args.seat.now.me in
    let room : x / 2 < c.args.self.now.places = search rules in (
      drawn.0,
      omega arith,
      room,
      drawn.1 ∙ (λ k. (holding_at old.0 drawn.0 (Ticket (hit k % 2) (hit k / 2)), old.1)),
      room,
    )
