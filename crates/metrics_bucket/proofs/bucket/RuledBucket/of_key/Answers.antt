use Rattle.std.proofs.Common.{rules, ◌≡◌, ◌+◌, ◌*◌, List, [], ◌∷◌, ℕ, refl, sym, subst}
use Rattle.atomic_table.specs.Table.{opening}
use Rattle.metrics_bucket.specs.declared.view.Turn.{Turn}
use Rattle.metrics_bucket.specs.BucketState.{blocks_of, first_view}
use Rattle.metrics_bucket.specs.History.{FollowsHistory, turn_at}
use Rattle.metrics_bucket.proofs.Shares.{zeros}
use Rattle.metrics_bucket.proofs.Allowed.{starts}
use Rattle.metrics_bucket.proofs.bucket.RuledBucket.of_key.Goals as goal

pub new-requires : goal.new-requires
new-requires g c =
    let e : c.as_slice.result.now ≡ zeros (2 + 2 * c.args.places + 2 * blocks_of c.args.places) = search rules in
    let slots : c.push.new.self.items ≡ turn_at 0 ∷ [] = search rules in
    subst (λ (ws : List ℕ × List Turn). FollowsHistory c.args.places c.args.many (opening ws.0 ws.1 (first_view c.args.many c.args.places))) (λ i. (sym e i, sym slots i)) (starts c.args.many c.args.places (2 + 2 * c.args.places + 2 * blocks_of c.args.places) refl)
