use Rattle.std.proofs.Common.{rules, ◌≡◌, ◌^◌, ◌<◌, sym, subst, arith}
use Rattle.metrics_bucket.specs.Steps.{Seated}
use Rattle.metrics_bucket.specs.WalkedPlaces.{walk_of}
use Rattle.metrics_bucket.proofs.WalkCode.{done, done_turn, done_reach, done_walk}
use Rattle.metrics_bucket.proofs.bucket.RuledBucket.walk_and_leave.Goals as goal

pub walk_side-requires-clause-size : goal.walk_side-requires-clause-size
walk_side-requires-clause-size g c =
    let same : c.self.inside.places ≡ c.args.self.now.places = search rules in
    let most : c.self.inside.places < 2 ^ 60 = c.self.invariant.3 in
    let low = c.requires.hold.1 in
    omega arith

pub leave-requires : goal.leave-requires
leave-requires g c =
    let walks = c.walk_side.ensures.seat.1 in
    let knows = done g.W.Walker.kind c.args.seat.now.me _ c.args.side c.args.given walks c.requires.hold.2 in
    record {
      home = (search rules, subst (λ (m : Seated). 0 < m.0.weight) (sym walks.me) c.requires.home.2);
      hold = knows;
      turn = done_turn g.W.Walker.kind c.args.seat.now.me _ c.args.side c.args.given walks c.requires.turn;
      reach = done_reach g.W.Walker.kind c.args.seat.now.me _ c.args.side c.args.given walks c.requires.hold.2 c.requires.reach;
    }

pub returns-clause-walked : goal.returns-clause-walked
returns-clause-walked g c = (
  walk_of c.walk_side.new.seat.me.0,
  done_walk g.W.Walker.kind c.args.seat.now.me _ _ c.args.side c.args.given c.walk_side.ensures.seat.1 c.requires.hold.2 c.leave.ensures.walked,
  c.walk_side.ensures.calls,
)
