use Rattle.std.proofs.Common.{rules, ◌≡◌, false, ◌<◌, ◌∙◌}
use Rattle.metrics_bucket.specs.Account.{has_ticket}
use Rattle.metrics_bucket.proofs.Pens.{free_hold}
use Rattle.metrics_bucket.proofs.Allowed.{glues, weighs}
use Rattle.metrics_bucket.proofs.pen.Pen.join.Goals as goal

pub join_seat-requires : goal.join_seat-requires
join_seat-requires c =
    let i = c.self.invariant in
    let o = c.other.invariant in
    let free : has_ticket c.self.inside.ticket ≡ false = search rules in
    let free_too : has_ticket c.other.inside.ticket ≡ false = search rules in
    let some_weight : 0 < c.self.inside.seat.me.0.weight = search rules in
    let closed : c.deref.result.now.shared.key.1 ≡ false = search rules in
    (search rules, search rules, search rules, search rules, glues _ _ closed _ _ _ _ some_weight (i.holds ∙ free_hold _ free) (o.holds ∙ free_hold _ free_too))

pub load-requires : goal.load-requires
load-requires c = (search rules, search rules, weighs _ _ _ _ _)
