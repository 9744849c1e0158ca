use Rattle.std.proofs.Common.{rules, ◌≡◌, false, ◌<◌, ◌∙◌}
use Rattle.metrics_bucket.specs.Account.{has_ticket}
use Rattle.metrics_bucket.proofs.Pens.{free_hold}
use Rattle.metrics_bucket.proofs.Allowed.{cuts}
use Rattle.metrics_bucket.proofs.pen.Pen.split.Goals as goal

pub split_seat-seat-requires : goal.split_seat-seat-requires
split_seat-seat-requires c =
    let i = c.self.invariant in
    let free : has_ticket c.self.inside.ticket ≡ false = search rules in
    let heavy : 1 < c.self.inside.seat.me.0.weight = search rules in
    let closed : c.deref.result.now.shared.key.1 ≡ false = search rules in
    (search rules, search rules, cuts _ _ closed _ _ heavy (i.holds ∙ free_hold _ free))
