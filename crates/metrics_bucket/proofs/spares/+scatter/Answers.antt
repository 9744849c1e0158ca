use Rattle.std.proofs.Common.{rules, ◌≡◌, ◌<◌}
use Rattle.metrics_bucket.proofs.SparePens.{right_half, left_half}
use Rattle.metrics_bucket.specs.Account.{left_account, right_account}
use Rattle.metrics_bucket.proofs.spares.+scatter.Goals as goal

pub scatter-requires : goal.scatter-requires
scatter-requires t c =
    let is : c.in_ok-other.other ≡ right_account c.args.pen = search rules in
    let l : 0 < c.args.depth = search rules in
    (search rules, (right_half c.args.pen c.in_ok-other.other c.args.depth is l c.requires.fresh, search rules))

pub scatter-requires-2 : goal.scatter-requires-2
scatter-requires-2 t c =
    let is : c.split.new.self ≡ left_account c.args.pen = search rules in
    let l : 0 < c.args.depth = search rules in
    (search rules, (left_half c.args.pen c.split.new.self c.args.depth is l c.requires.fresh, search rules))
