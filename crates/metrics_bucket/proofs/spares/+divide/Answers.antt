use Rattle.std.proofs.Common.{rules, ◌≡◌, ◌<◌}
use Rattle.metrics_bucket.proofs.SparePens.{right_looked, left_looked}
use Rattle.metrics_bucket.specs.Account.{left_account, right_account}
use Rattle.metrics_bucket.proofs.spares.+divide.Goals as goal

pub scatter-requires-clause-fresh : goal.scatter-requires-clause-fresh
scatter-requires-clause-fresh t c =
    let is : c.in_ok-other.other ≡ right_account c.args.pen.now = search rules in
    let l : 0 < c.args.depth = search rules in
    right_looked c.args.pen.now c.in_ok-other.other c.args.depth is l c.requires.fresh

pub divide-requires : goal.divide-requires
divide-requires t c =
    let is : c.split.new.self ≡ left_account c.args.pen.now = search rules in
    let l : 0 < c.args.depth = search rules in
    (search rules, (left_looked c.args.pen.now c.split.new.self c.args.depth is l c.requires.fresh, search rules))
