use Rattle.std.proofs.Common.{rules, ◌≡◌, [], ◌∷◌, ◌++◌, ap, ◌∙◌}
use Rattle.tool_storm.specs.Pens.{IsSplit, weights}
use Rattle.tool_storm.proofs.Joining.{weights-push, split_fresh}
use Rattle.tool_storm.proofs.pens.+split_among.Goals as goal

pub returns-then-count-eq1-clause-weights : goal.returns-then-count-eq1-clause-weights
returns-then-count-eq1-clause-weights g t c =
    let is : c.push.new.self.items ≡ c.args.pens.now.items ++ c.args.pen ∷ [] = search rules in
    ap (weights g.B.Bucket.bags) is ∙ weights-push g.B.Bucket.bags c.args.pens.now.items c.args.pen

pub split_among-requires : goal.split_among-requires
split_among-requires g t c =
    let bags = g.B.Bucket.bags in
    let split : IsSplit (bags c.args.pen) (bags c.split.new.pen) (bags c.in_ok-other.other) = search rules in
    let fresh = (split_fresh (bags c.args.pen) (bags c.split.new.pen) (bags c.in_ok-other.other) split c.requires.pen.1).0 in
    search rules

pub split_among-requires-2 : goal.split_among-requires-2
split_among-requires-2 g t c =
    let bags = g.B.Bucket.bags in
    let split : IsSplit (bags c.args.pen) (bags c.split.new.pen) (bags c.in_ok-other.other) = search rules in
    let fresh = (split_fresh (bags c.args.pen) (bags c.split.new.pen) (bags c.in_ok-other.other) split c.requires.pen.1).1 in
    search rules
