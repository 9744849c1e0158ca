use Rattle.std.proofs.Common.{rules, ◌≡◌, [], ◌∷◌, ◌++◌, ap, arith}
use Rattle.tool_storm.specs.Pens.{weights}
use Rattle.tool_storm.proofs.Joining.{weights-push}
use Rattle.tool_storm.proofs.totals.prepared.Goals as goal

pub returns-clause-whole : goal.returns-clause-whole
returns-clause-whole g c =
    let bags = g.B.Bucket.bags in
    let is : c.split_among.new.pens.items ≡ c.pop.new.self.items ++ c.in-Some.pen ∷ [] = search rules in
    let none : c.new-pens.result.items ≡ [] = search rules in
    let whole = c.in_ok-bucket.ensures.fresh.1 in
    let all = c.in-Ok.ensures.weights in
    let a = ap (weights bags) is in
    let b = weights-push bags c.pop.new.self.items c.in-Some.pen in
    let d = ap (weights bags) none in
    omega arith
