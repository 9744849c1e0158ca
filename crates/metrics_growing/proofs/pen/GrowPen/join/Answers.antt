use Rattle.std.proofs.Common.{rules, ◌≡◌, ◌∙◌, List, sym, subst, ap}
use Rattle.metrics_growing.specs.Parts.{Part, IsOf, joined_parts}
use Rattle.metrics_growing.specs.Bags.{pushed_by, taken_by}
use Rattle.metrics_growing.proofs.Balances.{joined_sums}
use Rattle.metrics_growing.proofs.Chains.{of_joined}
use Rattle.metrics_growing.proofs.pen.GrowPen.join.Goals as goal

pub returns-clause-own : goal.returns-clause-own
returns-clause-own c =
    let is : c.take_in.new.known.items ≡ joined_parts c.args.self.now c.args.other = search rules in
    λ links a b. subst (λ (ps : List Part). IsOf links ps) (sym is) (of_joined links c.args.self.now c.args.other a b)

pub returns-clause-sums : goal.returns-clause-sums
returns-clause-sums c =
    let is : c.take_in.new.known.items ≡ joined_parts c.args.self.now c.args.other = search rules in
    λ h. let s = joined_sums h c.args.self.now c.args.other in (ap (pushed_by h) is ∙ s.0, ap (taken_by h) is ∙ s.1)
