use Rattle.std.proofs.Common.{◌<◌, ◌-◌, suc, map, ap, sym, ◌∙◌, subst}
use Rattle.std.proofs.lemmas.Result.{MatchResult-weaker}
use Rattle.metrics_rules.specs.Builders.{router_branches}
use Rattle.metrics_trees.specs.Leaves.{recorders_of}
use Rattle.metrics_trees.specs.Over.{overs}
use Rattle.metrics_rules.specs.Branches.{target_refusal}
use Rattle.metrics_trees.proofs.BuildersLemmas.{length-overs}
use Rattle.metrics_trees.proofs.router.RouterBuilder.add_route_to.Goals as goal

pub returns : goal.returns
returns g c =
    let s = c.args.self.now in
    let ms = map g.B.Recorder.meaning (recorders_of s.leaves) in
    let n = sym (length-overs (router_branches s.rules) ms) in
    MatchResult-weaker c.add_route_to.result c.add_route_to.ensures
    (λ x h. (h.0, subst (λ k. suc c.args.target < k) n h.1, ap (λ rs. overs rs ms) h.2, h.3))
    (λ e h. (h.0 ∙ ap (λ k. target_refusal c.args.mask c.args.target (k - 1)) n, (ap (λ rs. overs rs ms) h.1.0, h.1.1)))
