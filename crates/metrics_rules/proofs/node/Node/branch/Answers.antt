use Rattle.std.proofs.Common.{arith, ◌≡◌, ◌+◌, refl, ap, ◌∙◌}
use Rattle.metrics.specs.Targets.{raise}
use Rattle.metrics.specs.TargetsLaws.{raise-zero}
use Rattle.metrics_rules.specs.Nodes.{node_meaning}
use Rattle.metrics_rules.proofs.NodesLemmas.{group-of, choice-is, indexes, chosen, subtree, fits-in}
use Rattle.metrics_rules.proofs.VisitLemmas.{only-targets}
use Rattle.metrics_rules.proofs.node.Node.branch.Goals as goal

pub branch-number-requires : goal.branch-number-requires
branch-number-requires c =
    let p = c.in-Group in
    let group = group-of p.children p.starts p._leaves p.is c.in-Some.is c.requires in
    let w = choice-is group c.args.kind c.args.name.now in
    omega (arith, w, p.children.ok.0, p.children.small)

pub index-requires : goal.index-requires
index-requires c =
    let p = c.in-Group in
    let group = group-of p.children p.starts p._leaves p.is c.in-Some.is c.requires in
    (indexes group (chosen group c.args.kind c.args.name.now _ _ c.branch-number.ensures refl).0).0

pub index-requires-in-Some : goal.index-requires-in-Some
index-requires-in-Some c =
    let p = c.in-Group in
    let group = group-of p.children p.starts p._leaves p.is c.in-Some.is c.requires in
    (indexes group (chosen group c.args.kind c.args.name.now _ _ c.branch-number.ensures refl).0).1

pub returns-in-Some : goal.returns-in-Some
returns-in-Some c =
    let p = c.in-Group in
    let group = group-of p.children p.starts p._leaves p.is c.in-Some.is c.requires in
    let (lt, is) = chosen group c.args.kind c.args.name.now _ _ c.branch-number.ensures refl in
    let x = c.index.result.now in
    let start = c.index-in-Some.result.now in
    let zero : start ≡ 0 + start = omega arith in
    record {
      tree = subtree group _ x lt c.index.ensures;
      fits = fits-in group _ x lt c.index.ensures start c.index-in-Some.ensures;
      targets =
          ap (λ n. raise n ((node_meaning x).targets c.args.kind c.args.name.now)) zero
          ∙ only-targets c.args.kind c.args.name.now 0 group _ x lt c.index.ensures start c.index-in-Some.ensures is ∙ raise-zero _;
    }

pub returns-clause-targets : goal.returns-clause-targets
returns-clause-targets c = raise-zero _
