use Rattle.std.proofs.Common.{◌<◌, ◌∙◌, length, map, arith}
use Rattle.std.proofs.lemmas.List.{length-map}
use Rattle.metrics_rules.proofs.JoinedLemmas.{starts-count, begins}
use Rattle.metrics_trees.proofs.leaves.Leaves.before.Goals as goal

pub index-requires : goal.index-requires
index-requires g c =
    let row = c.in-Several.row in
    let all = map g.B.Recorder.meaning row.recorders.items in
    omega (arith, rw c.in-Several.is at c.requires, starts-count row.starts.items all row.starts_are, length-map row.recorders.items g.B.Recorder.meaning, row.starts.ok.0)

pub returns-in-Several : goal.returns-in-Several
returns-in-Several g c =
    let row = c.in-Several.row in
    let all = map g.B.Recorder.meaning row.recorders.items in
    let inside : c.args.leaf < length all = omega (arith, rw c.in-Several.is at c.requires, length-map row.recorders.items g.B.Recorder.meaning) in
    rw c.in-Several.is (c.index.ensures ∙ begins row.starts.items all row.starts_are c.args.leaf inside c.index.result.now)
