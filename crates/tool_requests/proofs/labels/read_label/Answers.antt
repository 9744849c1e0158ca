use Rattle.std.proofs.Common.{rules}
use Rattle.tool_requests.specs.Lines.{LacksKey}
use Rattle.tool_requests.proofs.LabelLemmas.{label-twice}
use Rattle.tool_requests.proofs.labels.read_label.Goals as goal

pub returns-then-not-branch : goal.returns-then-not-branch
returns-then-not-branch c =
    let (w, written, is, at, starts) = c.in_ok-label.ensures in
    let has : LacksKey c.in_ok-label.label.0 c.args.labels.now.items → ⊥ = search rules in
    label-twice c.args.bytes.now c.in_ok-label.rest.now c.args.labels.now.items w written at starts (rw is at has)
