use Rattle.std.proofs.Common.{◌∙◌, ◌-◌, List, ℕ, length, drop, codes, arith, sym}
use Rattle.std.proofs.lemmas.List.{take_all, length-drop}
use Rattle.metrics_prometheus.proofs.LeftOutLemmas.{cut-here, strips, said-at}
use Rattle.metrics_prometheus.proofs.listing.left_out_at.Goals as goal

pub returns : goal.returns
returns c =
    let text = c.args.text.now in
    let rest : List ℕ = drop c.args.place text in
    let line = c.in_ok-line.line.now in
    let later = c.in_ok-line.field-0-1.now in
    let whole = c.in_ok-get.ensures.cases.0 ∙ take_all (length text - c.args.place) rest (omega (arith, length-drop c.args.place text)) in
    said-at text c.in_ok-get.field-0.now line later c.args.place c.strip_prefix.result (sym whole) (cut-here _ line later c.in_ok-line.ensures.cases).0
    (strips (codes "# left out: ") line c.strip_prefix.result c.strip_prefix.ensures.cases)
