use Rattle.std.proofs.Common.{◌∙◌, ap}
use Rattle.std.specs.Cmp.Lexicographic.{slice_cmp}
use Rattle.std.specs.declared.cmp.Ordering.{Ordering}
use Rattle.std.specs.Ordering.{nat_cmp, ordering_then}
use Rattle.metrics_names.specs.Names.{kind_number, label_cmp, key_cmp}
use Rattle.metrics_prometheus.proofs.RowLemmas.{then-first}
use Rattle.metrics_prometheus.proofs.rows.row_order.Goals as goal

pub returns : goal.returns
returns c = λ a b.
    let x = a.head.value in
    let y = b.head.value in
    let rest : Ordering = ordering_then (slice_cmp label_cmp a.labels b.labels) (key_cmp a.key.now b.key.now) in
    ap (λ o. ordering_then o rest) (c.head_order.ensures x y) ∙ then-first (slice_cmp nat_cmp x.name y.name) (nat_cmp (kind_number x.kind) (kind_number y.kind)) rest
