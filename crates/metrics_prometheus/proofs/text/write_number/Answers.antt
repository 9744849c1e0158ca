use Rattle.std.proofs.Common.{rules, ◌≡◌, ◌∷◌, ◌-◌, List, length, take, drop}
use Rattle.metrics_names.specs.Names.{LabelParts}
use Rattle.metrics_exposition.specs.Numbers.{number}
use Rattle.metrics_exposition.specs.Labels.{first_key}
use Rattle.metrics_exposition.specs.Heads.{sample_head}
use Rattle.metrics_prometheus.proofs.TextLemmas.{begun-line, first-whole}
use Rattle.metrics_prometheus.proofs.text.write_number.Goals as goal

pub returns-in-Some-len1-up : goal.returns-in-Some-len1-up
returns-in-Some-len1-up c =
    let row = c.args.row.now in
    let head = c.in-Some-len1-up.head.now in
    let labels : List LabelParts = c.as_slice-labels.result.now in
    let more : List LabelParts = take (length labels - 1) (drop 1 labels) in
    let begun : head ≡ sample_head row.head.value.name (first_key labels) = search rules in
    let whole : c.first-item.result ∷ more ≡ labels = first-whole labels c.first-item.result c.in-Some-len1-up.len_at_least c.first-item.is in
    let line = begun-line head row.head.value.name c.value.result.now (number row.head.value.places c.args.value) labels more c.first-item.result begun whole c.value.ensures in
    search (rules, line)
