use Rattle.std.proofs.Common.{rules, arith, ◌≡◌, false}
use Rattle.metrics_names.specs.declared.kind.MetricKind.TheVariants.{Histogram}
use Rattle.metrics_names.specs.Names.{kind_eq}
use Rattle.metrics_prometheus.specs.declared.rows.Place.{Place}
use Rattle.metrics_prometheus.proofs.PlaceLemmas.{numbers-alike}
use Rattle.metrics_prometheus.proofs.taken.are_numbers.Goals as goal

pub returns-in-len1-up : goal.returns-in-len1-up
returns-in-len1-up c = λ is.
    let first : Place = c.first-item.result in
    let other : kind_eq first.row.now.head.value.kind Histogram ≡ false = search (rules, is) in
    numbers-alike c.args.places.now 0 first (omega (arith, c.in-len1-up.len_at_least)) c.first-item.is (c.requires (search rules)) other
