-- A value for each kind.
use Rattle.metrics_names.specs.declared.kind.MetricKind.{MetricKind}
use Rattle.metrics_names.specs.declared.kind.MetricKind.TheVariants.{Counter, Gauge, Histogram}
use Rattle.metrics.specs.declared.kind.PerKind.{PerKind}

-- the value of a kind
abbrev pub of_kind : {T : Type 0} → MetricKind → PerKind T → T
of_kind Counter p = p.counter
of_kind Gauge p = p.gauge
of_kind Histogram p = p.histogram

-- the same, with w as the value of a kind
abbrev pub with_kind : {T : Type 0} → MetricKind → PerKind T → T → PerKind T
with_kind Counter p w = record p { counter = w }
with_kind Gauge p w = record p { gauge = w }
with_kind Histogram p w = record p { histogram = w }
