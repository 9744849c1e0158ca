-- Borrowing the value of a kind.
use Rattle.std.specs.Borrow.{Lends, MutBor, Fml, RattleType}
use Rattle.metrics_names.specs.declared.kind.MetricKind.{MetricKind}
use Rattle.metrics.specs.contracts.kind.PerKind.{the_row}
use Rattle.metrics.specs.Kinds.{with_kind}

-- the values of the kinds end as they were except for the last value of r
abbrev pub lends_kind : (T : RattleType) → MetricKind → MutBor (the_row T).Denot → MutBor T.Denot → Fml
lends_kind T kind p r = Lends (the_row T) T p r (with_kind kind p.now)
