use Rattle.std.proofs.Common.{None, refl, sym, subst}
use Rattle.tool_prometheus.specs.Asked.{nothing_asked}
use Rattle.tool_prometheus.specs.Timing.{Starts}
use Rattle.tool_prometheus.proofs.AskedLemmas.{asks_none}
use Rattle.tool_prometheus.proofs.timing.started.Goals as goal

pub returns-in_default : goal.returns-in_default
returns-in_default g c = (nothing_asked, subst (λ p. Starts p nothing_asked None) (sym c.in_default.is) (refl, refl), asks_none _)
