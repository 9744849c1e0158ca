use Rattle.std.proofs.Common.{sym, subst}
use Rattle.metrics_exposition.specs.Labels.{AreReady}
use Rattle.metrics_exposition.specs.Shown.{labels_in, AreKnown}
use Rattle.metrics_exposition.proofs.shown.ShownLabels.is_ready.Goals as goal

pub returns-in-Ready : goal.returns-in-Ready
returns-in-Ready c = λ _. subst AreReady c.self.view_is (subst (λ l. AreReady (labels_in l)) (sym c.in-Ready.is) (subst AreKnown c.in-Ready.is c.self.invariant))
