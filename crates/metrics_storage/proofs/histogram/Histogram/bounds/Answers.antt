use Rattle.std.proofs.Common.{ap, sym, ◌∙◌, subst, w64}
use Rattle.std.specs.Prelude.{All, FitsSigned}
use Rattle.std.specs.Arc.{arc_value}
use Rattle.metrics_storage.specs.Histogram.{bounds_of}
use Rattle.metrics_storage.proofs.Merging.{bounds-of-buckets}
use Rattle.metrics_storage.proofs.histogram.Histogram.bounds.Goals as goal

pub returns-clause-value : goal.returns-clause-value
returns-clause-value c =
    let h = c.self.inside in
    c.bounds.ensures.value ∙ c.deref.ensures ∙ sym (bounds-of-buckets (arc_value h.scale) h.ranks.items) ∙ ap bounds_of c.self.view_is

pub returns-clause-fits : goal.returns-clause-fits
returns-clause-fits c =
    let h = c.self.inside in let is = c.deref.ensures ∙ sym (bounds-of-buckets (arc_value h.scale) h.ranks.items) ∙ ap bounds_of c.self.view_is in
    subst (All (FitsSigned w64)) is c.bounds.ensures.fits
