use Rattle.std.proofs.Common.{ap, sym, ◌∙◌}
use Rattle.std.specs.Cmp.{signed_Decides}
use Rattle.std.proofs.lemmas.Slice.Eq.{slice_eq-Decides}
use Rattle.std.specs.Arc.{arc_value}
use Rattle.metrics_storage.specs.Histogram.{bounds_of}
use Rattle.metrics_storage.proofs.Merging.{bounds-of-buckets}
use Rattle.metrics_storage.proofs.histogram.Histogram.same_bounds.Goals as goal

pub returns : goal.returns
returns c =
    let a = c.self.inside in let b = c.other.inside in
    let same = slice_eq-Decides signed_Decides c.bounds.result.now c.bounds-2.result.now c.eq.result c.eq.ensures in
    let first = c.bounds.ensures.value ∙ c.deref.ensures ∙ sym (bounds-of-buckets (arc_value a.scale) a.ranks.items) ∙ ap bounds_of c.self.view_is in
    let second = c.bounds-2.ensures.value ∙ c.deref-2.ensures ∙ sym (bounds-of-buckets (arc_value b.scale) b.ranks.items) ∙ ap bounds_of c.other.view_is in
    (λ t. sym first ∙ same.0 t ∙ second, λ e. same.1 (first ∙ e ∙ sym second))
