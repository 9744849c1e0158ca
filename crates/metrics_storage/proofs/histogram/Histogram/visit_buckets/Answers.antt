use Rattle.std.proofs.Common.{ap, sym, ◌∙◌, subst, arith}
use Rattle.metrics_storage.specs.Histogram.{total, buckets_of, TakesBuckets, ShowsBuckets}
use Rattle.metrics_storage.proofs.histogram.Histogram.visit_buckets.Goals as goal

pub show-requires-clause-fits : goal.show-requires-clause-fits
show-requires-clause-fits g c = let h = c.self.invariant in let is = ap total c.deref-3.ensures.value ∙ h.1 in omega (arith, is, h.2)

pub show-requires-clause-takes : goal.show-requires-clause-takes
show-requires-clause-takes g c =
    let is = (λ j. buckets_of ((c.bounds.ensures.value ∙ c.deref.ensures) j) (c.deref-3.ensures.value j)) ∙ ap (λ h. h.buckets) c.self.view_is in
    subst (TakesBuckets g.F.FnMut c.args.f) (sym is) c.requires

pub returns : goal.returns
returns g c =
    let is = (λ j. buckets_of ((c.bounds.ensures.value ∙ c.deref.ensures) j) (c.deref-3.ensures.value j)) ∙ ap (λ h. h.buckets) c.self.view_is in
    subst (λ bs. ShowsBuckets g.F.FnMut c.args.f bs c.show.result) is c.show.ensures
