use Rattle.std.proofs.Common.{ap, sym, ◌∙◌, subst, arith}
use Rattle.metrics_storage.specs.Histogram.{total, buckets_of, ascending, TakesBuckets, ShowsBuckets}
use Rattle.metrics_storage.proofs.histogram.Histogram.visit_ascending.Goals as goal

pub show_in_order-requires-clause-fits : goal.show_in_order-requires-clause-fits
show_in_order-requires-clause-fits g c = let h = c.self.invariant in let is = ap total c.deref-4.ensures.value ∙ h.1 in omega (arith, is, h.2)

pub show_in_order-requires-clause-takes : goal.show_in_order-requires-clause-takes
show_in_order-requires-clause-takes g c =
    let is = (λ j. ascending (buckets_of ((c.bounds.ensures.value ∙ c.deref.ensures) j) (c.deref-4.ensures.value j))) ∙ ap (λ h. ascending h.buckets) c.self.view_is in
    subst (TakesBuckets g.F.FnMut c.args.f) (sym is) c.requires

pub returns : goal.returns
returns g c =
    let is = (λ j. ascending (buckets_of ((c.bounds.ensures.value ∙ c.deref.ensures) j) (c.deref-4.ensures.value j))) ∙ ap (λ h. ascending h.buckets) c.self.view_is in
    subst (λ bs. ShowsBuckets g.F.FnMut c.args.f bs c.show_in_order.result) is c.show_in_order.ensures
