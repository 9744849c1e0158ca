use Rattle.std.proofs.Common.{◌∙◌, List, map, ap, sym, subst}
use Rattle.metrics_collector.specs.declared.gathered.GatheredSeries.{GatheredSeries}
use Rattle.metrics_collector.specs.Gathering.{keyed_gathered, all_gathered}
use Rattle.metrics_collector.specs.Merging.{with_all, HasEachOnce, HasRefused}
use Rattle.metrics_collector.proofs.MergingLemmas.{are-joined, once-with-all}
use Rattle.metrics_collector.proofs.gathered.Gathered.absorb.Goals as goal

pub returns-clause-series : goal.returns-clause-series
returns-clause-series c =
    are-joined (all_gathered c.args.self.now) (all_gathered c.args.other.now) _
    (c.in_ok-self.ensures.ok
    ∙ ap (λ (xs : List GatheredSeries). with_all (map keyed_gathered xs) (map keyed_gathered c.deref.result.now)) c.deref-2.ensures.value
    ∙ ap (λ (xs : List GatheredSeries). with_all (all_gathered c.args.other.now) (map keyed_gathered xs)) c.deref.ensures.value)

pub returns-clause-once : goal.returns-clause-once
returns-clause-once c = λ once.
    subst HasEachOnce
    (sym (c.in_ok-self.ensures.ok
    ∙ ap (λ (xs : List GatheredSeries). with_all (map keyed_gathered xs) (map keyed_gathered c.deref.result.now)) c.deref-2.ensures.value
    ∙ ap (λ (xs : List GatheredSeries). with_all (all_gathered c.args.other.now) (map keyed_gathered xs)) c.deref.ensures.value))
    (once-with-all (all_gathered c.args.other.now) (all_gathered c.args.self.now) once)

pub returns-clause-joins : goal.returns-clause-joins
returns-clause-joins c = λ error h.
    c.in_ok-self.ensures.joins error
    (subst (λ (xs : List GatheredSeries). HasRefused error (map keyed_gathered xs) (map keyed_gathered c.deref-2.result.now)) (sym c.deref.ensures.value)
    (subst (λ (xs : List GatheredSeries). HasRefused error (all_gathered c.args.self.now) (map keyed_gathered xs)) (sym c.deref-2.ensures.value) h))
