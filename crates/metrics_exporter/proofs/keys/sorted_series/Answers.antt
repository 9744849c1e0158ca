use Rattle.std.proofs.Common.{rules, ◌≡◌, ◌∙◌, ap, sym, subst}
use Rattle.std.specs.Cmp.{IsTotalOrder}
use Rattle.std.specs.Ordering.{is_eq, eq_by_cmp}
use Rattle.metrics_names.specs.Names.{SeriesKey, series_key_eq, series_key_cmp}
use Rattle.metrics_names.specs.contracts.key.CompositeKeyOrd.TheImpl.Laws.{total-law, matches_eq-law}
use Rattle.metrics_exporter.specs.Kept.{cells_of}
use Rattle.metrics_exporter.proofs.LawLemmas.{have-first}
use Rattle.metrics_exporter.proofs.SeenLemmas.{gathered-sorted}
use Rattle.metrics_exporter.proofs.GatheringLemmas.{shown-sorted}
use Rattle.metrics_exporter.proofs.keys.sorted_series.Goals as goal

pub returns-in_err-series : goal.returns-in_err-series
returns-in_err-series c =
    let order = c.key_order.ensures.order in
    let total : IsTotalOrder series_key_cmp = subst IsTotalOrder (λ i a b. order a b i) total-law in
    let some = c.in_err-series.ensures.refused in
    let first = have-first total (λ a b. sym (c.key_order.ensures.equality a b) ∙ matches_eq-law a b ∙ ap is_eq (order a b)) (cells_of c.args.registry.now) some.0 some.1 some.2 in
    search rules

pub returns : goal.returns
returns c =
    let order = c.key_order.ensures.order in
    let total : IsTotalOrder series_key_cmp = subst IsTotalOrder (λ i a b. order a b i) total-law in
    let ties : (a b : SeriesKey) → series_key_eq a b ≡ eq_by_cmp series_key_cmp a b = λ a b. sym (c.key_order.ensures.equality a b) ∙ matches_eq-law a b ∙ ap is_eq (order a b) in
    let rows = c.sort_unstable.new.self.items in
    gathered-sorted total ties (cells_of c.args.registry.now) c.in_ok-series.series.items rows c.in_ok-series.ensures.gathered c.sort_unstable.ensures.permutation
    (shown-sorted _ (λ a b. c.key_order.ensures.rows a b) rows c.sort_unstable.ensures.sorted)
