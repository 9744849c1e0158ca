use Rattle.std.proofs.Common.{◌≡◌, ◌∙◌, ◌++◌, List, IfOk, ap, sym, subst}
use Rattle.metrics_exporter.specs.Exporting.{steps, cells_after}
use Rattle.metrics_exporter.specs.Kept.{described}
use Rattle.metrics_exporter.specs.Readings.{KeyedReading}
use Rattle.metrics_prometheus.specs.Counted.{counted_bytes}
use Rattle.metrics_prometheus.specs.Exposition.{IsScaled}
use Rattle.tool_prometheus.specs.declared.own.OwnSeries.{OwnSeries}
use Rattle.tool_requests.specs.Places.{kept_places}
use Rattle.tool_prometheus.specs.Own.{own_places, own_series, with_own}
use Rattle.tool_prometheus.specs.OwnRows.{all_own}
use Rattle.tool_prometheus.specs.Exposed.{own_of}
use Rattle.tool_prometheus.proofs.showing.text_leaving.Goals as goal

pub returns-clause-ok : goal.returns-clause-ok
returns-clause-ok c = λ setup log after.
    let on = c.args.on.now in
    let own = own_series (own_of on) c.args.held c.args.left_out in
    let same : all_own c.deref.result.now ≡ own =
    ap all_own c.deref.ensures.value ∙ c.in_ok-push_all.ensures.ok
    ∙ ap (λ (rows : List OwnSeries). all_own rows ++ own) c.new-rows.ensures.items in
    subst (λ (xs : List KeyedReading). IfOk c.text_with.result (λ shown. IsScaled on.naming (described on.exporter)
    (own_places (kept_places on.dialect.places on.front)) (with_own xs (cells_after setup (steps log))) (counted_bytes shown)))
    same (c.text_with.ensures.ok setup log after)
