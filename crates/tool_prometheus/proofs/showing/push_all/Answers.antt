use Rattle.std.proofs.Common.{◌∙◌, ◌++◌, ◌∷◌, List, codes, ap}
use Rattle.std.proofs.lemmas.Result.{on_ok_weaker}
use Rattle.metrics_names.specs.Names.{LabelParts}
use Rattle.metrics_exporter.specs.Readings.{KeyedReading}
use Rattle.tool_prometheus.specs.Own.{own_moment, own_key}
use Rattle.tool_prometheus.specs.OwnRows.{all_own, keyed_own}
use Rattle.tool_prometheus.specs.declared.own.OwnReading.TheVariants.{Count, Level}
use Rattle.tool_prometheus.specs.Exposed.{own_of}
use Rattle.tool_prometheus.proofs.OwnLemmas.{five-then}
use Rattle.tool_prometheus.proofs.showing.push_all.Goals as goal

pub returns-clause-ok : goal.returns-clause-ok
returns-clause-ok c =
    let on = c.args.on.now in
    let rows = all_own c.args.rows.now.items in
    let moment = own_moment (own_of on) on.last in
    let lines : List LabelParts → KeyedReading =
    λ ls. keyed_own (record { key = own_key ls (codes "metrics_prometheus_tool_lines_total"); reading = Count on.counts.lines }) in
    let bad : List LabelParts → KeyedReading =
    λ ls. keyed_own (record { key = own_key ls (codes "metrics_prometheus_tool_bad_lines_total"); reading = Count on.counts.bad }) in
    let refused : List LabelParts → KeyedReading =
    λ ls. keyed_own (record { key = own_key ls (codes "metrics_prometheus_tool_refused_calls_total"); reading = Count on.counts.refused }) in
    let series : List LabelParts → KeyedReading =
    λ ls. keyed_own (record { key = own_key ls (codes "metrics_prometheus_tool_series"); reading = Level c.args.held }) in
    let left : List LabelParts → KeyedReading =
    λ ls. keyed_own (record { key = own_key ls (codes "metrics_prometheus_tool_left_out_series"); reading = Level c.args.left_out }) in
    let ls = c.as_slice-labels.result.now in
    on_ok_weaker c.push_moment.result
    (λ e. e
    ∙ five-then rows _ _ _ _ _ (lines ls) (bad ls) (refused ls) (series ls) (left ls) c.in_ok-push_own.ensures.ok c.in_ok-push_own-2.ensures.ok
    c.in_ok-push_own-3.ensures.ok c.in_ok-push_own-4.ensures.ok c.in_ok-push_own-5.ensures.ok moment
    ∙ ap (λ (ls : List LabelParts). rows ++ (lines ls ∷ bad ls ∷ refused ls ∷ series ls ∷ left ls ∷ moment)) c.as_slice-labels.ensures)
    c.push_moment.ensures.ok
