use Rattle.std.proofs.Common.{◌∙◌, sym}
use Rattle.metrics_exporter.specs.Exporting.{steps, cells_after}
use Rattle.metrics_exporter.specs.Kept.{described}
use Rattle.metrics_prometheus.specs.Counted.{counted_bytes}
use Rattle.tool_requests.specs.Places.{kept_places}
use Rattle.tool_prometheus.specs.Exposed.{own_of}
use Rattle.tool_prometheus.proofs.OwnLemmas.{counted, if-ok}
use Rattle.tool_prometheus.proofs.showing.own_text.Goals as goal

pub returns-then-left_out-eq0-clause-ok : goal.returns-then-left_out-eq0-clause-ok
returns-then-left_out-eq0-clause-ok c = λ setup log after.
    let on = c.args.on.now in
    let first = c.in_ok-shown.shown in
    let (held, number, is) = c.len-held.ensures setup log after in
    let before = c.in_ok-shown.ensures.ok setup log after in
    counted (own_of on) on.naming (described on.exporter) (kept_places on.dialect.places on.front) (cells_after setup (steps log)) (counted_bytes first) (counted_bytes first)
    c.len-held.result held 0 number is before (sym c.if-left_out-eq0.true ∙ c.len-left_out.ensures ∙ first.left_out.ok.0 ∙ first.number) before

pub returns-clause-ok : goal.returns-clause-ok
returns-clause-ok c = λ setup log after.
    let on = c.args.on.now in
    let first = c.in_ok-shown.shown in
    let (held, number, is) = c.len-held.ensures setup log after in
    if-ok c.text_leaving-2.result
    (λ shown shows. counted (own_of on) on.naming (described on.exporter) (kept_places on.dialect.places on.front) (cells_after setup (steps log)) (counted_bytes first)
    (counted_bytes shown) c.len-held.result held c.len-left_out.result number is (c.in_ok-shown.ensures.ok setup log after) (c.len-left_out.ensures ∙ first.left_out.ok.0 ∙ first.number) shows)
    (c.text_leaving-2.ensures.ok setup log after)
