use Rattle.std.proofs.Common.{◌≡◌, Bool, MatchResult, sym, subst}
use Rattle.metrics.specs.declared.error.Error.TheVariants.{Memory}
use Rattle.metrics_exporter.specs.Exporting.{steps, cells_after}
use Rattle.metrics_exporter.specs.Kept.{described}
use Rattle.metrics_prometheus.specs.Counted.{counted_bytes}
use Rattle.metrics_prometheus.proofs.TextLemmas.{either-way}
use Rattle.tool_requests.specs.Places.{kept_places}
use Rattle.tool_prometheus.specs.Own.{IsShown}
use Rattle.tool_prometheus.specs.Exposed.{own_of}
use Rattle.tool_prometheus.proofs.showing.text_of.Goals as goal

pub returns-then-on-clause-text : goal.returns-then-on-clause-text
returns-then-on-clause-text c = λ setup log after.
    let on = c.args.on.now in
    subst (λ (tells : Bool). MatchResult c.own_text.result (λ shown. IsShown tells (own_of on) on.naming (described on.exporter)
    (kept_places on.dialect.places on.front) (cells_after setup (steps log)) (counted_bytes shown)) (λ e. e ≡ Memory))
    (sym c.if-on.true) (either-way _ _ c.own_text.result (c.own_text.ensures.ok setup log after) c.own_text.ensures.err)

pub returns-else-on-clause-text : goal.returns-else-on-clause-text
returns-else-on-clause-text c = λ setup log after.
    let on = c.args.on.now in
    subst (λ (tells : Bool). MatchResult c.plain_text.result (λ shown. IsShown tells (own_of on) on.naming (described on.exporter)
    (kept_places on.dialect.places on.front) (cells_after setup (steps log)) (counted_bytes shown)) (λ e. e ≡ Memory))
    (sym c.if-on.false) (c.plain_text.ensures.text setup log after)
