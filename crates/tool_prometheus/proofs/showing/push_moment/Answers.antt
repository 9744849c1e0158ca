use Rattle.std.proofs.Common.{◌∙◌, ◌++◌, ◌∷◌, [], ℕ, List, Option, codes, ap, sym}
use Rattle.std.proofs.lemmas.Result.{on_ok_weaker}
use Rattle.metrics_names.specs.Names.{LabelParts}
use Rattle.tool_prometheus.specs.Own.{own_key, own_moment}
use Rattle.tool_prometheus.specs.OwnRows.{all_own, keyed_own}
use Rattle.tool_prometheus.specs.declared.own.OwnReading.TheVariants.{Level}
use Rattle.tool_prometheus.specs.Exposed.{own_of}
use Rattle.tool_prometheus.proofs.showing.push_moment.Goals as goal

pub returns-clause-ok : goal.returns-clause-ok
returns-clause-ok c =
    let rows = all_own c.args.rows.now.items in
    let name : List ℕ = codes "metrics_prometheus_tool_scrape_timestamp_seconds" in
    let own = own_of c.args.on.now in
    on_ok_weaker c.push_own.result
    (λ e. e ∙ ap (λ (ls : List LabelParts). rows ++ keyed_own (record { key = own_key ls name; reading = Level c.in-Some.moment }) ∷ []) c.as_slice-labels.ensures
    ∙ sym (ap (λ (o : Option ℕ). rows ++ own_moment own o) c.in-Some.is))
    c.push_own.ensures.ok
