use Rattle.std.proofs.Common.{◌≡◌, IfOk, string_bytes, subst}
use Rattle.metrics_descriptions.specs.Legends.{Legend, no_legend}
use Rattle.metrics_exporter.specs.Exporting.{steps, cells_after}
use Rattle.metrics_exporter.specs.Kept.{described}
use Rattle.metrics_exposition.specs.declared.naming.Naming.TheVariants.{AsGiven}
use Rattle.metrics_prometheus.specs.Exposition.{IsDescribed}
use Rattle.metrics_prometheus.proofs.TextLemmas.{of-ok}
use Rattle.metrics_prometheus.proofs.text.exposition.Goals as goal

pub returns-clause-plain : goal.returns-clause-plain
returns-clause-plain c = λ none setup log keeps.
    let r = c.exposition_named.result in
    let P : Legend → Type 0 = λ legend. IfOk r (λ text. IsDescribed AsGiven legend (cells_after setup (steps log)) (string_bytes text)) in
    let nothing : described c.args.exporter.now ≡ no_legend = λ i k n. none k n i in
    subst P nothing (of-ok r _ _ (c.exposition_named.ensures.text setup log keeps))
