use Rattle.std.proofs.Common.{◌∙◌, ap}
use Rattle.std.specs.Option.{unwrap_or}
use Rattle.metrics_storage.specs.Histogram.{no_samples, bounds_of}
use Rattle.metrics_exporter.specs.Choice.{set_for, exact_for, default_in}
use Rattle.metrics_exporter.specs.Prefixes.{at_longest}
use Rattle.metrics_exporter.proofs.BoundsLemmas.{is-empty, bounds-back}
use Rattle.metrics_exporter.proofs.bounds.Bounds.of_unit.Goals as goal

pub of_name-requires : goal.of_name-requires
of_name-requires c = is-empty c.default_of.result.now (default_in c.args.self.now c.args.unit) c.default_of.ensures

pub returns : goal.returns
returns c =
    let b = c.args.self.now in
    let name = c.args.name.now in
    let default = default_in b c.args.unit in
    c.of_name.ensures.bounds
    ∙ ap (λ other. no_samples (unwrap_or (exact_for b name) (at_longest other (set_for b) name))) (ap bounds_of c.default_of.ensures ∙ bounds-back default)
