use Rattle.std.proofs.Common.{◌∙◌, ap, sym}
use Rattle.metrics_storage.specs.Histogram.{bounds_of}
use Rattle.metrics_exporter.specs.Choice.{bounds_in}
use Rattle.metrics_exporter.proofs.BoundsLemmas.{bounds-back}
use Rattle.tool_state.proofs.units.is_made_in.Goals as goal

pub returns : goal.returns
returns c h =
    sym (bounds-back (bounds_in c.args.bounds.now c.args.unit c.args.name.now)) ∙ ap bounds_of (sym c.of_unit.ensures) ∙ c.same_bounds.ensures.0 h
