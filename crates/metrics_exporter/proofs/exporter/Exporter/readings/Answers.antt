use Rattle.std.proofs.Common.{◌≡◌, ◌<◌, ℕ}
use Rattle.metrics.specs.declared.error.Error.TheVariants.{Memory}
use Rattle.metrics_exporter.specs.Exporting.{HoldsSome, IsHeldNumber}
use Rattle.metrics_exporter.specs.Gathering.{AreGathered}
use Rattle.metrics_exporter.specs.Kept.{held_cells}
use Rattle.metrics_exporter.specs.Readings.{AreReadings, all_read}
use Rattle.metrics_exporter.proofs.LawLemmas.{ok-as, refused-as}
use Rattle.metrics_exporter.proofs.SeenLemmas.{gathered-read, some-held}
use Rattle.metrics_exporter.proofs.exporter.Exporter.readings.Goals as goal

pub returns-clause-readings : goal.returns-clause-readings
returns-clause-readings c =
    let cells = held_cells c.args.self.now in
    ok-as (λ all. AreGathered cells all.items) (λ all. AreReadings cells (all_read all.items)) (λ e. e ≡ Memory) c.held_series.result (λ all is. gathered-read cells all.items is) c.held_series.ensures.gathered

pub returns-clause-refused : goal.returns-clause-refused
returns-clause-refused c =
    let cells = held_cells c.args.self.now in
    refused-as ((n : ℕ) × IsHeldNumber cells n × (0 < n)) (HoldsSome cells) c.held_series.result (λ held. some-held cells held.0 held.1 held.2) c.held_series.ensures.refused
