-- The lines so far.
use Rattle.std.proofs.Common.{◌≡◌, take, string_bytes}
use Rattle.metrics_exporter.specs.ExporterText.{series_text}
use Rattle.metrics_exporter.specs.Gathering.{all_shown}
use Rattle.metrics_exporter.specs.Kept.{cells_of}
use Rattle.metrics_exporter.proofs.exporter.Exporter.text.Given as goal

abbrev pub invariant-loop-row : goal.invariant-loop-row
invariant-loop-row l = string_bytes l.text ≡ series_text (cells_of l.self.registry) (take l.row-index (all_shown l.row-items))
