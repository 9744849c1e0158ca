use Rattle.std.proofs.Common.{refl, sym, ◌∙◌, ◌≡◌}
use Rattle.metrics_exporter.specs.Describing.{unit_told}
use Rattle.metrics_exporter.specs.Exporting.{series_of}
use Rattle.metrics_exporter.specs.Kept.{cells_of, described}
use Rattle.metrics_exporter.proofs.KeptLemmas.{update-after, updates-told, update-full}
use Rattle.metrics_exporter.proofs.exporter.Exporter.update_described.Goals as goal

pub returns-clause-calls : goal.returns-clause-calls
returns-clause-calls c = λ setup log after.
    let told = described c.args.self.now in
    update-after setup log c.args.self.now _ (unit_told told c.args.key.now c.args.by) c.args.key.now c.args.by c.update_cells.result
    (updates-told told c.args.self.now.registry c.args.key.now c.args.by (cells_of c.args.self.now.registry) (cells_of c.update_cells.new.registry) c.update_cells.result c.update_cells.ensures.ok) c.update_cells.ensures.err c.update_cells.ensures.storage.0 refl after

pub returns-clause-full : goal.returns-clause-full
returns-clause-full c = λ setup log after. update-full setup log c.args.self.now c.args.key.now c.args.by c.update_cells.result (λ _. c.update_cells.new.registry ≡ c.args.self.now.registry) c.update_cells.ensures.room c.update_cells.ensures.err after

pub returns-clause-absent : goal.returns-clause-absent
returns-clause-absent c = λ setup log after refused. sym (after.cells (series_of c.args.key.now c.args.by)) ∙ c.update_cells.ensures.absent refused
