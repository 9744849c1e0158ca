use Rattle.std.proofs.Common.{rules, ◌≡◌, ◌<◌, List, arith, sym, subst}
use Rattle.metrics_exporter.specs.declared.series.SeriesRef.{SeriesRef}
use Rattle.metrics_exporter.specs.Exporting.{IsHeldNumber}
use Rattle.metrics_exporter.specs.Gathering.{AreGathered}
use Rattle.metrics_exporter.specs.Kept.{cells_of}
use Rattle.metrics_exporter.proofs.SeenLemmas.{none-gathered}
use Rattle.metrics_exporter.proofs.keys.held_series.Goals as goal

pub returns-then-number-eq0-clause-gathered : goal.returns-then-number-eq0-clause-gathered
returns-then-number-eq0-clause-gathered c =
    let counted = c.held_number-number.ensures in
    let none : c.held_number-number.result ≡ 0 = search rules in
    let P : List SeriesRef → Type 0 = AreGathered (cells_of c.args.registry.now) in
    subst P (sym c.new.ensures.items) (none-gathered (cells_of c.args.registry.now) counted.0 counted.1 (omega (arith, none, counted.2)))

pub returns-in_err-series-clause-refused : goal.returns-in_err-series-clause-refused
returns-in_err-series-clause-refused c =
    let counted = c.held_number-number.ensures in
    let some : 0 < c.held_number-number.result = search (rules, arith) in
    let held : (n : _) × IsHeldNumber (cells_of c.args.registry.now) n × (0 < n) = (counted.0, counted.1, omega (arith, some, counted.2)) in
    search rules
