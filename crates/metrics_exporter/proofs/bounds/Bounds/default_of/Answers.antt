use Rattle.std.proofs.Common.{◌≡◌, ◌∙◌, sym, ap, Some}
use Rattle.std.specs.Prelude.{option_copied}
use Rattle.indexmap.specs.IndexMap.{get}
use Rattle.metrics_storage.specs.Histogram.{bounds_of}
use Rattle.metrics_exporter.specs.Units.{unit_eq}
use Rattle.metrics_exporter.proofs.BoundsLemmas.{exact-some}
use Rattle.metrics_exporter.proofs.bounds.Bounds.default_of.Goals as goal

pub returns-in-Some-get : goal.returns-in-Some-get
returns-in-Some-get c =
    let b = c.args.self.now in
    let unit = c.in-Some.unit in
    let d = c.in-Some-get.set.now in
    let there : get unit_eq b.units unit ≡ Some d = sym c.get.ensures.value ∙ ap option_copied c.in-Some-get.is in
    rw c.in-Some.is (exact-some (get unit_eq b.units unit) d (bounds_of b.default) there (b.units_unused unit d there))
