use Rattle.std.proofs.Common.{◌≡◌, refl, subst}
use Rattle.metrics_local.specs.Keeping.{FindsHistogram}
use Rattle.metrics_local.proofs.KeepingLemmas.{handle-at}
use Rattle.metrics_local.proofs.local.Local.histogram.Goals as goal

pub returns : goal.returns
returns g c =
    let found = c.in_ok-place.ensures.found in
    let new = c.find_histogram.new.self in
    let same : found.0 ≡ c.histogram_at.result.now = handle-at new.histograms c.in_ok-place.place c.args.key.now found.0 c.histogram_at.result.now found.1 c.histogram_at.ensures in
    let P : g.row.S-Histogram.Denot → Type 0 = λ h. FindsHistogram g.S.SharedRecorder.gives_histogram c.args.key.now h c.args.self.now new in
    ((refl, (λ w. tt), subst P same found.2), record { finds = tt })
