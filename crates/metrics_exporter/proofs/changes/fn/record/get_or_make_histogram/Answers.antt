use Rattle.std.proofs.Common.{rules, of_calls, ◌≡◌, ◌+◌, ◌-◌, ◌^◌, ◌<◌, ◌∷◌, []}
use Rattle.std.specs.Prelude.{MatchResult, IsErr, ◌↔◌}
use Rattle.metrics.specs.declared.error.Error.TheVariants.{CountFull}
use Rattle.metrics_storage.specs.Histogram.{with_samples}
use Rattle.metrics_exporter.proofs.RoomLemmas.{takes-sample}
use Rattle.metrics_exporter.proofs.changes.fn.record.get_or_make_histogram.Goals as goal

pub returns : goal.returns
returns c =
    let e = c.try_increment.ensures in
    let old = c.args.cell.now in
    let new = c.try_increment.new.self in
    let step : MatchResult c.try_increment.result (λ _. new.inner ≡ with_samples (c.captures.sample ∷ []) old.inner) (λ x. (x ≡ CountFull) × (new.inner ≡ old.inner)) = search (rules, of_calls) in
    let refused : IsErr c.try_increment.result ↔ (2 ^ 64 - 1 < old.inner.count + 1) = search (rules, of_calls) in
    takes-sample c.captures.sample old new c.try_increment.result step refused e.raised e.refused
