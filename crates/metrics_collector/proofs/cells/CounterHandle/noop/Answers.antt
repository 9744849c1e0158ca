use Rattle.std.proofs.Common.{◌≡◌, MatchResult, subst}
use Rattle.metrics.specs.declared.error.Error.TheVariants.{Memory as OutOfMemory}
use Rattle.metrics_names.specs.Names.{KeyParts}
use Rattle.metrics_collector.specs.Series.{counter_key}
use Rattle.metrics_collector.proofs.cells.CounterHandle.noop.Goals as goal

pub returns : goal.returns
returns c =
    let P : KeyParts → Type 0 = λ key. MatchResult c.counter.result (λ h. counter_key h ≡ key) (λ e. e ≡ OutOfMemory) in
    subst P c.in_ok-cells.ensures c.counter.ensures
