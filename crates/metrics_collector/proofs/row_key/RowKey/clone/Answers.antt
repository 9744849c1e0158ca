use Rattle.std.proofs.Common.{◌≡◌, ap, sym, subst, rules}
use Rattle.metrics_names.specs.Names.{KeyParts}
use Rattle.metrics_exposition.specs.Labels.{AreReady}
use Rattle.metrics_collector.proofs.row_key.RowKey.clone.Goals as goal

pub invariant_of-result : goal.invariant_of-result
invariant_of-result c = λ is.
    let same : c.in_ok-clone.field-0 ≡ c.self.inside.key = search rules in
    subst AreReady (ap (λ (k : KeyParts). k.labels) (sym same)) (c.self.invariant is)
