use Rattle.std.proofs.Common.{◌≡◌, ap, sym, ◌∙◌}
use Rattle.metrics_names.specs.Names.{KeyParts, key_eq}
use Rattle.metrics_names.specs.Equality.{key_eq-Decides}
use Rattle.metrics_collector.specs.declared.gathered.GatheredSeries.{GatheredSeries}
use Rattle.metrics_collector.proofs.rows.refill.Goals as goal

-- keys that compare as equal are one
pub returns-then-eq : goal.returns-then-eq
returns-then-eq c =
    let same : c.args.row.now.key ≡ c.args.key.now =
    (key_eq-Decides c.args.row.now.key c.args.key.now).0 (ap (λ (k : KeyParts). key_eq k c.args.key.now) (sym c.deref.ensures) ∙ sym c.eq.ensures ∙ c.if-eq.true) in
    let row : KeyParts → GatheredSeries = λ k. record { key = k; value = c.args.value } in
    ap row (c.look.ensures ∙ same)
