use Rattle.std.proofs.Common.{inr, refl, ap, ◌∙◌}
use Rattle.metrics_descriptions.specs.Legends.{Legend, SameLegend}
use Rattle.metrics_exporter.specs.Describing.{legend_by_row}
use Rattle.metrics_exporter.specs.Kept.{described}
use Rattle.metrics_exporter.specs.Absorbing.{remaining_row}
use Rattle.metrics_exporter.proofs.AbsorbLemmas.{row-made, on-ok}
use Rattle.metrics_exporter.proofs.absorb.absorb_row.Goals as goal

pub returns-in-Ok-clause-makes : goal.returns-in-Ok-clause-makes
returns-in-Ok-clause-makes c = λ setup log after.
    row-made setup log (remaining_row c.args.samples (record { row = c.args.row.now; active = c.args.active })) c.key.result.now c.absorb_value.result c.absorb_value.new.on c.key.ensures
    (c.absorb_value.ensures.makes setup log (c.describe_row.ensures.calls setup log after))

pub returns-in-Err-clause-makes : goal.returns-in-Err-clause-makes
returns-in-Err-clause-makes c = λ setup log after.
    let refused = c.in-Err.ensures.err in
    inr (record { text = refused.1; memory = refused.0; none = refl; stands = c.describe_row.ensures.calls setup log after })

pub returns-in-Ok-clause-tells : goal.returns-in-Ok-clause-tells
returns-in-Ok-clause-tells c =
    let keyed : SameLegend (described c.absorb_value.new.on) (legend_by_row c.args.row.now (described c.args.on.now)) = λ k n. ap (λ (l : Legend). l k n) c.absorb_value.ensures.descriptions ∙ c.in-Ok.ensures.tells k n in
    on-ok c.absorb_value.result _ keyed
