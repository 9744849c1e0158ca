use Rattle.std.proofs.Common.{rules, ◌≡◌, ◌∙◌, true, List, sym, subst}
use Rattle.std.specs.Prelude.{All}
use Rattle.std.proofs.lemmas.List.{take_all}
use Rattle.std.proofs.lemmas.List.Elements.{All-more}
use Rattle.metrics_names.specs.Names.{LabelParts}
use Rattle.metrics_prometheus.specs.declared.row.ShownRow.{ShownRow}
use Rattle.metrics_prometheus.specs.Places.{are_led, IsLed}
use Rattle.metrics_prometheus.proofs.rows.have_key.Goals as goal

pub loop-row-preserved : goal.loop-row-preserved
loop-row-preserved c =
    let P : ShownRow → Type 0 = IsLed c.args.labels.now in
    let test : c.are_led.result ≡ true = search rules in
    let row : ShownRow = c.row-item.result in
    let led : P row = subst (λ (ls : List LabelParts). are_led c.args.labels.now ls ≡ true) c.as_slice.ensures (sym c.are_led.ensures ∙ test) in
    All-more P c.args.rows.now c.loop-row.row-index row c.loop-row-test.true c.loop-row.invariant (subst P c.row-item.is led)

pub returns : goal.returns
returns c = λ _. subst (All (IsLed c.args.labels.now)) (take_all c.loop-row.row-index c.args.rows.now c.loop-row-test.false) c.loop-row.invariant
