use Rattle.std.proofs.Common.{drop, ◌+◌, ◌∙◌, ap, sym, subst}
use Rattle.std.specs.Prelude.{All}
use Rattle.std.specs.Str.{IsUtf8}
use Rattle.std.proofs.lemmas.List.{at_drop_more, take_all}
use Rattle.std.proofs.lemmas.List.Elements.{All-more}
use Rattle.std.specs.List.Sorted.{IsSorted}
use Rattle.metrics_names.specs.Names.{LabelParts, label_cmp}
use Rattle.metrics_exposition.specs.Labels.{added, with_labels}
use Rattle.metrics_exposition.proofs.LabelLemmas.{added-sorted}
use Rattle.metrics_exposition.proofs.labels.made_labels.Goals as goal

pub loop-label-preserved : goal.loop-label-preserved
loop-label-preserved c =
    let P : LabelParts → Type 0 = λ m. IsUtf8 m.1 in
    let labels = c.args.labels.now in
    let i = c.loop-label.label-index in
    let label = c.label-item.result in
    let old = c.loop-label.shown.items in
    let rest = drop (i + 1) labels in
    record {
      shown = ap (λ s. with_labels s rest) c.in_ok-add_label.ensures.shown ∙ ap (λ (m : LabelParts). with_labels (added m.0 m.1 old) rest) c.label-item.is ∙ sym (at_drop_more (with_labels old) labels i label c.loop-label-test.true) ∙ c.loop-label.invariant.shown;
      sorted = subst (IsSorted label_cmp) (sym c.in_ok-add_label.ensures.shown) (added-sorted label.0 label.1 old c.loop-label.invariant.sorted);
      texts = All-more P labels i label c.loop-label-test.true c.loop-label.invariant.texts (subst P c.label-item.is c.in_ok-add_label.ensures.text);
    }

pub returns-clause-texts : goal.returns-clause-texts
returns-clause-texts c = subst (All (λ (m : LabelParts). IsUtf8 m.1)) (take_all c.loop-label.label-index c.args.labels.now c.loop-label-test.false) c.loop-label.invariant.texts
