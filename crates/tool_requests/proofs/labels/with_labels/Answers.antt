use Rattle.std.proofs.Common.{drop, ◌+◌, ◌∙◌, ap, sym, subst}
use Rattle.std.specs.List.Sorted.{IsSorted}
use Rattle.std.proofs.lemmas.List.{at_drop_more}
use Rattle.metrics_names.specs.Names.{LabelParts, label_cmp}
use Rattle.tool_requests.specs.Lines.{with_label, with_labels}
use Rattle.tool_requests.proofs.PlaceLemmas.{with-sorted}
use Rattle.tool_requests.proofs.labels.with_labels.Goals as goal

pub loop-label-preserved : goal.loop-label-preserved
loop-label-preserved c =
    let common = c.args.common.now in
    let i = c.loop-label.label-index in
    let label = c.label-item.result in
    let old = c.loop-label.all.items in
    let rest = drop (i + 1) common in
    record {
      made = ap (with_labels rest) c.in_ok-put_common.ensures ∙ ap (λ (m : LabelParts). with_labels rest (with_label m old)) c.label-item.is ∙ sym (at_drop_more (λ ls. with_labels ls old) common i label c.loop-label-test.true) ∙ c.loop-label.invariant.made;
      sorted = subst (IsSorted label_cmp) (sym c.in_ok-put_common.ensures) (with-sorted label old c.loop-label.invariant.sorted);
    }
