use Rattle.std.proofs.Common.{◌∙◌, List, ap, sym, subst, refl}
use Rattle.std.specs.Prelude.{All}
use Rattle.std.specs.Str.{IsUtf8}
use Rattle.metrics_names.specs.Names.{LabelParts}
use Rattle.metrics_exposition.specs.Labels.{shown_labels}
use Rattle.metrics_exposition.proofs.LabelLemmas.{shown-whole}
use Rattle.metrics_exposition.proofs.labels.shown_labels.Goals as goal

pub returns-then-are_whole-clause-shown : goal.returns-then-are_whole-clause-shown
returns-then-are_whole-clause-shown c =
    let labels : List LabelParts = c.labels-labels.result.now in
    let same = c.labels-labels.ensures in
    c.given.ensures ∙ sym same ∙ sym (shown-whole labels (c.if-are_sorted.ensures refl) (c.if-are_whole.ensures.whole refl)) ∙ ap shown_labels same

pub returns-then-are_whole-clause-texts : goal.returns-then-are_whole-clause-texts
returns-then-are_whole-clause-texts c = subst (All (λ (l : LabelParts). IsUtf8 l.1)) c.labels-labels.ensures (c.if-are_whole.ensures.texts refl)

pub returns-clause-texts : goal.returns-clause-texts
returns-clause-texts c = subst (All (λ (l : LabelParts). IsUtf8 l.1)) c.labels-labels.ensures c.in_ok-made_labels.ensures.texts
