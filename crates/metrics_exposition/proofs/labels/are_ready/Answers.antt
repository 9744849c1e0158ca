use Rattle.std.proofs.Common.{◌∙◌, sym, rules}
use Rattle.metrics_exposition.proofs.LabelLemmas.{shown-whole, fit-any}
use Rattle.metrics_exposition.proofs.labels.are_ready.Goals as goal
use Rattle.metrics_exposition.proofs.labels.are_ready.Goals.{then-are_sorted, else-are_sorted}

pub returns-then-are_whole : goal.returns-then-are_whole
returns-then-are_whole c = λ is.
    let labels = c.args.labels.now in
    elim c.if-are_sorted.branch [
      | then-are_sorted w ↦ (shown-whole labels (c.are_sorted.ensures (search rules)) (w.are_whole.ensures.whole (search rules)), (λ kind. fit-any kind labels (sym c.are_fit.ensures ∙ is)), w.are_whole.ensures.texts (search rules))
      | else-are_sorted w ↦ absurd (search rules)
    ]
