use Rattle.std.proofs.Common.{◌∙◌, ◌++◌, [], ℕ, List, take, ap, sym, string_bytes, append-nil}
use Rattle.metrics_exporter.specs.Gathering.{series_at}
use Rattle.metrics_prometheus.specs.declared.counted.CountedText.{CountedText}
use Rattle.metrics_prometheus.specs.Repeated.{repeated_line}
use Rattle.metrics_collector.specs.declared.gathered.GatheredSeries.{GatheredSeries}
use Rattle.metrics_collector.proofs.RepeatsLemmas.{line-when, no-line, next}
use Rattle.metrics_collector.proofs.repeats.with_repeated.Goals.{then-has_series+in_ok-all, else-has_series}
use Rattle.metrics_collector.proofs.repeats.with_repeated.Goals as goal

pub loop-at-preserved : goal.loop-at-preserved
loop-at-preserved c =
    let rows = c.args.rows.now in
    let i = c.loop-at.at in
    let row : GatheredSeries = c.index-rows-at.result in
    let text : List ℕ = string_bytes c.loop-at.all.text in
    next text (string_bytes c.if-has_series.all.text) _ rows i row c.loop-at-test.true c.index-rows-at.is
    (elim c.if-has_series.branch [
      | then-has_series+in_ok-all w ↦
          ap (λ (t : CountedText). string_bytes t.text) w.all-is ∙ w.in_ok-all.ensures.ok
          ∙ ap (λ l. text ++ l) ((λ j. repeated_line (series_at (w.kind.ensures j) (w.deref.ensures j))) ∙ sym (line-when (take i rows) row (sym c.has_series.ensures ∙ w.if-has_series.true)))
      | else-has_series w ↦
          ap (λ (t : CountedText). string_bytes t.text) w.all-is ∙ sym (append-nil text) ∙ ap (λ l. text ++ l) (sym (no-line (take i rows) row (sym c.has_series.ensures ∙ w.if-has_series.false)))
    ])
    c.loop-at.invariant
