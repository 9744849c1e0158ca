use Rattle.std.proofs.Common.{rules, ◌≡◌, ◌∙◌, ◌++◌, List, Option, Some, IsSome, ap, sym, subst, string_bytes}
use Rattle.std.proofs.lemmas.List.{take_all}
use Rattle.metrics_names.specs.Names.{SeriesKey}
use Rattle.metrics_exporter.specs.Exporting.{AreSeries, Cell, HoldsSome, cells_after, steps}
use Rattle.metrics_exporter.specs.ExporterText.{series_line, series_text}
use Rattle.metrics_exporter.specs.Gathering.{all_shown, series_shown, cell_shown, AreSeen}
use Rattle.metrics_exporter.specs.Kept.{cells_of}
use Rattle.metrics_exporter.proofs.ExpiryLemmas.{text-more, text-made}
use Rattle.metrics_exporter.proofs.GatheringLemmas.{shown-get, shown-within, shown-end, shown-held, seen-own}
use Rattle.metrics_exporter.proofs.exporter.Exporter.text.Goals as goal

pub loop-row-preserved : goal.loop-row-preserved
loop-row-preserved c =
    let rows = c.deref-row-items.result.now in
    let cells = cells_of c.args.self.now.registry in
    let s = series_shown c.row-item.result in
    let own : cells s ≡ Some (cell_shown c.row-item.result.cell) = seen-own cells rows c.loop-row.row-index c.row-item.result (subst (AreSeen cells) (sym c.deref-row-items.ensures.value) c.in_ok-series.ensures) c.loop-row-test.true c.row-item.is in
    let e : string_bytes c.write_series.new.text ≡ string_bytes c.loop-row.text ++ series_line s (Some (cell_shown c.row-item.result.cell)) = search rules in
    e ∙ ap (λ o. string_bytes c.loop-row.text ++ series_line s o) (sym own) ∙ ap (λ l. l ++ series_line s (cells s)) c.loop-row.invariant
    ∙ sym (text-more cells (all_shown rows) c.loop-row.row-index s (shown-within rows c.loop-row.row-index c.loop-row-test.true) (shown-get rows c.loop-row.row-index c.row-item.result c.row-item.is))

pub returns-in_err-write_series-clause-refused : goal.returns-in_err-write_series-clause-refused
returns-in_err-write_series-clause-refused c = λ setup log after.
    let rows = c.deref-row-items.result.now in
    let s = series_shown c.row-item.result in
    let S : List SeriesKey → Type 0 = AreSeries (cells_of c.args.self.now.registry) in
    let H : Option Cell → Type 0 = λ o. IsSome o in
    let held : HoldsSome (cells_after setup (steps log)) = (
      s,
      subst H (after.cells s)
          (shown-held (cells_of c.args.self.now.registry) rows c.loop-row.row-index c.row-item.result (subst S (ap all_shown (sym c.deref-row-items.ensures.value)) c.in_ok-series.ensures.series) c.loop-row-test.true c.row-item.is),
    ) in
    search rules

pub returns-clause-text : goal.returns-clause-text
returns-clause-text c = λ setup log after.
    let rows = c.deref-row-items.result.now in
    let S : List SeriesKey → Type 0 = AreSeries (cells_of c.args.self.now.registry) in
    text-made setup (steps log) c.args.self.now (all_shown rows) (string_bytes c.loop-row.text) after (subst S (ap all_shown (sym c.deref-row-items.ensures.value)) c.in_ok-series.ensures.series)
    (c.loop-row.invariant ∙ ap (series_text (cells_of c.args.self.now.registry)) (take_all c.loop-row.row-index (all_shown rows) (shown-end rows c.loop-row.row-index c.loop-row-test.false)))
