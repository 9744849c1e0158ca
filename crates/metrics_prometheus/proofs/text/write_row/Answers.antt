use Rattle.std.proofs.Common.{◌≡◌, ◌∙◌, ◌++◌, ap, sym, string_bytes, Some, Option}
use Rattle.std.specs.Prelude.{option_map}
use Rattle.metrics_exporter.specs.Readings.{reading_shown}
use Rattle.metrics_prometheus.specs.Exposition.{Row, reason_of, row_lines_as}
use Rattle.metrics_prometheus.specs.Rows.{row_shown, reason_shown}
use Rattle.metrics_prometheus.proofs.TextLemmas.{named-reason}
use Rattle.metrics_prometheus.proofs.text.write_row.Goals as goal

pub returns-in-Some-clause-ok : goal.returns-in-Some-clause-ok
returns-in-Some-clause-ok c = λ rows names.
    let row = row_shown c.args.row.now in
    let last : Option Row = option_map (λ w. row_shown w.now) c.args.last in
    let is : Some (reason_shown c.in-Some.reason) ≡ reason_of rows last row =
    sym (ap (λ o. option_map reason_shown o) c.in-Some.is) ∙ c.reason_of.ensures rows names ∙ ap (λ o. reason_of rows o row) c.named-same.ensures.named ∙ named-reason rows last row in
    c.in_ok-write_left_out.ensures ∙ ap (λ o. string_bytes c.args.text.now ++ row_lines_as o (Some (reading_shown c.args.row.now.reading)) last row) is
