use Rattle.std.proofs.Common.{codes, string_bytes, ◌∙◌, ◌++◌, ◌∷◌, [], ap, sym, append_assoc}
use Rattle.metrics_prometheus.specs.Exposition.{reason_text, series_named}
use Rattle.metrics_prometheus.specs.Rows.{row_shown, reason_shown}
use Rattle.metrics_exposition.proofs.LineLemmas.{five-parts}
use Rattle.metrics_prometheus.proofs.reasons.write_left_out.Goals as goal

pub returns : goal.returns
returns c =
    let series = series_named (row_shown c.args.row.now) in
    let why = reason_text (reason_shown c.args.reason) in
    five-parts (string_bytes c.args.text.now) (codes "# left out: ") series (codes ": ") why (10 ∷ [])
    (string_bytes c.push_str.new.self) (string_bytes c.write_series.new.text) (string_bytes c.push_str-2.new.self) (string_bytes c.write_reason.new.text) (string_bytes c.push_str-3.new.self)
    c.in_ok-push_str.ensures.bytes c.in_ok-write_series.ensures c.in_ok-push_str-2.ensures.bytes c.in_ok-write_reason.ensures c.in_ok-push_str-3.ensures.bytes
    ∙ ap (λ t. string_bytes c.args.text.now ++ (codes "# left out: " ++ t)) (sym (append_assoc series (codes ": " ++ why) (10 ∷ [])))
