use Rattle.std.proofs.Common.{◌≡◌, ◌+◌, ◌++◌, ◌∷◌, [], ◌∙◌, ℕ, List, length, string_bytes, ap, sym, subst}
use Rattle.std.proofs.lemmas.List.{length-append}
use Rattle.metrics_exporter.specs.declared.readings.ReadingRef.TheVariants.{Count}
use Rattle.metrics_exposition.proofs.NameLemmas.{AreKeyed}
use Rattle.metrics_exposition.proofs.LabelLemmas.{labels-keyed}
use Rattle.metrics_prometheus.specs.Exposition.{labels_taken, left_out_line}
use Rattle.metrics_prometheus.specs.LeftOut.{LeavesOut, BeginLeftOut}
use Rattle.metrics_prometheus.specs.Rows.{row_shown}
use Rattle.metrics_prometheus.specs.declared.row.ShownRow.{ShownRow}
use Rattle.metrics_prometheus.proofs.CountLemmas.{number-of, line-more, line-says, places-more}
use Rattle.metrics_prometheus.proofs.repeated.write_repeated.Goals as goal

pub invariant_of-result : goal.invariant_of-result
invariant_of-result c =
    let counted = c.args.counted in
    let text = string_bytes counted.text in
    let row : ShownRow = record { head = c.in_ok-new.field-0; labels = c.in_ok-labels.labels; key = c.args.key; reading = Count 0 } in
    let why = labels_taken c.name.result.now in
    let more = line-more (row_shown row) why (subst AreKeyed (sym c.in_ok-labels.ensures.shown) (labels-keyed c.args.key.now.labels)) text (length counted.left_out.items) counted.whole in
    let items : List ℕ = c.push.new.self.items in
    let long : length items ≡ length counted.left_out.items + 1 = ap length c.in_ok-push.ensures.items ∙ length-append counted.left_out.items _ in
    let begin = places-more text (left_out_line (row_shown row) why) counted.left_out.items (line-says (row_shown row) why) counted.places in
    let placed : items ≡ counted.left_out.items ++ length text ∷ [] = c.in_ok-push.ensures.items ∙ ap (λ n. counted.left_out.items ++ n ∷ []) (c.len.ensures ∙ counted.text.bytes.ok.0) in
    let after = text ++ left_out_line (row_shown row) why in
    let (whole, places) : LeavesOut (string_bytes c.write_left_out.new.text) (length items) × BeginLeftOut (string_bytes c.write_left_out.new.text) items =
    subst (λ t. LeavesOut t (length items) × BeginLeftOut t items) (sym (c.in_ok-write_left_out.ensures {u = tt}))
    (subst (λ n. LeavesOut after n) (sym long) more, subst (λ l. BeginLeftOut after l) (sym placed) begin) in
    record { number = number-of (string_bytes c.write_left_out.new.text) (length items) whole; whole = whole; places = places }
