-- The text so far, and that of the rows to come; where rows were left out, and how many; the row that was written last has a head that all rows have.
use Rattle.std.proofs.Common.{◌≡◌, ◌++◌, None, drop, length, string_bytes}
use Rattle.std.specs.Prelude.{IfSome, option_map}
use Rattle.std.specs.List.{AllByRecursion}
use Rattle.metrics_exporter.specs.Exporting.{Cells}
use Rattle.metrics_prometheus.specs.Exposition.{rows_text}
use Rattle.metrics_prometheus.specs.declared.row.Head.{Head}
use Rattle.metrics_prometheus.specs.Heads.{HaveHead}
use Rattle.metrics_prometheus.specs.LeftOut.{BeginLeftOut}
use Rattle.metrics_prometheus.specs.Places.{rows_placed}
use Rattle.metrics_prometheus.specs.Rows.{row_shown, rows_shown, Shows}
use Rattle.metrics_prometheus.proofs.TextLemmas.{LeftSo}
use Rattle.metrics_prometheus.proofs.text.rows_text.Given as goal

abbrev pub invariant-loop-place : goal.invariant-loop-place
invariant-loop-place l =
    let all = rows_shown (rows_placed l.places) in
    let rest = rows_shown (rows_placed (drop l.place-index l.places)) in
    let last = option_map (λ w. row_shown w.now) l.last in
    record {
      text : (cells : Cells) → AllByRecursion (λ p. Shows cells p.row.now) l.places → string_bytes l.text ++ rows_text cells all last rest ≡ rows_text cells all None all;
      left : LeftSo all last (length l.left_out.items) rest;
      begin : BeginLeftOut (string_bytes l.text) l.left_out.items;
      head : (h : Head) → HaveHead h (rows_placed l.places) → IfSome l.last (λ w. w.now.head.value ≡ h);
    }
