use Rattle.std.proofs.Common.{◌≡◌, ◌∙◌, ◌+◌, ◌++◌, ◌∷◌, List, [], ℕ, cond, length, arith, ap, sym, subst, option_map, string_bytes, None, Some, Option, Vec, Global}
use Rattle.std.specs.Borrow.{Bor}
use Rattle.std.proofs.lemmas.List.{drop_all, length-append}
use Rattle.std.specs.Prelude.{IfSome}
use Rattle.std.specs.List.{AllByRecursion}
use Rattle.std.specs.List.Sorted.{IsSorted}
use Rattle.std.specs.Cmp.Lexicographic.{slice_cmp}
use Rattle.std.specs.Ordering.{nat_cmp}
use Rattle.metrics_names.specs.Names.{label_cmp}
use Rattle.metrics_exporter.specs.Readings.{reading_shown}
use Rattle.metrics_prometheus.specs.Exposition.{Row, histogram_names, is_left_out, last_after, row_lines, rows_text, reading_at}
use Rattle.metrics_exporter.specs.Exporting.{Cells}
use Rattle.metrics_prometheus.specs.declared.row.ShownRow.{ShownRow}
use Rattle.metrics_prometheus.specs.declared.rows.Place.{Place}
use Rattle.metrics_prometheus.specs.Places.{rows_placed, line_head}
use Rattle.metrics_prometheus.specs.Heads.{HaveOneHead}
use Rattle.metrics_prometheus.specs.LeftOut.{BeginLeftOut}
use Rattle.metrics_prometheus.specs.Rows.{row_shown, rows_shown, names_shown, Shows}
use Rattle.metrics_exposition.proofs.PairLemmas.{each-at}
use Rattle.metrics_prometheus.proofs.TextLemmas.{if-true, if-false, text-more, shown-known, LeftSo, left-more}
use Rattle.metrics_prometheus.proofs.PlaceLemmas.{head-at, some-named}
use Rattle.metrics_prometheus.proofs.CountLemmas.{places-stay, places-more, row-says}
use Rattle.metrics_prometheus.proofs.text.rows_text.Goals as goal
use Rattle.metrics_prometheus.proofs.text.rows_text.Goals.{then-branch, else-branch+in_ok-push}

-- its labels are in order
abbrev HasOrder : Place → Type 0
HasOrder p = IsSorted label_cmp p.row.now.labels

-- and it shows what its series has
abbrev ShowsAt : Cells → Place → Type 0
ShowsAt cells p = Shows cells p.row.now

pub write_row-requires : goal.write_row-requires
write_row-requires c =
    record {
      sorted = subst (λ (l : List (Bor (List ℕ))). IsSorted (slice_cmp nat_cmp) (names_shown l)) (sym c.deref.ensures.value) c.in_ok-histograms.ensures.sorted;
      labels = subst HasOrder (sym c.place-item.is) (each-at HasOrder c.args.places.now c.loop-place.place-index c.place-item.result c.requires.labels c.loop-place-test.true);
      begun = shown-known string_bytes c.in_ok-line.line c.as_deref-begun.result (λ b. AllByRecursion (λ p. string_bytes b ≡ line_head p.row.now) c.args.places.now) (λ b. b.now ≡ line_head c.place-item.result.row.now) c.as_deref-begun.ensures.cases
          (λ x y e each. e ∙ subst (λ (p : Place). string_bytes x ≡ line_head p.row.now) (sym c.place-item.is) (each-at (λ p. string_bytes x ≡ line_head p.row.now) c.args.places.now c.loop-place.place-index c.place-item.result each c.loop-place-test.true)) c.in_ok-line.ensures.begun;
      named = shown-known string_bytes c.in_ok-line.line c.as_deref-begun.result (λ b. HaveOneHead (rows_placed c.args.places.now)) (λ b. IfSome c.loop-place.last (λ w. w.now.head.value.name ≡ c.place-item.result.row.now.head.value.name)) c.as_deref-begun.ensures.cases
          (λ x y e one. some-named one.0 c.loop-place.last c.place-item.result.row.now (head-at one.0 c.args.places.now c.loop-place.place-index c.place-item.result c.loop-place-test.true c.place-item.is one.1) (c.loop-place.invariant.head one.0 one.1)) c.in_ok-line.ensures.head;
    }

pub histogram_names-requires-clause-head : goal.histogram_names-requires-clause-head
histogram_names-requires-clause-head c = λ is. (c.requires.alike is).0

pub loop-place-preserved : goal.loop-place-preserved
loop-place-preserved c =
    let shown : Option (Bor ShownRow) → Option Row = option_map (λ w. row_shown w.now) in
    let all = rows_shown (rows_placed c.args.places.now) in
    let last = shown c.loop-place.last in
    let after = shown c.if-branch.last in
    let place = c.place-item.result in
    let row = row_shown place.row.now in
    let n = length c.loop-place.left_out.items in
    let places : List ℕ = c.if-branch.left_out.items in
    let names : names_shown c.deref.result.now ≡ histogram_names all = ap names_shown c.deref.ensures.value ∙ c.in_ok-histograms.ensures.names in
    let left = is_left_out all last row in
    let written = c.in_ok-write_row.ensures.written all names in
    let line = row_lines (Some (reading_shown place.row.now.reading)) all last row in
    let text : string_bytes c.write_row.new.text ≡ string_bytes c.loop-place.text ++ line = c.in_ok-write_row.ensures.ok all names in
    let (then, now, begin) : (after ≡ last_after all last row) × (length places ≡ cond left (n + 1) n) × BeginLeftOut (string_bytes c.loop-place.text ++ line) places =
    elim c.if-branch.branch [
      | then-branch w ↦ (
        ap shown w.last-is ∙ if-true left _ last (Some row) written w.if-branch.true,
        ap (λ (v : Vec ℕ Global). length v.items) w.left_out-is ∙ if-true left _ (n + 1) n written w.if-branch.true,
        places-stay (string_bytes c.loop-place.text) line places (subst (λ (v : Vec ℕ Global). BeginLeftOut (string_bytes c.loop-place.text) v.items) (sym w.left_out-is) c.loop-place.invariant.begin),
      )
      | else-branch+in_ok-push w ↦
          let items = c.loop-place.left_out.items in
          let more : places ≡ items ++ length (string_bytes c.loop-place.text) ∷ [] =
          ap (λ (v : Vec ℕ Global). v.items) w.left_out-is ∙ w.in_ok-push.ensures.items ∙ ap (λ k. items ++ k ∷ []) (c.len-at.ensures ∙ c.loop-place.text.bytes.ok.0) in
          let says = row-says (Some (reading_shown place.row.now.reading)) all last row (sym written ∙ w.if-branch.false) in (
            ap shown w.last-is ∙ if-false left _ last (Some row) written w.if-branch.false,
            ap length more ∙ length-append items _ ∙ if-false left _ (n + 1) n written w.if-branch.false,
            subst (λ l. BeginLeftOut (string_bytes c.loop-place.text ++ line) l) (sym more) (places-more (string_bytes c.loop-place.text) line items says c.loop-place.invariant.begin),
          )
    ] in record {
      text = λ cells shows.
          let has : reading_at cells row ≡ Some (reading_shown place.row.now.reading) = subst (ShowsAt cells) (sym c.place-item.is) (each-at (ShowsAt cells) c.args.places.now c.loop-place.place-index place shows c.loop-place-test.true) in
          let keyed = text ∙ ap (λ o. string_bytes c.loop-place.text ++ row_lines o all last row) (sym has) in
          text-more cells all last after c.args.places.now c.loop-place.place-index place (string_bytes c.loop-place.text) (string_bytes c.write_row.new.text) (rows_text cells all None all) c.loop-place-test.true c.place-item.is keyed then (c.loop-place.invariant.text cells shows);
      left = left-more all last after c.args.places.now c.loop-place.place-index place n (length places) c.loop-place-test.true c.place-item.is now then c.loop-place.invariant.left;
      begin = subst (λ t. BeginLeftOut t places) (sym text) begin;
      head = λ h each. elim c.if-branch.branch [
        | then-branch w ↦ subst (λ (o : Option (Bor ShownRow)). IfSome o (λ r. r.now.head.value ≡ h)) (sym w.last-is) (head-at h c.args.places.now c.loop-place.place-index place c.loop-place-test.true c.place-item.is each)
        | else-branch+in_ok-push w ↦ subst (λ (o : Option (Bor ShownRow)). IfSome o (λ r. r.now.head.value ≡ h)) (sym w.last-is) (c.loop-place.invariant.head h each)
      ];
    }

pub returns-clause-number : goal.returns-clause-number
returns-clause-number c =
    let n = length c.loop-place.left_out.items in
    let last : Option Row = option_map (λ w. row_shown w.now) c.loop-place.last in
    let L : List Place → Type 0 = λ ps. LeftSo (rows_shown (rows_placed c.args.places.now)) last n (rows_shown (rows_placed ps)) in
    let left : L [] = subst L (drop_all c.loop-place.place-index c.args.places.now c.loop-place-test.false) c.loop-place.invariant.left in
    omega (arith, left)
