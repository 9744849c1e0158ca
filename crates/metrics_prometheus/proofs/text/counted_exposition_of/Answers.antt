use Rattle.std.proofs.Common.{rules, ◌≡◌, ℕ, List, [], None, map, length, arith, string_bytes, sym, subst}
use Rattle.std.specs.List.{AllByRecursion}
use Rattle.std.proofs.lemmas.List.Elements.{All-nil}
use Rattle.metrics_exporter.specs.Exporting.{Cells}
use Rattle.metrics_exporter.specs.Readings.{cells_of_readings, AreReadings, AreOnce}
use Rattle.std.specs.List.Sorted.{IsSorted}
use Rattle.metrics_names.specs.Names.{label_cmp}
use Rattle.metrics_prometheus.specs.Exposition.{row_cmp, rows_text, IsScaled}
use Rattle.metrics_prometheus.specs.declared.row.ShownRow.{ShownRow}
use Rattle.metrics_prometheus.specs.declared.rows.Place.{Place}
use Rattle.metrics_descriptions.specs.Legends.{described_by}
use Rattle.metrics_exposition.specs.Naming.{display_by}
use Rattle.metrics_prometheus.specs.Places.{rows_placed, AreAlike}
use Rattle.metrics_prometheus.specs.LeftOut.{LeavesOut, BeginLeftOut}
use Rattle.metrics_prometheus.specs.Written.{AreLeftOut}
use Rattle.metrics_prometheus.specs.Rows.{rows_shown, pair_shown, pair_of, keyed_shown, Shows}
use Rattle.metrics_prometheus.proofs.HeldLemmas.{holds-texts, kept-texts, none-given, none-long}
use Rattle.metrics_exporter.proofs.SortedLemmas.{none-distinct}
use Rattle.metrics_exposition.proofs.KindLemmas.{kinds-kept}
use Rattle.metrics_prometheus.proofs.OnceLemmas.{readings-once, readings-keyed}
use Rattle.metrics_prometheus.proofs.RowLemmas.{are-rows, rows-show}
use Rattle.metrics_prometheus.proofs.PlaceLemmas.{each-mapped}
use Rattle.metrics_prometheus.proofs.CountLemmas.{none-left, number-of, rows-leave}
use Rattle.metrics_prometheus.proofs.text.counted_exposition_of.Goals as goal

pub rows_text-requires : goal.rows_text-requires
rows_text-requires g c =
    let naming = c.args.naming in
    let legend = described_by c.args.descriptions.now in
    let scale = g.P.DecimalPlaces.places c.args.scale.now in
    let display = display_by naming legend scale in
    let places = c.in_ok-places.places.items in
    let rows = rows_placed places in
    let is = c.in_ok-places.ensures.rows display (map g.S.ReadSeries.keyed c.args.series.now) (subst (λ (l : List ShownRow). map pair_shown l ≡ map (pair_of display) (map g.S.ReadSeries.keyed c.args.series.now)) (sym c.deref.ensures.value) c.in_ok-rows.ensures.rows) in
    let O : List Place → Type 0 = λ ps. IsSorted row_cmp (rows_shown (rows_placed ps)) in
    let L : List Place → Type 0 = λ ps. AllByRecursion (λ p. IsSorted label_cmp p.row.now.labels) ps in
    record {
      sorted = subst O (sym c.deref-2.ensures.value) is.ordered;
      labels = subst L (sym c.deref-2.ensures.value) (each-mapped (λ p. p.row.now) (λ r. IsSorted label_cmp r.labels) places is.labels);
      alike = λ alike. subst (λ (ps : List Place). AreAlike (rows_placed ps)) (sym c.deref-2.ensures.value) (c.in_ok-places.ensures.alike alike);
    }

pub invariant_of-result-2 : goal.invariant_of-result-2
invariant_of-result-2 g c =
    let naming = c.args.naming in
    let legend = described_by c.args.descriptions.now in
    let scale = g.P.DecimalPlaces.places c.args.scale.now in
    let display = display_by naming legend scale in
    let all = map g.S.ReadSeries.keyed c.args.series.now in
    let places = c.in_ok-places.places.items in
    let rows = rows_placed places in
    let is = c.in_ok-places.ensures.rows display all (subst (λ (l : List ShownRow). map pair_shown l ≡ map (pair_of display) all) (sym c.deref.ensures.value) c.in_ok-rows.ensures.rows) in
    let Q : List Place → Type 0 = λ ps. (cells : Cells) → AllByRecursion (λ p. Shows cells p.row.now) ps → string_bytes c.in_ok-text.text ≡ rows_text cells (rows_shown (rows_placed ps)) None (rows_shown (rows_placed ps)) in
    let shows = subst Q c.deref-2.ensures.value c.in_ok-text.ensures.ok in
    let keyed = map keyed_shown rows in
    let cells = cells_of_readings keyed in
    let kept : AreReadings cells keyed = readings-keyed keyed is.once.once in
    let scaled : IsScaled naming legend scale cells (string_bytes c.in_ok-text.text) = record {
      rows = rows_shown rows;
      all = are-rows display cells rows kept is.own is.ordered;
      texts = kept-texts cells keyed all kept is.once c.in_ok-rows.ensures.texts;
      is = shows cells (each-mapped (λ p. p.row.now) (Shows cells) places (rows-show display cells rows kept is.own));
    } in
    let text = string_bytes c.in_ok-text.text in
    let n = length c.in_ok-text.left_out.items in
    let left = subst (λ (ps : List Place). AreLeftOut (rows_shown (rows_placed ps)) n) c.deref-2.ensures.value c.in_ok-text.ensures.number in
    let whole = rows-leave cells text scaled n left in
    record { number = number-of text n whole; whole = whole; places = c.in_ok-text.ensures.places }

pub returns-clause-ok : goal.returns-clause-ok
returns-clause-ok g c = λ cells are.
    let naming = c.args.naming in
    let legend = described_by c.args.descriptions.now in
    let scale = g.P.DecimalPlaces.places c.args.scale.now in
    let display = display_by naming legend scale in
    let all = map g.S.ReadSeries.keyed c.args.series.now in
    let places = c.in_ok-places.places.items in
    let rows = rows_placed places in
    let is = c.in_ok-places.ensures.rows display all (subst (λ (l : List ShownRow). map pair_shown l ≡ map (pair_of display) all) (sym c.deref.ensures.value) c.in_ok-rows.ensures.rows) in
    let Q : List Place → Type 0 = λ ps. (cells : Cells) → AllByRecursion (λ p. Shows cells p.row.now) ps → string_bytes c.in_ok-text.text ≡ rows_text cells (rows_shown (rows_placed ps)) None (rows_shown (rows_placed ps)) in
    let shows = subst Q c.deref-2.ensures.value c.in_ok-text.ensures.ok in
    let kept = readings-once cells all (map keyed_shown rows) are is.once in
    record {
      rows = rows_shown rows;
      all = are-rows display cells rows kept is.own is.ordered;
      texts = holds-texts cells all are c.in_ok-rows.ensures.texts;
      is = shows cells (each-mapped (λ p. p.row.now) (Shows cells) places (rows-show display cells rows kept is.own));
    }

pub returns-clause-each : goal.returns-clause-each
returns-clause-each g c =
    let naming = c.args.naming in
    let legend = described_by c.args.descriptions.now in
    let scale = g.P.DecimalPlaces.places c.args.scale.now in
    let display = display_by naming legend scale in
    let all = map g.S.ReadSeries.keyed c.args.series.now in
    let places = c.in_ok-places.places.items in
    let rows = rows_placed places in
    let is = c.in_ok-places.ensures.rows display all (subst (λ (l : List ShownRow). map pair_shown l ≡ map (pair_of display) all) (sym c.deref.ensures.value) c.in_ok-rows.ensures.rows) in
    let Q : List Place → Type 0 = λ ps. (cells : Cells) → AllByRecursion (λ p. Shows cells p.row.now) ps → string_bytes c.in_ok-text.text ≡ rows_text cells (rows_shown (rows_placed ps)) None (rows_shown (rows_placed ps)) in
    let shows = subst Q c.deref-2.ensures.value c.in_ok-text.ensures.ok in
    let keyed = map keyed_shown rows in
    let cells = cells_of_readings keyed in
    let kept : AreReadings cells keyed = readings-keyed keyed is.once.once in
    let scaled : IsScaled naming legend scale cells (string_bytes c.in_ok-text.text) = record {
      rows = rows_shown rows;
      all = are-rows display cells rows kept is.own is.ordered;
      texts = kept-texts cells keyed all kept is.once c.in_ok-rows.ensures.texts;
      is = shows cells (each-mapped (λ p. p.row.now) (Shows cells) places (rows-show display cells rows kept is.own));
    } in
    (keyed, is.once, kinds-kept all keyed c.in_ok-rows.ensures.kinds is.once, scaled)

pub invariant_of-result : goal.invariant_of-result
invariant_of-result g c =
    let text = string_bytes c.new.result in
    let none : List ℕ = c.new-then-is_empty.result.items in
    let whole = subst (λ (l : List ℕ). LeavesOut text (length l)) (sym c.new-then-is_empty.ensures.items) (subst (λ t. LeavesOut t 0) (sym c.new.ensures.bytes) none-left) in
    record { number = number-of text (length none) whole; whole = whole; places = subst (λ (l : List ℕ). BeginLeftOut text l) (sym c.new-then-is_empty.ensures.items) (All-nil _) }

pub returns-then-is_empty-clause-ok : goal.returns-then-is_empty-clause-ok
returns-then-is_empty-clause-ok g c = λ cells are.
    let zero : length c.args.series.now ≡ 0 = search (rules, arith) in
    let none : c.args.series.now ≡ [] = none-long c.args.series.now zero in
    subst (IsScaled c.args.naming (described_by c.args.descriptions.now) (g.P.DecimalPlaces.places c.args.scale.now) cells) (sym c.new.ensures.bytes) (none-given cells (subst (λ (l : List g.row.S.Denot). AreReadings cells (map g.S.ReadSeries.keyed l)) none are))

pub returns-then-is_empty-clause-each : goal.returns-then-is_empty-clause-each
returns-then-is_empty-clause-each g c =
    let zero : length c.args.series.now ≡ 0 = search (rules, arith) in
    let none : c.args.series.now ≡ [] = none-long c.args.series.now zero in
    let once : AreOnce (map g.S.ReadSeries.keyed c.args.series.now) [] = subst (λ (l : List g.row.S.Denot). AreOnce (map g.S.ReadSeries.keyed l) []) (sym none) (record { once = none-distinct; among = λ t h. h; all = λ s h. h }) in
    ([], once, (λ s. tt), subst (IsScaled c.args.naming (described_by c.args.descriptions.now) (g.P.DecimalPlaces.places c.args.scale.now) (cells_of_readings [])) (sym c.new.ensures.bytes) (none-given (cells_of_readings []) (readings-keyed [] none-distinct)))
