-- A new exporter that reads a state holds the same.
use Rattle.std.proofs.Common.{◌≡◌, ◌∙◌, ℕ, Bool, true, false, cond, List, [], ◌∷◌, ◌++◌, map, Contains, Option, None, Some, IsSome, refl, ap, sym, subst}
use Rattle.std.specs.Prelude.{option_map}
use Rattle.std.specs.List.{AllByRecursion}
use Rattle.std.specs.Map.{lookup}
use Rattle.std.specs.Option.{option_or}
use Rattle.std.proofs.lemmas.Bool.{false≢true}
use Rattle.std.proofs.lemmas.Grind.{flat_map-append}
use Rattle.std.proofs.lemmas.Map.Views.{Contains-from_lookup}
use Rattle.metrics_names.specs.declared.common.Unit.{Unit as Measure}
use Rattle.metrics_names.specs.Names.{KeyParts, SeriesKey, series_key_eq}
use Rattle.metrics_names.specs.Equality.{key_exact, key_same}
use Rattle.metrics_exporter.specs.Exporting.{steps, since_in, Reading, count, level, samples, Cell, Cells, cells_after}
use Rattle.metrics_descriptions.specs.Legends.{Legend, no_legend}
use Rattle.metrics_exporter.specs.Kept.{held_cells, described}
use Rattle.metrics_exporter.specs.Readings.{KeyedReading, AreReadings, reading_in}
use Rattle.metrics_prometheus.proofs.OneTextLemmas.{one-text}
use Rattle.metrics_exposition.proofs.PairLemmas.{each-in}
use Rattle.tool_prometheus.specs.Making.{setup_for}
use Rattle.tool_prometheus.specs.Serving.{Begins}
use Rattle.tool_state.specs.State.{Entry, calls_by, calls_of, legend_of, start_of, ReadingBegins}
use Rattle.tool_state.specs.Runs.{Run}
use Rattle.tool_state.specs.Held.{recorded, BoundsBy, MakeReading, MakeReadings, SameNames, SameTexts, ReadingGivesSame}
use Rattle.tool_state.proofs.EntryLemmas.{legend-append}
use Rattle.tool_state.proofs.TextLemmas.{state-same}
use Rattle.tool_state.proofs.NextLemmas.{moved}
use Rattle.tool_state.proofs.ReplayLemmas.{replayed}

-- ---- what is held of a series is what the list says

not-there : (s : SeriesKey) (rows : List KeyedReading) → lookup (series_key_eq s) rows ≡ None → AllByRecursion (λ k. series_key_eq s k ≡ false) (map (λ t. t.0) rows)
not-there s [] e = tt
not-there s (x ∷ rows) e = go (not-there s rows) (series_key_eq s x.0) refl e
  where
    go : (lookup (series_key_eq s) rows ≡ None → AllByRecursion (λ k. series_key_eq s k ≡ false) (map (λ t. t.0) rows)) → (b : Bool) → series_key_eq s x.0 ≡ b
        → cond b (Some x.1) (lookup (series_key_eq s) rows) ≡ None → (series_key_eq s x.0 ≡ false) × AllByRecursion (λ k. series_key_eq s k ≡ false) (map (λ t. t.0) rows)
    go rest true h e = absurd (let bad : Some x.1 ≡ None = e in cc)
    go rest false h e = (h, rest e)

not-among : (s : SeriesKey) (rows : List KeyedReading) → lookup (series_key_eq s) rows ≡ None → Contains (map (λ t. t.0) rows) s → ⊥
not-among s rows e there = false≢true (sym (each-in (λ k. series_key_eq s k ≡ false) (map (λ t. t.0) rows) s (not-there s rows e) there) ∙ key_same s)

reads : (cells : Cells) (rows : List KeyedReading) → AreReadings cells rows → (s : SeriesKey) → reading_in cells s ≡ lookup (series_key_eq s) rows
reads cells rows are s = go (lookup (series_key_eq s) rows) refl
  where
    unheld : (o : Option Cell) → (IsSome o → ⊥) → option_map (λ (c : Cell). c.reading) o ≡ None
    unheld None never = refl
    unheld (Some c) never = absurd (never refl)

    go : (o : Option Reading) → lookup (series_key_eq s) rows ≡ o → reading_in cells s ≡ o
    go (Some r) e = each-in (λ t. reading_in cells t.0 ≡ Some t.1) rows (s, r) are.readings (Contains-from_lookup key_exact s r rows e)
    go None e = unheld (cells s) (λ some. not-among s rows e ((are.held s).1 some))

-- ---- descriptions

records-tell : (unit : Option Measure) (key : KeyParts) (runs : List Run) (legend : Legend) → legend_of (map (recorded unit key) runs) legend ≡ legend
records-tell unit key [] legend = refl
records-tell unit key (r ∷ runs) legend = records-tell unit key runs legend

one-tells : (bounds : BoundsBy) (k : KeyedReading) (own : List Entry) (legend : Legend) → MakeReading bounds k own → legend_of own legend ≡ legend
one-tells bounds (s, count n) own legend (kind, small, are) = ap (λ l. legend_of l legend) are
one-tells bounds (s, level n) own legend (kind, are) = ap (λ l. legend_of l legend) are
one-tells bounds (s, samples d) own legend (kind, (unit, runs, has, of, are)) = ap (λ l. legend_of l legend) are ∙ records-tell unit s.key runs legend

-- the entries of series describe nothing
none-tells : (bounds : BoundsBy) (keyed : List KeyedReading) (own : List Entry) (legend : Legend) → MakeReadings bounds keyed own → legend_of own legend ≡ legend
none-tells bounds [] own legend are = ap (λ l. legend_of l legend) are
none-tells bounds (k ∷ keyed) own legend (first, others, makes, make, are) =
    ap (λ l. legend_of l legend) are ∙ legend-append first others legend
    ∙ ap (legend_of others) (one-tells bounds k first legend makes) ∙ none-tells bounds keyed others legend make

firsts-each : (a b : Legend) (rows : List KeyedReading) → AllByRecursion (λ k. a k.0.kind k.0.key.name ≡ b k.0.kind k.0.key.name) rows
    → AllByRecursion (λ k. a k.kind k.key.name ≡ b k.kind k.key.name) (map (λ t. t.0) rows)
firsts-each a b [] h = tt
firsts-each a b (r ∷ rows) h = (h.0, firsts-each a b rows h.1)

-- ---- all

all-new : (keyed : List KeyedReading) → AllByRecursion (λ k. since_in [] k.0 ≡ []) keyed
all-new [] = tt
all-new (k ∷ keyed) = (refl, all-new keyed)

or-none : {A : Type 0} (o : Option A) → option_or o None ≡ o
or-none None = refl
or-none (Some a) = refl

pub reading-gives-same : ReadingGivesSame
reading-gives-same setup next log title bytes old fresh new alike after (entries, is, (bounds, keyed, notes, own, made, readings, (silent, tells), make, split)) begins untold (others, was, (does, told)) = (values, names, one)
  where
    same : others ≡ entries
    same = state-same title bytes others entries was is

    calls : calls_of others ≡ calls_of own
    calls = ap calls_of (same ∙ split) ∙ flat_map-append calls_by notes own ∙ ap (λ l. l ++ calls_of own) silent

    at : (unit : Option Measure) (name : List ℕ) → bounds unit name ≡ next.bounds unit name
    at unit name = made setup log after unit name ∙ ap (λ (f : BoundsBy). f unit name) (sym alike)

    values : (s : SeriesKey) → reading_in (held_cells new) s ≡ reading_in (held_cells old) s
    values s =
        ap (option_map (λ (c : Cell). c.reading)) ((does next [] begins).cells s)
        ∙ ap (λ l. reading_in (cells_after next (steps l)) s) calls
        ∙ replayed next bounds keyed own [] at readings.once (all-new keyed) make s
        ∙ or-none (lookup (series_key_eq s) keyed)
        ∙ sym (reads (held_cells old) keyed readings s)

    names : SameNames (held_cells old) new old
    names s held =
        let plain : described fresh ≡ no_legend = λ i k n. untold k n i in
        told s.kind s.key.name
        ∙ ap (λ l. legend_of others l s.kind s.key.name) plain
        ∙ ap (λ l. legend_of l no_legend s.kind s.key.name) (same ∙ split)
        ∙ ap (λ l. l s.kind s.key.name) (legend-append notes own no_legend)
        ∙ ap (λ l. l s.kind s.key.name) (none-tells bounds keyed own (legend_of notes no_legend) make)
        ∙ each-in (λ k. legend_of notes no_legend k.kind k.key.name ≡ described old k.kind k.key.name) (map (λ t. t.0) keyed) s
        (firsts-each (legend_of notes no_legend) (described old) keyed tells) ((readings.held s).1 held)

    one : SameTexts new old
    one naming places x y is-x is-y =
        one-text (held_cells old) x y (moved naming places (described new) (described old) (held_cells new) (held_cells old) x values names is-x) is-y

-- ---- a run

pub reading-begins : ReadingBegins
reading-begins options title bytes entries fresh new (after, untold) is (read, was, (does, told)) =
    let same : read ≡ entries = state-same title bytes read entries was is in
    let plain : described fresh ≡ no_legend = λ i k n. untold k n i in
    let P : List Entry → Type 0 = λ l. Begins options (start_of l) new in
    subst P same (does (setup_for options) [] after, λ kind name. told kind name ∙ ap (λ l. legend_of read l kind name) plain)
