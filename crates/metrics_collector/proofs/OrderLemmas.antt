-- Counters that are absorbed in either order have one text.
use Rattle.std.proofs.Common.{◌≡◌, ◌∙◌, ℕ, Bool, true, false, cond, List, [], ◌∷◌, map, Contains, Option, None, Some, IsSome, option_map, refl, sym, subst}
use Rattle.std.proofs.lemmas.Bool.{false≢true}
use Rattle.std.proofs.lemmas.Map.Views.{Contains-from_lookup}
use Rattle.std.specs.List.{AllByRecursion}
use Rattle.std.specs.Map.{lookup}
use Rattle.metrics_names.specs.Names.{SeriesKey, series_key_eq}
use Rattle.metrics_names.specs.Equality.{key_exact, key_same}
use Rattle.metrics_exporter.specs.Exporting.{Reading, Cell, Cells}
use Rattle.metrics_descriptions.specs.Legends.{Legend}
use Rattle.metrics_exporter.specs.Readings.{KeyedReading, AreReadings, AreOnce, reading_in, cells_of_readings}
use Rattle.metrics_exposition.specs.declared.naming.Naming.{Naming}
use Rattle.metrics_prometheus.specs.Exposition.{IsDescribed}
use Rattle.metrics_exposition.proofs.PairLemmas.{each-in}
use Rattle.metrics_prometheus.proofs.OnceLemmas.{readings-once, readings-keyed}
use Rattle.metrics_prometheus.proofs.OneTextLemmas.{one-text}
use Rattle.metrics_collector.specs.Merging.{reading_of_series, AreJoined, AreCounters, HasEachOnce}
use Rattle.metrics_collector.proofs.MergingLemmas.{either-order}

-- a series that is not found is not among the rows
not-there : (s : SeriesKey) (rows : List KeyedReading) → lookup (series_key_eq s) rows ≡ None → AllByRecursion (λ k. series_key_eq s k ≡ false) (map (λ t. t.0) rows)
not-there s [] e = tt
not-there s (x ∷ rows) e = go (not-there s rows) (series_key_eq s x.0) refl e
  where
    go : (lookup (series_key_eq s) rows ≡ None → AllByRecursion (λ k. series_key_eq s k ≡ false) (map (λ t. t.0) rows)) → (b : Bool) → series_key_eq s x.0 ≡ b
        → cond b (Some x.1) (lookup (series_key_eq s) rows) ≡ None → (series_key_eq s x.0 ≡ false) × AllByRecursion (λ k. series_key_eq s k ≡ false) (map (λ t. t.0) rows)
    go rest true h e = absurd (let bad : Some x.1 ≡ None = e in cc)
    go rest false h e = (h, rest e)

not-among : (s : SeriesKey) (rows : List KeyedReading) → lookup (series_key_eq s) rows ≡ None → Contains (map (λ t. t.0) rows) s → ⊥
not-among s rows e there = false≢true (sym (each-in (λ k. series_key_eq s k ≡ false) (map (λ t. t.0) rows) s (not-there s rows e) there) ∙ key_same s)

-- what is held of a series is what the rows report
reads : (cells : Cells) (rows : List KeyedReading) → AreReadings cells rows → (s : SeriesKey) → reading_in cells s ≡ lookup (series_key_eq s) rows
reads cells rows are s = go (lookup (series_key_eq s) rows) refl
  where
    unheld : (o : Option Cell) → (IsSome o → ⊥) → option_map (λ (c : Cell). c.reading) o ≡ None
    unheld None never = refl
    unheld (Some c) never = absurd (never refl)

    go : (o : Option Reading) → lookup (series_key_eq s) rows ≡ o → reading_in cells s ≡ o
    go (Some r) e = each-in (λ t. reading_in cells t.0 ≡ Some t.1) rows (s, r) are.readings (Contains-from_lookup key_exact s r rows e)
    go None e = unheld (cells s) (λ some. not-among s rows e ((are.held s).1 some))

read-back : (o : Option Reading) → option_map (λ (c : Cell). c.reading) (option_map (λ r. record { reading = r; generation = 0 }) o) ≡ o
read-back None = refl
read-back (Some r) = refl

-- rows without those that come again report the same
same-rows : (keyed kept : List KeyedReading) → HasEachOnce keyed → AreOnce keyed kept → (s : SeriesKey) → reading_of_series s kept ≡ reading_of_series s keyed
same-rows keyed kept each once s =
    let cells : Cells = cells_of_readings keyed in
    sym (reads cells kept (readings-once cells keyed kept (readings-keyed keyed each) once) s) ∙ read-back (lookup (series_key_eq s) keyed)

pub either-text : (naming : Naming) (legend : Legend) (a b ab ba kept other : List KeyedReading) (x y : List ℕ) → AreCounters a → AreCounters b → AreJoined a b ab → AreJoined b a ba
    → HasEachOnce ab → HasEachOnce ba → AreOnce ab kept → AreOnce ba other → IsDescribed naming legend (cells_of_readings kept) x → IsDescribed naming legend (cells_of_readings other) y → x ≡ y
either-text naming legend a b ab ba kept other x y of-a of-b one two each-ab each-ba once-ab once-ba is-x is-y =
    let same : (s : SeriesKey) → reading_of_series s kept ≡ reading_of_series s other =
    λ s. same-rows ab kept each-ab once-ab s ∙ either-order a b ab ba of-a of-b one two s ∙ sym (same-rows ba other each-ba once-ba s) in
    let cells : cells_of_readings kept ≡ cells_of_readings other = λ i s. option_map (λ (r : Reading). record { reading = r; generation = 0 }) (same s i) in
    one-text (cells_of_readings other) x y (subst (λ (c : Cells). IsDescribed naming legend c x) cells is-x) is-y
