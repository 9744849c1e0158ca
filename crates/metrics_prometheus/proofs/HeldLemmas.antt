-- Each row is that of a held series.
use Rattle.std.proofs.Common.{◌≡◌, ℕ, ◌<◌, List, [], ◌∷◌, map, length, get_or, Contains, Result, Ok, Err, refl, subst, arith}
use Rattle.std.specs.Prelude.{OnErr}
use Rattle.std.specs.List.{All, AllByRecursion}
use Rattle.std.specs.Str.{IsUtf8}
use Rattle.std.proofs.lemmas.List.{get_or_default}
use Rattle.std.proofs.lemmas.List.Elements.{All-map, All-contains, recursion_from_All}
use Rattle.std.proofs.lemmas.List.Sorted.{All-permutation, IsPermutation-refl}
use Rattle.metrics_names.specs.Names.{LabelParts, SeriesKey}
use Rattle.metrics_exporter.specs.Exporting.{Cells, IsHeld, HoldsSome}
use Rattle.metrics_exporter.specs.Readings.{KeyedReading, series_read, all_read, AreReadings, AreOnce}
use Rattle.metrics_exporter.specs.declared.series.SeriesRef.{SeriesRef}
use Rattle.metrics_exposition.specs.declared.naming.Naming.{Naming}
use Rattle.metrics_descriptions.specs.Legends.{Legend}
use Rattle.metrics_exposition.specs.Naming.{Display}
use Rattle.metrics_prometheus.specs.Exposition.{Row, row_of, AreRows, HoldsTexts, IsScaled}
use Rattle.metrics_prometheus.specs.Rows.{HasTexts}
use Rattle.metrics_prometheus.proofs.OnceLemmas.{unmapped}

pub each-row : {display : Display} (P : Row → Type 0) (cells : Cells) (rows : List Row) → AreRows display cells rows → ((s : SeriesKey) → IsHeld cells s → P (row_of display s)) → AllByRecursion P rows
each-row {display} P cells rows are f =
    recursion_from_All P rows (All-permutation P (map (row_of display) are.keys) rows are.same (All-map P (row_of display) are.keys
    (λ j d small. f (get_or are.keys j d) ((are.held (get_or are.keys j d)).0 (j, small, get_or_default are.keys j (get_or are.keys j d) d small)))))

-- if the labels of all series have texts as values, those of the held series have
pub holds-texts : (cells : Cells) (keyed : List KeyedReading) → AreReadings cells keyed → All HasTexts keyed → HoldsTexts cells
holds-texts cells keyed are texts s held =
    let Q : LabelParts → Type 0 = λ l. IsUtf8 l.1 in
    let P : SeriesKey → Type 0 = λ k. All Q k.key.labels in
    recursion_from_All Q s.key.labels (All-contains P (map (λ t. t.0) keyed) s (All-map P (λ t. t.0) keyed texts) ((are.held s).1 held))

-- the same of what is left of them
pub kept-texts : (cells : Cells) (kept keyed : List KeyedReading) → AreReadings cells kept → AreOnce keyed kept → All HasTexts keyed → HoldsTexts cells
kept-texts cells kept keyed are once texts s held =
    let Q : LabelParts → Type 0 = λ l. IsUtf8 l.1 in
    let r = unmapped (λ (t : KeyedReading). t.0) kept s ((are.held s).1 held) in
    recursion_from_All Q s.key.labels (subst (λ (k : SeriesKey). All Q k.key.labels) r.2 (All-contains HasTexts keyed r.0 texts (once.among r.0 r.1)))

-- one of these series is held
pub some-read : {T E : Type 0} (cells : Cells) (series given : List SeriesRef) (r : Result T E) → given ≡ series → AreReadings cells (all_read series) → OnErr r (0 < length given) → OnErr r (HoldsSome cells)
some-read cells series given (Ok t) same are h = tt
some-read cells series given (Err e) same are h = first series are (subst (λ l. 0 < length l) same h)
  where
    first : (series : List SeriesRef) → AreReadings cells (all_read series) → 0 < length series → HoldsSome cells
    first [] are small = absurd (omega (arith, small))
    first (s ∷ series) are small = ((series_read s).0, (are.held (series_read s).0).0 (0, omega arith, refl))

-- if there are no readings nothing is held, and that is its exposition
pub none-given : {naming : Naming} {legend : Legend} {places : List ℕ → ℕ} (cells : Cells) → AreReadings cells [] → IsScaled naming legend places cells []
none-given cells are = record {
  rows = [];
  all = record { keys = []; once = are.once; held = are.held; same = IsPermutation-refl []; ordered = λ k d first small. absurd (omega (arith, small)) };
  texts = λ s held. absurd (no-place s ((are.held s).1 held));
  is = refl;
}
  where
    no-place : (s : SeriesKey) → Contains [] s → ⊥
    no-place s (k, small, is) = omega (arith, small)

-- a list without elements
pub none-long : {A : Type 0} (xs : List A) → length xs ≡ 0 → xs ≡ []
none-long [] e = refl
none-long (x ∷ xs) e = absurd (omega (arith, e))
