-- What is shown is of the kinds of its series.
use Rattle.std.proofs.Common.{◌≡◌, ℕ, ℤ, List, [], ◌∷◌, map, Option, None, Some, option_map, refl, sym, subst}
use Rattle.std.proofs.lemmas.List.Elements.{All-contains, recursion_from_All}
use Rattle.std.proofs.lemmas.Map.Views.{Contains-from_lookup}
use Rattle.std.specs.Int.{w64}
use Rattle.std.specs.Int.RustNames.{FitsSigned}
use Rattle.std.specs.List.{All, AllByRecursion}
use Rattle.std.specs.Map.{lookup}
use Rattle.metrics_names.specs.Equality.{key_exact}
use Rattle.metrics_names.specs.Names.{SeriesKey, series_key_eq}
use Rattle.metrics_exporter.specs.Exporting.{Reading, Cell}
use Rattle.metrics_exporter.specs.Readings.{KeyedReading, AreOnce, cells_of_readings}
use Rattle.metrics_storage.specs.Histogram.{Distribution, bounds_of}
use Rattle.metrics_exposition.specs.Reading.{IsSmall, ReadsAs, IsOfKind, AreOfKinds}

small : (bs : List (ℤ × ℕ)) → AllByRecursion (FitsSigned w64) (map (λ b. b.0) bs) → AllByRecursion IsSmall bs
small [] h = tt
small (b ∷ bs) h = (h.0.sfits, small bs h.1)

-- the buckets of a histogram whose bounds are numbers of 64 bits
pub small-buckets : (d : Distribution) → All (FitsSigned w64) (bounds_of d) → AllByRecursion IsSmall d.buckets
small-buckets d h = small d.buckets (recursion_from_All (FitsSigned w64) (bounds_of d) h)

read-back : (o : Option Reading) → option_map (λ (c : Cell). c.reading) (option_map (λ r. record { reading = r; generation = 0 }) o) ≡ o
read-back None = refl
read-back (Some r) = refl

found : (s : SeriesKey) (keyed kept : List KeyedReading) → All IsOfKind keyed → AreOnce keyed kept
    → (o : Option Reading) → lookup (series_key_eq s) kept ≡ o → ReadsAs s.kind o
found s keyed kept all once None e = tt
found s keyed kept all once (Some r) e = All-contains IsOfKind keyed (s, r) all (once.among (s, r) (Contains-from_lookup key_exact s r kept e))

pub kinds-kept : (keyed kept : List KeyedReading) → All IsOfKind keyed → AreOnce keyed kept → AreOfKinds (cells_of_readings kept)
kinds-kept keyed kept all once s =
    let o : Option Reading = lookup (series_key_eq s) kept in
    subst (ReadsAs s.kind) (sym (read-back o)) (found s keyed kept all once o refl)
