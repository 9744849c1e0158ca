-- The number of the entries of all kinds.
use Rattle.std.proofs.Common.{◌≡◌, ℕ, ◌+◌, ◌-◌, ◌^◌, ◌<◌, ◌≤◌, List, ◌++◌, map, take, length, get_or, min, ap, sym, ◌∙◌, arith}
use Rattle.std.specs.Prelude.{ℤ}
use Rattle.std.specs.List.{IsDistinct}
use Rattle.std.specs.Map.{keys_of}
use Rattle.std.proofs.lemmas.List.{length-append}
use Rattle.metrics_names.specs.declared.kind.MetricKind.TheVariants.{Counter, Gauge, Histogram}
use Rattle.metrics_names.specs.Names.{KeyParts, key_eq}
use Rattle.metrics_storage.specs.Histogram.{Distribution}
use Rattle.metrics_registry.specs.declared.generation.Counted.{Counted}
use Rattle.metrics_registry.specs.Held.{entries_of}
use Rattle.metrics_registry.proofs.ShardLemmas.{map-length, entries-here, entries-all}
use Rattle.metrics_exporter.specs.Exporting.{IsHeldNumber}
use Rattle.metrics_exporter.specs.Gathering.{series_at, series_in}
use Rattle.metrics_exporter.specs.Kept.{SeriesRegistry, cells_of}
use Rattle.metrics_exporter.proofs.SortedLemmas.{held-by-all}

module _ {A K B C D : Type 0} (shards : List A) (p : A → List (K × B)) (q : A → List (K × C)) (r : A → List (K × D)) where
  -- the entries of the first shards
  abbrev pub so_far : ℕ → ℕ
  so_far i = length (entries_of (take i (map p shards))) + (length (entries_of (take i (map q shards))) + length (entries_of (take i (map r shards))))

  -- one more shard
  pub number-more : (i : ℕ) (shard : A) (n n' : ℕ) → i < length shards → shard ≡ get_or shards i shard → n ≡ min (so_far i) (2 ^ 64 - 1)
      → n' ≡ min (min (min (n + length (p shard)) (2 ^ 64 - 1) + length (q shard)) (2 ^ 64 - 1) + length (r shard)) (2 ^ 64 - 1) → n' ≡ min (so_far (i + 1)) (2 ^ 64 - 1)
  number-more i shard n n' small at was now =
      let a : length (entries_of (take (i + 1) (map p shards))) ≡ length (entries_of (take i (map p shards))) + length (p shard) = ap length (entries-here shards p i shard small at) ∙ length-append (entries_of (take i (map p shards))) (p shard) in
      let b : length (entries_of (take (i + 1) (map q shards))) ≡ length (entries_of (take i (map q shards))) + length (q shard) = ap length (entries-here shards q i shard small at) ∙ length-append (entries_of (take i (map q shards))) (q shard) in
      let c : length (entries_of (take (i + 1) (map r shards))) ≡ length (entries_of (take i (map r shards))) + length (r shard) = ap length (entries-here shards r i shard small at) ∙ length-append (entries_of (take i (map r shards))) (r shard) in
      omega (arith, was, now, a, b, c)

-- all shards
pub number-all : {A : Type 0} (registry : SeriesRegistry) (shards : List A) (p : A → List (KeyParts × Counted ℕ)) (q : A → List (KeyParts × Counted ℤ)) (r : A → List (KeyParts × Counted Distribution)) (i n : ℕ)
    → length shards ≤ i → entries_of (map p shards) ≡ registry.counters → entries_of (map q shards) ≡ registry.gauges → entries_of (map r shards) ≡ registry.histograms
    → IsDistinct key_eq (keys_of registry.counters) → IsDistinct key_eq (keys_of registry.gauges) → IsDistinct key_eq (keys_of registry.histograms)
    → n ≡ min (so_far shards p q r i) (2 ^ 64 - 1) → (held : ℕ) × IsHeldNumber (cells_of registry) held × (n ≡ min held (2 ^ 64 - 1))
number-all registry shards p q r i n end ce ge he cd gd hd is =
    let cs = series_in Counter registry.counters in
    let gs = series_in Gauge registry.gauges in
    let hs = series_in Histogram registry.histograms in
    let a : length (entries_of (take i (map p shards))) ≡ length cs = ap length (entries-all shards p i end ∙ ce) ∙ sym (map-length (λ e. series_at Counter e.0) registry.counters) in
    let b : length (entries_of (take i (map q shards))) ≡ length gs = ap length (entries-all shards q i end ∙ ge) ∙ sym (map-length (λ e. series_at Gauge e.0) registry.gauges) in
    let c : length (entries_of (take i (map r shards))) ≡ length hs = ap length (entries-all shards r i end ∙ he) ∙ sym (map-length (λ e. series_at Histogram e.0) registry.histograms) in
    let all : length ((cs ++ gs) ++ hs) ≡ length cs + (length gs + length hs) = omega (arith, length-append (cs ++ gs) hs, length-append cs gs) in
    (length ((cs ++ gs) ++ hs), held-by-all registry cd gd hd, omega (arith, is, a, b, c, all))
