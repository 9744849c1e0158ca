-- Entries of three kinds, gathered shard by shard.
use Rattle.std.proofs.Common.{◌≡◌, ℕ, ◌+◌, ◌<◌, List, [], ◌∷◌, ◌++◌, map, take, length, get_or, ap, sym, ◌∙◌, subst, append_assoc, append-nil}
use Rattle.std.specs.List.{flat_map}
use Rattle.std.specs.List.Sorted.{IsPermutation}
use Rattle.std.proofs.lemmas.List.{map-append, take_more}
use Rattle.std.proofs.lemmas.List.Sorted.{IsPermutation-refl, IsPermutation-trans, IsPermutation-append_left, IsPermutation-append_right, IsPermutation-append_comm}
use Rattle.std.proofs.lemmas.Grind.{flat_map-append}
use Rattle.metrics_names.specs.declared.kind.MetricKind.TheVariants.{Counter, Gauge, Histogram}
use Rattle.metrics_registry.specs.Held.{entries_of}
use Rattle.metrics_exporter.specs.Exporting.{count, level, samples}
use Rattle.metrics_exporter.specs.Gathering.{seen_in, Shard, shard_seen, walk_of}

module _ {Y : Type 0} where
  two : (a b c d : List Y) → IsPermutation ((a ++ b) ++ (c ++ d)) ((a ++ c) ++ (b ++ d))
  two a b c d =
      let moved : IsPermutation (a ++ ((b ++ c) ++ d)) (a ++ ((c ++ b) ++ d)) = IsPermutation-append_right a _ _ (IsPermutation-append_left d _ _ (IsPermutation-append_comm b c)) in
      let apart : (x y : List Y) → (a ++ x) ++ (y ++ d) ≡ a ++ ((x ++ y) ++ d) = λ x y. append_assoc a x (y ++ d) ∙ ap (λ l. a ++ l) (sym (append_assoc x y d)) in
      let P : List Y → List Y → Type 0 = λ l m. IsPermutation l m in
      subst (λ l. P l ((a ++ c) ++ (b ++ d))) (sym (apart b c)) (subst (P (a ++ ((b ++ c) ++ d))) (sym (apart c b)) moved)

  three : (a b c x y z : List Y) → IsPermutation (((a ++ b) ++ c) ++ ((x ++ y) ++ z)) (((a ++ x) ++ (b ++ y)) ++ (c ++ z))
  three a b c x y z = IsPermutation-trans _ _ _ (two (a ++ b) c (x ++ y) z) (IsPermutation-append_left (c ++ z) _ _ (two a b x y))

module _ {S K B C D Y : Type 0} (p : S → List (K × B)) (q : S → List (K × C)) (r : S → List (K × D)) (f : K × B → Y) (g : K × C → Y) (h : K × D → Y) where
  abbrev of_shard : S → List Y
  of_shard s = map f (p s) ++ map g (q s) ++ map h (r s)

  abbrev of_kinds : List S → List Y
  of_kinds shards = map f (entries_of (map p shards)) ++ map g (entries_of (map q shards)) ++ map h (entries_of (map r shards))

  moved : (shards : List S) → IsPermutation (flat_map of_shard shards) (of_kinds shards)
  moved [] = IsPermutation-refl []
  moved (s ∷ shards) =
      let P : List Y → Type 0 = IsPermutation (of_shard s ++ flat_map of_shard shards) in
      let es = entries_of (map p shards) in
      let fs = entries_of (map q shards) in
      let gs = entries_of (map r shards) in
      subst P (λ i. (sym (map-append f (p s) es) i ++ sym (map-append g (q s) fs) i) ++ sym (map-append h (r s) gs) i)
      (IsPermutation-trans _ _ _ (IsPermutation-append_right (of_shard s) _ _ (moved shards)) (three (map f (p s)) (map g (q s)) (map h (r s)) (map f es) (map g fs) (map h gs)))

  -- all shards
  pub walk-all : (shards : List S) (es : List (K × B)) (fs : List (K × C)) (gs : List (K × D)) → entries_of (map p shards) ≡ es → entries_of (map q shards) ≡ fs → entries_of (map r shards) ≡ gs
      → IsPermutation (flat_map of_shard shards) (map f es ++ map g fs ++ map h gs)
  walk-all shards es fs gs e1 e2 e3 =
      let P : List Y → Type 0 = IsPermutation (flat_map of_shard shards) in
      subst P (λ j. (map f (e1 j) ++ map g (e2 j)) ++ map h (e3 j)) (moved shards)

-- one more shard
pub walk-next : (shards : List Shard) (i : ℕ) (s : Shard) → i < length shards → s ≡ get_or shards i s
    → walk_of (take i shards) ++ seen_in Counter count s.counters ++ seen_in Gauge level s.gauges ++ seen_in Histogram samples s.histograms ≡ walk_of (take (i + 1) shards)
walk-next shards i s small at =
    let cs = seen_in Counter count s.counters in
    let gs = seen_in Gauge level s.gauges in
    let hs = seen_in Histogram samples s.histograms in
    let before = walk_of (take i shards) in
    ap (λ l. l ++ hs) (append_assoc before cs gs) ∙ append_assoc before (cs ++ gs) hs
    ∙ sym (ap walk_of (take_more shards i s small) ∙ flat_map-append shard_seen (take i shards) (get_or shards i s ∷ [])
    ∙ ap (λ l. before ++ l) (append-nil (shard_seen (get_or shards i s)) ∙ ap shard_seen (sym at)))
