-- The series about the program itself, beside those that are held.
use Rattle.std.proofs.Common.{◌≡◌, ◌∙◌, ℕ, ◌^◌, ◌-◌, min, pos, Bool, true, false, not, cond, ◌||◌, List, [], ◌∷◌, ◌++◌, map, codes, Option, Some, Result, Ok, Err, IfOk, refl, ap, sym, subst, arith, inl, inr}
use Rattle.std.specs.Prelude.{Contains, option_map}
use Rattle.std.specs.List.{filter, list_any, IsDistinct, AllByRecursion}
use Rattle.std.specs.Set.{is_member}
use Rattle.std.proofs.lemmas.Bool.{false≢true}
use Rattle.std.proofs.lemmas.Bool.Decides.{Decides-like, same_from_decides}
use Rattle.std.proofs.lemmas.List.{map-append}
use Rattle.std.proofs.lemmas.List.Elements.{Contains-append_left, Contains-push, Contains-push_cases}
use Rattle.std.proofs.lemmas.Map.Keys.{IsDistinct-push}
use Rattle.std.proofs.lemmas.Map.Made.{IsDistinct-keys_filter, is_member-Decides, length-from_same_keys}
use Rattle.metrics_names.specs.declared.kind.MetricKind.TheVariants.{Gauge}
use Rattle.metrics_names.specs.Names.{SeriesKey, series_key_eq}
use Rattle.metrics_names.specs.Equality.{series_key_eq-Decides, key_exact, key_same}
use Rattle.metrics_exporter.specs.Exporting.{Reading, Cell, Cells, IsHeld, IsHeldNumber, level}
use Rattle.metrics_exporter.specs.Gathering.{series_at}
use Rattle.metrics_descriptions.specs.Legends.{Legend}
use Rattle.metrics_exporter.specs.Readings.{KeyedReading, AreReadings, reading_in, keyed_reading, keyed_readings}
use Rattle.metrics_exporter.specs.declared.readings.SeriesReading.{SeriesReading}
use Rattle.metrics_exporter.proofs.SortedLemmas.{flips, key_laws}
use Rattle.metrics_exposition.specs.declared.naming.Naming.{Naming}
use Rattle.metrics_prometheus.specs.Exposition.{IsScaled}
use Rattle.metrics_prometheus.specs.LeftOut.{left_out_number}
use Rattle.tool_prometheus.specs.Own.{Own, own_key, own_counter, own_gauge, own_moment, own_series, own_places, with_series, with_own, IsExposedOwn, IsShown}

-- ---- the number of the series that are held

pub held-one : (cells : Cells) (n m : ℕ) → IsHeldNumber cells n → IsHeldNumber cells m → n ≡ m
held-one cells n m h g =
    h.number
    ∙ length-from_same_keys key_laws h.keys g.keys h.once g.once
    (λ q. same_from_decides (is_member series_key_eq h.keys q) (is_member series_key_eq g.keys q)
    (Decides-like _ (λ has. (g.held q).1 ((h.held q).0 has)) (λ has. (h.held q).1 ((g.held q).0 has))
    (is_member-Decides series_key_eq-Decides h.keys q)) (is_member-Decides series_key_eq-Decides g.keys q))
    ∙ sym g.number

-- the number of a gauge is that of a number of 64 bits, or greater
pub capped : (own : Own) (held left_out : ℕ) → own_series own (min held (2 ^ 64 - 1)) left_out ≡ own_series own held left_out
capped own held left_out =
    let same : min (min held (2 ^ 64 - 1)) (2 ^ 63 - 1) ≡ min held (2 ^ 63 - 1) = omega arith in
    λ i.
    own_counter own (codes "metrics_prometheus_tool_lines_total") own.counts.lines
    ∷ own_counter own (codes "metrics_prometheus_tool_bad_lines_total") own.counts.bad
    ∷ own_counter own (codes "metrics_prometheus_tool_refused_calls_total") own.counts.refused
    ∷ (series_at Gauge (own_key own.labels (codes "metrics_prometheus_tool_series")), level (pos (same i)))
    ∷ own_gauge own (codes "metrics_prometheus_tool_left_out_series") left_out
    ∷ own_moment own own.last

-- ---- a series with this reading

-- what is read of the other series
abbrev pub others : KeyedReading → List KeyedReading → List KeyedReading
others t keyed = filter (λ u. not (series_key_eq t.0 u.0)) keyed

abbrev firsts : List KeyedReading → List SeriesKey
firsts keyed = map (λ u. u.0) keyed

module _ (t : KeyedReading) where
  -- the series is none of the others
  absent : (xs : List KeyedReading) → list_any (series_key_eq t.0) (firsts (others t xs)) ≡ false
  absent [] = refl
  absent (x ∷ xs) = by (series_key_eq t.0 x.0) refl (absent xs)
    where
      by : (b : Bool) → series_key_eq t.0 x.0 ≡ b → list_any (series_key_eq t.0) (firsts (others t xs)) ≡ false
          → list_any (series_key_eq t.0) (firsts (cond (not b) (x ∷ others t xs) (others t xs))) ≡ false
      by true e rest = rest
      by false e rest = ap (λ b. b || list_any (series_key_eq t.0) (firsts (others t xs))) e ∙ rest

  -- each of the others is among them
  stays : (s : SeriesKey) → series_key_eq t.0 s ≡ false → (xs : List KeyedReading)
      → is_member series_key_eq (firsts (others t xs)) s ≡ is_member series_key_eq (firsts xs) s
  stays s other [] = refl
  stays s other (x ∷ xs) = by (series_key_eq t.0 x.0) refl (stays s other xs)
    where
      by : (b : Bool) → series_key_eq t.0 x.0 ≡ b
          → is_member series_key_eq (firsts (others t xs)) s ≡ is_member series_key_eq (firsts xs) s
          → is_member series_key_eq (firsts (cond (not b) (x ∷ others t xs) (others t xs))) s
          ≡ is_member series_key_eq (x.0 ∷ firsts xs) s
      by true e rest =
          let apart : series_key_eq s x.0 ≡ false = sym (ap (series_key_eq s) (key_exact t.0 x.0 e)) ∙ flips s t.0 ∙ other in
          rest ∙ sym (ap (λ b. b || is_member series_key_eq (firsts xs) s) apart)
      by false e rest = ap (λ b. series_key_eq s x.0 || b) rest

  module _ (cells : Cells) where
    abbrev IsRead : Cells → KeyedReading → Type 0
    IsRead at u = reading_in at u.0 ≡ Some u.1

    abbrev chosen : Bool → SeriesKey → Option Reading
    chosen b s = option_map (λ (c : Cell). c.reading) (cond b (Some (record { reading = t.1; generation = 0 })) (cells s))

    reads : (xs : List KeyedReading) → AllByRecursion (IsRead cells) xs → AllByRecursion (IsRead (with_series t cells)) (others t xs ++ t ∷ [])
    reads [] h = (ap (λ b. chosen b t.0) (key_same t.0), tt)
    reads (x ∷ xs) h = by (series_key_eq t.0 x.0) refl (reads xs h.1)
      where
        by : (b : Bool) → series_key_eq t.0 x.0 ≡ b → AllByRecursion (IsRead (with_series t cells)) (others t xs ++ t ∷ [])
            → AllByRecursion (IsRead (with_series t cells)) (cond (not b) (x ∷ others t xs) (others t xs) ++ t ∷ [])
        by true e rest = rest
        by false e rest = (ap (λ b. chosen b x.0) e ∙ h.0, rest)

    module _ (keyed : List KeyedReading) (are : AreReadings cells keyed) where
      abbrev kept : List SeriesKey
      kept = firsts (others t keyed)

      from-kept : (s : SeriesKey) → series_key_eq t.0 s ≡ false → Contains kept s → Contains (firsts keyed) s
      from-kept s other has =
          (is_member-Decides series_key_eq-Decides (firsts keyed) s).0
          (sym (stays s other keyed) ∙ (is_member-Decides series_key_eq-Decides kept s).1 has)

      to-kept : (s : SeriesKey) → series_key_eq t.0 s ≡ false → Contains (firsts keyed) s → Contains kept s
      to-kept s other has =
          (is_member-Decides series_key_eq-Decides kept s).0
          (stays s other keyed ∙ (is_member-Decides series_key_eq-Decides (firsts keyed) s).1 has)

      abbrev HeldIf : Bool → SeriesKey → Type 0
      HeldIf b s = IsHeld (λ s. cond b (Some (record { reading = t.1; generation = 0 })) (cells s)) s

      into : (s : SeriesKey) (b : Bool) → series_key_eq t.0 s ≡ b → Contains (kept ++ t.0 ∷ []) s → HeldIf b s
      into s true e has = refl
      into s false e has = elim (Contains-push_cases kept t.0 s has) [
        | inl there ↦ (are.held s).0 (from-kept s e there)
        | inr is ↦ absurd (false≢true (sym e ∙ sym (ap (series_key_eq t.0) is) ∙ key_same t.0))
      ]

      out-of : (s : SeriesKey) (b : Bool) → series_key_eq t.0 s ≡ b → HeldIf b s → Contains (kept ++ t.0 ∷ []) s
      out-of s true e held = subst (Contains (kept ++ t.0 ∷ [])) (key_exact t.0 s e) (Contains-push kept t.0)
      out-of s false e held = Contains-append_left kept (t.0 ∷ []) s (to-kept s e ((are.held s).1 held))

      -- the series has this reading, and the others theirs
      pub set-reading : AreReadings (with_series t cells) (others t keyed ++ t ∷ [])
      set-reading =
          let f : KeyedReading → SeriesKey = λ u. u.0 in
          let keys : firsts (others t keyed ++ t ∷ []) ≡ kept ++ t.0 ∷ [] = map-append f (others t keyed) (t ∷ []) in
          record {
            once = subst (IsDistinct series_key_eq) (sym keys)
                (IsDistinct-push key_laws kept t.0 (IsDistinct-keys_filter series_key_eq (λ u. not (series_key_eq t.0 u.0)) keyed are.once) (absent keyed));
            held = λ s. (
              λ has. into s (series_key_eq t.0 s) refl (subst (λ ks. Contains ks s) keys has),
              λ held. subst (λ ks. Contains ks s) (sym keys) (out-of s (series_key_eq t.0 s) refl held),
            );
            readings = reads keyed are.readings;
          }

-- the rows that `retain` keeps
pub kept-rows : (t : KeyedReading) (rows : List SeriesReading)
    → keyed_readings (filter (λ r. not (series_key_eq t.0 (keyed_reading r).0)) rows) ≡ others t (keyed_readings rows)
kept-rows t [] = refl
kept-rows t (r ∷ rows) = by (series_key_eq t.0 (keyed_reading r).0) (kept-rows t rows)
  where
    by : (b : Bool) → keyed_readings (filter (λ r. not (series_key_eq t.0 (keyed_reading r).0)) rows) ≡ others t (keyed_readings rows)
        → keyed_readings (cond (not b) (r ∷ filter (λ r. not (series_key_eq t.0 (keyed_reading r).0)) rows) (filter (λ r. not (series_key_eq t.0 (keyed_reading r).0)) rows))
        ≡ cond (not b) (keyed_reading r ∷ others t (keyed_readings rows)) (others t (keyed_readings rows))
    by true rest = rest
    by false rest = ap (λ l. keyed_reading r ∷ l) rest

-- ---- rows one after another

joined : (r : List KeyedReading) (a b c d e : KeyedReading) (m : List KeyedReading)
    → (((((r ++ a ∷ []) ++ b ∷ []) ++ c ∷ []) ++ d ∷ []) ++ e ∷ []) ++ m ≡ r ++ (a ∷ b ∷ c ∷ d ∷ e ∷ m)
joined [] a b c d e m = refl
joined (x ∷ r) a b c d e m = ap (λ l. x ∷ l) (joined r a b c d e m)

-- five rows, and those after them
pub five-then : (r s t u v w : List KeyedReading) (a b c d e : KeyedReading) → s ≡ r ++ a ∷ [] → t ≡ s ++ b ∷ [] → u ≡ t ++ c ∷ []
    → v ≡ u ++ d ∷ [] → w ≡ v ++ e ∷ [] → (m : List KeyedReading) → w ++ m ≡ r ++ (a ∷ b ∷ c ∷ d ∷ e ∷ m)
five-then r s t u v w a b c d e p q x y z m =
    ap (λ l. l ++ m) (z ∙ ap (λ l. l ++ e ∷ []) (y ∙ ap (λ l. l ++ d ∷ []) (x ∙ ap (λ l. l ++ c ∷ []) (q ∙ ap (λ l. l ++ b ∷ []) p))))
    ∙ joined r a b c d e m

-- ---- the text

-- cells have one exposition
abbrev pub OneExposition : Type 0
OneExposition = (naming : Naming) (legend : Legend) (places : List ℕ → ℕ) (cells : Cells) (a b : List ℕ)
    → IsScaled naming legend places cells a → IsScaled naming legend places cells b → a ≡ b

-- and one with the program's own series
pub shown-same : OneExposition → (tells : Bool) (own : Own) (naming : Naming) (legend : Legend) (places : List ℕ → ℕ) (cells : Cells)
    (a b : List ℕ) → IsShown tells own naming legend places cells a → IsShown tells own naming legend places cells b → a ≡ b
shown-same one false own naming legend places cells a b is was = one naming legend places cells a b is was
shown-same one true own naming legend places cells a b (held, number, first, before, is) (others, numbers, begun, ahead, was) =
    let same : held ≡ others = held-one cells held others number numbers in
    let firsts_same : first ≡ begun =
    one naming legend (own_places places) (with_own (own_series own others 0) cells) first begun
    (subst (λ n. IsScaled naming legend (own_places places) (with_own (own_series own n 0) cells) first) same before) ahead in
    one naming legend (own_places places) (with_own (own_series own others (left_out_number begun)) cells) a b
    (subst (λ t. IsScaled naming legend (own_places places) (with_own (own_series own others (left_out_number t)) cells) a) firsts_same
    (subst (λ n. IsScaled naming legend (own_places places) (with_own (own_series own n (left_out_number first)) cells) a) same is)) was

-- what follows of what was returned
pub if-ok : {A E : Type 0} (r : Result A E) {P Q : A → Type 0} → ((a : A) → P a → Q a) → IfOk r P → IfOk r Q
if-ok (Ok a) f h = f a h
if-ok (Err e) f h = h

-- a text with the number of series that the one before it leaves out, by the number of those held as an exporter returns it
pub counted : (own : Own) (naming : Naming) (legend : Legend) (places : List ℕ → ℕ) (cells : Cells) (first text : List ℕ) (len held n : ℕ)
    → IsHeldNumber cells held → len ≡ min held (2 ^ 64 - 1) → IsExposedOwn own len 0 naming legend places cells first
    → n ≡ left_out_number first → IsExposedOwn own len n naming legend places cells text → IsShown true own naming legend places cells text
counted own naming legend places cells first text len held n number is before left shows =
    let same : (k : ℕ) → own_series own len k ≡ own_series own held k = λ k. ap (λ l. own_series own l k) is ∙ capped own held k in
    let P : List ℕ → List KeyedReading → Type 0 = λ t xs. IsScaled naming legend (own_places places) (with_own xs cells) t in (
      held,
      number,
      first,
      subst (P first) (same 0) before,
      subst (λ k. IsExposedOwn own held k naming legend places cells text) left (subst (P text) (same n) shows),
    )
