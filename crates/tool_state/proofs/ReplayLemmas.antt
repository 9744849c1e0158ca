-- What calls make of new series.
use Rattle.std.proofs.Common.{◌≡◌, ◌∙◌, ℕ, zero, suc, ◌<◌, ◌+◌, ◌%◌, ◌^◌, Bool, true, false, cond, List, [], ◌∷◌, ◌++◌, map, length, Option, None, Some, Ok, refl, ap, sym, subst, arith, append_assoc, append-nil}
use Rattle.std.specs.Prelude.{ℤ, option_map, replicate}
use Rattle.std.specs.List.{AllByRecursion, IsDistinct}
use Rattle.std.specs.Map.{lookup}
use Rattle.std.specs.Option.{option_or}
use Rattle.std.proofs.lemmas.Grind.{flat_map-append}
use Rattle.std.proofs.lemmas.Bool.{false≢true}
use Rattle.std.proofs.lemmas.List.{map-append}
use Rattle.std.proofs.lemmas.Map.Keys.{IsDistinct-head, IsDistinct-tail}
use Rattle.metrics_names.specs.declared.common.Unit.{Unit as Measure}
use Rattle.metrics_names.specs.declared.kind.MetricKind.{MetricKind}
use Rattle.metrics_names.specs.declared.kind.MetricKind.TheVariants.{Histogram}
use Rattle.metrics_names.specs.Names.{KeyParts, SeriesKey, series_key_eq}
use Rattle.metrics_names.specs.Equality.{key_exact, key_same}
use Rattle.metrics.specs.declared.debugging.DebugValue.{DebugValue}
use Rattle.metrics.specs.declared.debugging.DebugValue.TheVariants as value
use Rattle.metrics.specs.declared.handles.Update.{Update}
use Rattle.metrics.specs.declared.handles.Update.TheVariants.{Increment, Set, Record}
use Rattle.metrics.specs.Book.{kind_of, new_value, value_from}
use Rattle.metrics_storage.specs.Histogram.{Distribution, no_samples, with_samples}
use Rattle.metrics_exporter.specs.Exporting.{Setup, Step, updated_in, updates_in, steps, steps_of, UpdateIn, since_in, updates_alone, Reading, count, level, samples, reading, Cell, cells_after}
use Rattle.metrics_exporter.specs.Gathering.{series_at}
use Rattle.metrics_exporter.specs.Readings.{KeyedReading, reading_in}
use Rattle.metrics_exporter.proofs.StepLemmas.{since_in-updated, cell_from}
use Rattle.tool_state.specs.State.{Entry, made_in, calls_by, calls_of}
use Rattle.tool_state.specs.Runs.{Run, samples_in}
use Rattle.tool_state.specs.Held.{recorded, BoundsBy, MakeReading, MakeReadings}

-- ---- updates of one series

abbrev AreOf : MetricKind → List Update → Type 0
AreOf kind us = AllByRecursion (λ u. kind_of u ≡ kind) us

abbrev the_steps : Option Measure → KeyParts → List Update → List Step
the_steps unit key us = map (updated_in unit key) us

-- updates that are all in one unit
abbrev all_in : Option Measure → List Update → List UpdateIn
all_in unit us = map (λ u. (unit, u)) us

since-one : (kind : MetricKind) (unit : Option Measure) (key : KeyParts) (u : Update) (xs : List Step) (t : SeriesKey) → kind_of u ≡ kind
    → since_in (xs ++ updated_in unit key u ∷ []) t ≡ cond (series_key_eq (series_at kind key) t) (since_in xs t ++ (unit, u) ∷ []) (since_in xs t)
since-one kind unit key u xs t is = since_in-updated xs unit key u t ∙ ap (λ k. cond (series_key_eq (series_at k key) t) (since_in xs t ++ (unit, u) ∷ []) (since_in xs t)) is

-- updates of a series come after those before, and change no other
since-made : (kind : MetricKind) (unit : Option Measure) (key : KeyParts) (us : List Update) (xs : List Step) (t : SeriesKey) → AreOf kind us
    → since_in (xs ++ the_steps unit key us) t ≡ cond (series_key_eq (series_at kind key) t) (since_in xs t ++ all_in unit us) (since_in xs t)
since-made kind unit key [] xs t are = ap (λ l. since_in l t) (append-nil xs) ∙ none (series_key_eq (series_at kind key) t)
  where
    none : (b : Bool) → since_in xs t ≡ cond b (since_in xs t ++ []) (since_in xs t)
    none true = sym (append-nil (since_in xs t))
    none false = refl
since-made kind unit key (u ∷ us) xs t are =
    ap (λ l. since_in l t) (sym (append_assoc xs (updated_in unit key u ∷ []) (the_steps unit key us)))
    ∙ since-made kind unit key us (xs ++ updated_in unit key u ∷ []) t are.1
    ∙ ap (λ l. cond (series_key_eq (series_at kind key) t) (l ++ all_in unit us) l) (since-one kind unit key u xs t are.0)
    ∙ both (series_key_eq (series_at kind key) t)
  where
    both : (b : Bool)
        → cond b (cond b (since_in xs t ++ (unit, u) ∷ []) (since_in xs t) ++ all_in unit us) (cond b (since_in xs t ++ (unit, u) ∷ []) (since_in xs t))
        ≡ cond b (since_in xs t ++ all_in unit (u ∷ us)) (since_in xs t)
    both true = append_assoc (since_in xs t) ((unit, u) ∷ []) (all_in unit us)
    both false = refl

steps-made : (unit : Option Measure) (key : KeyParts) (us : List Update) → steps (made_in unit key us) ≡ the_steps unit key us
steps-made unit key [] = refl
steps-made unit key (u ∷ us) = ap (λ l. updated_in unit key u ∷ l) (steps-made unit key us)

-- ---- what one series has

abbrev shown_by : Setup → SeriesKey → List UpdateIn → Option Reading
shown_by setup s us = option_map (λ (c : Cell). c.reading) (cell_from setup s us)

-- the updates of entries, all in one unit, make a series' reading
record Makes (setup : Setup) (k : KeyedReading) (entries : List Entry) : Type 0 where
  unit : Option Measure
  us : List Update
  calls : calls_of entries ≡ made_in unit k.0.key us
  are : AreOf k.0.kind us
  shown : shown_by setup k.0 (all_in unit us) ≡ Some k.1

records-all : (v : DebugValue) (xs ys : List ℤ) → v ≡ value.Histogram xs → value_from v (map Record ys) ≡ value.Histogram (xs ++ ys)
records-all v xs [] e = e ∙ ap value.Histogram (sym (append-nil xs))
records-all v xs (y ∷ ys) e =
    ap (λ w. value_from w (map Record (y ∷ ys))) e
    ∙ records-all (value.Histogram (xs ++ y ∷ [])) (xs ++ y ∷ []) ys refl
    ∙ ap value.Histogram (append_assoc xs (y ∷ []) ys)

records-are : (xs : List ℤ) → AreOf Histogram (map Record xs)
records-are [] = tt
records-are (x ∷ xs) = (refl, records-are xs)

made-append : (unit : Option Measure) (key : KeyParts) (us vs : List Update) → made_in unit key (us ++ vs) ≡ made_in unit key us ++ made_in unit key vs
made-append unit key us vs = map-append (λ u. updates_in unit key u (Ok tt)) us vs

record-replicate : (n : ℕ) (x : ℤ) → replicate n (Record x) ≡ map Record (replicate n x)
record-replicate zero x = refl
record-replicate (suc n) x = ap (λ l. Record x ∷ l) (record-replicate n x)

runs-made : (unit : Option Measure) (key : KeyParts) (runs : List Run) → calls_of (map (recorded unit key) runs) ≡ made_in unit key (map Record (samples_in runs))
runs-made unit key [] = refl
runs-made unit key (r ∷ runs) =
    ap (λ l. made_in unit key (replicate r.0 (Record r.1)) ++ l) (runs-made unit key runs)
    ∙ ap (λ l. made_in unit key l ++ made_in unit key (map Record (samples_in runs))) (record-replicate r.0 r.1)
    ∙ sym (made-append unit key (map Record (replicate r.0 r.1)) (map Record (samples_in runs)))
    ∙ ap (made_in unit key) (sym (map-append Record (replicate r.0 r.1) (samples_in runs)))

alone-back : (unit : Option Measure) (us : List Update) → updates_alone (all_in unit us) ≡ us
alone-back unit [] = refl
alone-back unit (u ∷ us) = ap (λ l. u ∷ l) (alone-back unit us)

-- what updates in one unit make of a new series
shown-some : (setup : Setup) (s : SeriesKey) (unit : Option Measure) (us : List Update) → 0 < length us
    → shown_by setup s (all_in unit us) ≡ Some (reading (setup.bounds unit s.key.name) (value_from (new_value s.kind) us))
shown-some setup s unit [] some = absurd (omega (arith, some))
shown-some setup s unit (u ∷ us) some = ap (λ l. Some (reading (setup.bounds unit s.key.name) (value_from (new_value s.kind) (u ∷ l)))) (alone-back unit us)

length-records : (xs : List ℤ) → length (map Record xs) ≡ length xs
length-records [] = refl
length-records (x ∷ xs) = ap suc (length-records xs)

makes : (setup : Setup) (bounds : BoundsBy) (k : KeyedReading) (entries : List Entry) → ((unit : Option Measure) (name : List ℕ) → bounds unit name ≡ setup.bounds unit name)
    → MakeReading bounds k entries → Makes setup k entries
makes setup bounds (s, count n) entries at (kind, small, are) = record {
  unit = None;
  us = Increment n ∷ [];
  calls = ap calls_of are;
  are = (sym kind, tt);
  shown = ap (λ k. Some (reading (setup.bounds None s.key.name) (value_from (new_value k) (Increment n ∷ [])))) kind ∙ ap (λ m. Some (count m)) whole;
}
  where
    whole : (0 + n) % 2 ^ 64 ≡ n
    whole = omega (arith, small)
makes setup bounds (s, level n) entries at (kind, are) = record {
  unit = None;
  us = Set n ∷ [];
  calls = ap calls_of are;
  are = (sym kind, tt);
  shown = ap (λ k. Some (reading (setup.bounds None s.key.name) (value_from (new_value k) (Set n ∷ [])))) kind;
}
makes setup bounds (s, samples d) entries at (kind, (unit, runs, same, (some, is), are)) = record {
  unit = unit;
  us = map Record (samples_in runs);
  calls = ap calls_of are ∙ runs-made unit s.key runs;
  are = subst (λ k. AreOf k (map Record (samples_in runs))) (sym kind) (records-are (samples_in runs));
  shown = shown-some setup s unit (map Record (samples_in runs)) (omega (arith, some, number, length-records (samples_in runs)))
      ∙ ap (λ k. Some (reading (setup.bounds unit s.key.name) (value_from (new_value k) (map Record (samples_in runs))))) kind
      ∙ ap (λ v. Some (reading (setup.bounds unit s.key.name) v)) (records-all (value.Histogram []) [] (samples_in runs) refl)
      ∙ ap (λ b. Some (samples (with_samples (samples_in runs) (no_samples b)))) (sym (at unit s.key.name) ∙ same)
      ∙ ap (λ e. Some (samples e)) (sym is);
}
  where
    number : d.count ≡ 0 + length (samples_in runs)
    number = ap (λ (e : Distribution). e.count) is

-- ---- all series

-- a series that has no update so far
abbrev IsNew : List Step → KeyedReading → Type 0
IsNew xs k = since_in xs k.0 ≡ []

abbrev firsts : List KeyedReading → List SeriesKey
firsts keyed = map (λ t. t.0) keyed

not-found : (s : SeriesKey) (keyed : List KeyedReading) → AllByRecursion (λ k. series_key_eq s k ≡ false) (firsts keyed) → lookup (series_key_eq s) keyed ≡ None
not-found s [] h = refl
not-found s (k ∷ keyed) h = ap (λ b. cond b (Some k.1) (lookup (series_key_eq s) keyed)) h.0 ∙ not-found s keyed h.1

-- the updates of another series leave series without updates
still-new : (k : KeyedReading) (unit : Option Measure) (us : List Update) (xs : List Step) (keyed : List KeyedReading) → AreOf k.0.kind us
    → AllByRecursion (λ t. series_key_eq k.0 t ≡ false) (firsts keyed) → AllByRecursion (IsNew xs) keyed → AllByRecursion (IsNew (xs ++ the_steps unit k.0.key us)) keyed
still-new k unit us xs [] are apart new = tt
still-new k unit us xs (t ∷ keyed) are apart new = (
  since-made k.0.kind unit k.0.key us xs t.0 are ∙ ap (λ b. cond b (since_in xs t.0 ++ all_in unit us) (since_in xs t.0)) apart.0 ∙ new.0,
  still-new k unit us xs keyed are apart.1 new.1,
)

abbrev has : Setup → List Step → SeriesKey → Option Reading
has setup xs t = reading_in (cells_after setup xs) t

module _ (setup : Setup) (k : KeyedReading) (keyed : List KeyedReading) (unit : Option Measure) (us : List Update) (xs : List Step) (are : AreOf k.0.kind us)
    (shown : shown_by setup k.0 (all_in unit us) ≡ Some k.1) (new : since_in xs k.0 ≡ []) (apart : AllByRecursion (λ t. series_key_eq k.0 t ≡ false) (firsts keyed)) where
  abbrev later : List Step
  later = xs ++ the_steps unit k.0.key us

  own : has setup later k.0 ≡ Some k.1
  own =
      ap (shown_by setup k.0) (since-made k.0.kind unit k.0.key us xs k.0 are ∙ ap (λ b. cond b (since_in xs k.0 ++ all_in unit us) (since_in xs k.0)) (key_same k.0) ∙ ap (λ l. l ++ all_in unit us) new)
      ∙ shown

  other : (t : SeriesKey) → series_key_eq k.0 t ≡ false → has setup later t ≡ has setup xs t
  other t differs =
      ap (shown_by setup t) (since-made k.0.kind unit k.0.key us xs t are ∙ ap (λ b. cond b (since_in xs t ++ all_in unit us) (since_in xs t)) differs)

  turned : (t : SeriesKey) → series_key_eq t k.0 ≡ false → series_key_eq k.0 t ≡ false
  turned t h = go (series_key_eq k.0 t) refl
    where
      go : (b : Bool) → series_key_eq k.0 t ≡ b → series_key_eq k.0 t ≡ false
      go false e = e
      go true e = absurd (false≢true (sym h ∙ ap (λ z. series_key_eq z k.0) (sym (key_exact k.0 t e)) ∙ key_same k.0))

  one-more : (t : SeriesKey) → option_or (lookup (series_key_eq t) keyed) (has setup later t) ≡ option_or (lookup (series_key_eq t) (k ∷ keyed)) (has setup xs t)
  one-more t = go (series_key_eq t k.0) refl
    where
      go : (b : Bool) → series_key_eq t k.0 ≡ b
          → option_or (lookup (series_key_eq t) keyed) (has setup later t) ≡ option_or (cond b (Some k.1) (lookup (series_key_eq t) keyed)) (has setup xs t)
      go true e =
          ap (λ s. option_or (lookup (series_key_eq s) keyed) (has setup later s)) (key_exact t k.0 e)
          ∙ ap (λ o. option_or o (has setup later k.0)) (not-found k.0 keyed apart) ∙ own
      go false e = ap (option_or (lookup (series_key_eq t) keyed)) (other t (turned t e))

-- entries of several new series give each what the list says, and change no other
pub replayed : (setup : Setup) (bounds : BoundsBy) (keyed : List KeyedReading) (entries : List Entry) (xs : List Step)
    → ((unit : Option Measure) (name : List ℕ) → bounds unit name ≡ setup.bounds unit name)
    → IsDistinct series_key_eq (firsts keyed) → AllByRecursion (IsNew xs) keyed → MakeReadings bounds keyed entries
    → (t : SeriesKey) → has setup (xs ++ steps (calls_of entries)) t ≡ option_or (lookup (series_key_eq t) keyed) (has setup xs t)
replayed setup bounds [] entries xs at once new are t = ap (λ l. has setup (xs ++ steps (calls_of l)) t) are ∙ ap (λ l. has setup l t) (append-nil xs)
replayed setup bounds (k ∷ keyed) entries xs at once new (first, others, makes-first, make, are) t =
    let m : Makes setup k first = makes setup bounds k first at makes-first in
    let split : steps (calls_of entries) ≡ the_steps m.unit k.0.key m.us ++ steps (calls_of others) =
    ap (λ l. steps (calls_of l)) are ∙ ap steps (flat_map-append calls_by first others) ∙ flat_map-append steps_of (calls_of first) (calls_of others)
    ∙ ap (λ l. steps l ++ steps (calls_of others)) m.calls ∙ ap (λ l. l ++ steps (calls_of others)) (steps-made m.unit k.0.key m.us) in
    let apart = IsDistinct-head series_key_eq k.0 (firsts keyed) once in
    ap (λ l. has setup (xs ++ l) t) split
    ∙ ap (λ l. has setup l t) (sym (append_assoc xs (the_steps m.unit k.0.key m.us) (steps (calls_of others))))
    ∙ replayed setup bounds keyed others (xs ++ the_steps m.unit k.0.key m.us) at (IsDistinct-tail series_key_eq k.0 (firsts keyed) once)
    (still-new k m.unit m.us xs keyed m.are apart new.1) make t
    ∙ one-more setup k keyed m.unit m.us xs m.are m.shown new.0 apart t
