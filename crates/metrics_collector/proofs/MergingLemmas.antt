-- What rows are once others were joined with them.
use Rattle.std.proofs.Common.{◌≡◌, ◌∙◌, ◌⊎◌, inl, inr, ◌+◌, ℕ, zero, suc, ◌<◌, ◌≤◌, ◌%◌, ◌^◌, Bool, true, false, cond, List, [], ◌∷◌, ◌++◌, map, length, get_or, set, take, slice_get, Option, None, Some, refl, ap, sym, subst, add_comm, arith}
use Rattle.std.specs.List.{cons_option, AllByRecursion, IsDistinct, position_or_len}
use Rattle.std.proofs.lemmas.List.{get_or-map, length-map, map-append, map-set, take_more}
use Rattle.std.proofs.lemmas.Option.{slice_get-get_or}
use Rattle.std.proofs.lemmas.List.Sums.{fails_before_first, passes_at_first}
use Rattle.std.proofs.lemmas.Bool.{false≢true, cases_lt}
use Rattle.std.proofs.lemmas.Map.Keys.{IsDistinct-head, IsDistinct-tail, IsDistinct-cons}
use Rattle.metrics_names.specs.Names.{SeriesKey, series_key_eq}
use Rattle.metrics_names.specs.Equality.{key_exact, key_same}
use Rattle.metrics_exporter.specs.Exporting.{Reading, count, level, samples}
use Rattle.metrics_exporter.specs.Gathering.{series_at}
use Rattle.metrics_exporter.specs.Readings.{KeyedReading}
use Rattle.metrics_collector.specs.declared.gathered.Value.{Value}
use Rattle.metrics_collector.specs.declared.gathered.GatheredSeries.{GatheredSeries}
use Rattle.metrics_collector.specs.Gathering.{kind_of, reading_of, keyed_gathered}
use Rattle.metrics_collector.specs.declared.merging.AbsorbError.{AbsorbError}
use Rattle.metrics_collector.specs.Merging.{are_same, joined, joined_with, joined_all, readings_of, reading_of_series, with_reading, with_all, AreJoined, IsCount, AreCounters}
use Rattle.metrics_collector.specs.Merging.{HasEachOnce, IsRefused, IsRowRefused, HasRefused}

-- ---- by places

-- the first row of its series is joined with it
pub with-at : (t d : KeyedReading) (xs : List KeyedReading) (i : ℕ) → i < length xs → ((k : ℕ) → k < i → series_key_eq t.0 (get_or xs k d).0 ≡ false) → series_key_eq t.0 (get_or xs i d).0 ≡ true
    → set xs i ((get_or xs i d).0, joined (get_or xs i d).1 t.1) ≡ with_reading t xs
with-at t d [] i small none here = absurd (omega (arith, small))
with-at t d (x ∷ xs) zero small none here = sym (ap (λ b. cond b ((x.0, joined x.1 t.1) ∷ xs) (x ∷ with_reading t xs)) here)
with-at t d (x ∷ xs) (suc i) small none here =
    ap (λ l. x ∷ l) (with-at t d xs i (omega (arith, small)) (λ k less. none (suc k) (omega (arith, less))) here)
    ∙ sym (ap (λ b. cond b ((x.0, joined x.1 t.1) ∷ xs) (x ∷ with_reading t xs)) (none 0 (omega arith)))

-- none is of its series
pub with-none : (t d : KeyedReading) (xs : List KeyedReading) → ((k : ℕ) → k < length xs → series_key_eq t.0 (get_or xs k d).0 ≡ false) → xs ++ t ∷ [] ≡ with_reading t xs
with-none t d [] none = refl
with-none t d (x ∷ xs) none =
    ap (λ l. x ∷ l) (with-none t d xs (λ k less. none (suc k) (omega (arith, less))))
    ∙ sym (ap (λ b. cond b ((x.0, joined x.1 t.1) ∷ xs) (x ∷ with_reading t xs)) (none 0 (omega arith)))

-- a copy of a row is added
pub pushed : (xs : List GatheredSeries) (row y : GatheredSeries) → y.key ≡ row.key → kind_of y.value ≡ kind_of row.value → reading_of y.value ≡ reading_of row.value
    → map keyed_gathered (xs ++ y ∷ []) ≡ map keyed_gathered xs ++ keyed_gathered row ∷ []
pushed xs row y key kind reading =
    map-append keyed_gathered xs (y ∷ []) ∙ (λ i. map keyed_gathered xs ++ (series_at (kind i) (key i), reading i) ∷ [])

-- the same of rows, where none is of the series
pub put-none : (row : GatheredSeries) (xs : List GatheredSeries) → length xs ≤ position_or_len (are_same row) xs
    → map keyed_gathered xs ++ keyed_gathered row ∷ [] ≡ with_reading (keyed_gathered row) (map keyed_gathered xs)
put-none row xs far =
    let t = keyed_gathered row in
    with-none t t (map keyed_gathered xs) (λ k less.
    let small : k < length xs = subst (λ n. k < n) (length-map xs keyed_gathered) less in
    ap (λ (r : KeyedReading). series_key_eq t.0 r.0) (get_or-map keyed_gathered xs k row t small) ∙ fails_before_first (are_same row) xs k row (omega (arith, small, far)))

-- and where one is
pub put-at : (row y : GatheredSeries) (xs : List GatheredSeries) → position_or_len (are_same row) xs < length xs
    → keyed_gathered y ≡ ((keyed_gathered (get_or xs (position_or_len (are_same row) xs) row)).0, joined (keyed_gathered (get_or xs (position_or_len (are_same row) xs) row)).1 (keyed_gathered row).1)
    → map keyed_gathered (set xs (position_or_len (are_same row) xs) y) ≡ with_reading (keyed_gathered row) (map keyed_gathered xs)
put-at row y xs small is =
    let t = keyed_gathered row in
    let i = position_or_len (are_same row) xs in
    let keyed = map keyed_gathered xs in
    let at : get_or keyed i t ≡ keyed_gathered (get_or xs i row) = get_or-map keyed_gathered xs i row t small in
    map-set keyed_gathered xs i y
    ∙ ap (λ (r : KeyedReading). set keyed i r) (is ∙ ap (λ (r : KeyedReading). (r.0, joined r.1 t.1)) (sym at))
    ∙ with-at t t keyed i (subst (λ n. i < n) (sym (length-map xs keyed_gathered)) small)
    (λ k less. ap (λ (r : KeyedReading). series_key_eq t.0 r.0) (get_or-map keyed_gathered xs k row t (omega (arith, small, less))) ∙ fails_before_first (are_same row) xs k row less)
    (ap (λ (r : KeyedReading). series_key_eq t.0 r.0) at ∙ passes_at_first (are_same row) xs row small)

-- a row with the joined value
pub joined-keyed : (row old : GatheredSeries) (v : Value) → are_same row old ≡ true → kind_of v ≡ kind_of row.value → reading_of v ≡ joined (reading_of old.value) (reading_of row.value)
    → keyed_gathered (record old { value = v }) ≡ ((keyed_gathered old).0, joined (keyed_gathered old).1 (keyed_gathered row).1)
joined-keyed row old v same kind is =
    let kinds : kind_of v ≡ kind_of old.value = kind ∙ ap (λ (s : SeriesKey). s.kind) (key_exact (keyed_gathered row).0 (keyed_gathered old).0 same) in
    λ i. (series_at (kinds i) old.key, is i)

-- the value of the first row of the series is replaced
pub put-place : (row seen old : GatheredSeries) (v : Value) (xs : List GatheredSeries) (place : ℕ) → place ≡ position_or_len (are_same row) xs → place < length xs
    → seen ≡ get_or xs place row → old ≡ get_or xs place row → kind_of v ≡ kind_of row.value → reading_of v ≡ joined (reading_of seen.value) (reading_of row.value)
    → map keyed_gathered (set xs place (record { key = old.key; value = v })) ≡ with_reading (keyed_gathered row) (map keyed_gathered xs)
put-place row seen old v xs place is small seen-is old-is kind reading =
    let i = position_or_len (are_same row) xs in
    let first : GatheredSeries = get_or xs i row in
    let within : i < length xs = subst (λ n. n < length xs) is small in
    let seen-first : seen ≡ first = seen-is ∙ ap (λ k. get_or xs k row) is in
    let old-first : old ≡ first = old-is ∙ ap (λ k. get_or xs k row) is in
    let value = joined-keyed row first v (passes_at_first (are_same row) xs row within) kind (reading ∙ ap (λ (o : GatheredSeries). joined (reading_of o.value) (reading_of row.value)) seen-first) in
    (λ j. map keyed_gathered (set xs (is j) (record { key = (old-first j).key; value = v })))
    ∙ put-at row (record { key = first.key; value = v }) xs within value

-- ---- by series

turned : (a b : SeriesKey) → series_key_eq a b ≡ false → series_key_eq b a ≡ false
turned a b h = go (series_key_eq b a) refl
  where
    go : (q : Bool) → series_key_eq b a ≡ q → series_key_eq b a ≡ false
    go false e = e
    go true e = absurd (false≢true (sym h ∙ ap (series_key_eq a) (key_exact b a e) ∙ key_same a))

-- only its own series changes
pub reading-with : (s : SeriesKey) (t : KeyedReading) (xs : List KeyedReading)
    → reading_of_series s (with_reading t xs) ≡ cond (series_key_eq s t.0) (Some (joined_with (reading_of_series s xs) t.1)) (reading_of_series s xs)
reading-with s t [] = refl
reading-with s t (x ∷ xs) = go (reading-with s t xs) (series_key_eq t.0 x.0) refl
  where
    R : List KeyedReading → Option Reading
    R l = reading_of_series s l

    both : (p : Bool) → cond p (Some (joined x.1 t.1)) (R xs) ≡ cond p (Some (joined_with (cond p (Some x.1) (R xs)) t.1)) (cond p (Some x.1) (R xs))
    both true = refl
    both false = refl

    later : R (with_reading t xs) ≡ cond (series_key_eq s t.0) (Some (joined_with (R xs) t.1)) (R xs) → (q : Bool) → series_key_eq t.0 x.0 ≡ false → series_key_eq s x.0 ≡ q
        → cond q (Some x.1) (R (with_reading t xs)) ≡ cond (series_key_eq s t.0) (Some (joined_with (cond q (Some x.1) (R xs)) t.1)) (cond q (Some x.1) (R xs))
    later ih false apart e = ih
    later ih true apart e =
        let other : series_key_eq s t.0 ≡ false = ap (λ k. series_key_eq k t.0) (key_exact s x.0 e) ∙ turned t.0 x.0 apart in
        sym (ap (λ p. cond p (Some (joined x.1 t.1)) (Some x.1)) other)

    go : R (with_reading t xs) ≡ cond (series_key_eq s t.0) (Some (joined_with (R xs) t.1)) (R xs) → (b : Bool) → series_key_eq t.0 x.0 ≡ b
        → R (cond b ((x.0, joined x.1 t.1) ∷ xs) (x ∷ with_reading t xs)) ≡ cond (series_key_eq s t.0) (Some (joined_with (R (x ∷ xs)) t.1)) (R (x ∷ xs))
    go ih true e =
        both (series_key_eq s x.0)
        ∙ ap (λ p. cond p (Some (joined_with (R (x ∷ xs)) t.1)) (R (x ∷ xs))) (sym (ap (series_key_eq s) (key_exact t.0 x.0 e)))
    go ih false e = later ih (series_key_eq s x.0) e refl

-- each series is what it was, joined with all that the others report of it
pub reading-with-all : (s : SeriesKey) (ts xs : List KeyedReading) → reading_of_series s (with_all ts xs) ≡ joined_all (reading_of_series s xs) (readings_of s ts)
reading-with-all s [] xs = refl
reading-with-all s (t ∷ ts) xs =
    reading-with-all s ts (with_reading t xs) ∙ ap (λ o. joined_all o (readings_of s ts)) (reading-with s t xs) ∙ step (series_key_eq s t.0)
  where
    o : Option Reading
    o = reading_of_series s xs

    step : (p : Bool) → joined_all (cond p (Some (joined_with o t.1)) o) (readings_of s ts) ≡ joined_all o (cons_option (cond p (Some t.1) None) (readings_of s ts))
    step true = refl
    step false = refl

-- so the rows that are put together are joined
pub are-joined : (old other new : List KeyedReading) → new ≡ with_all other old → AreJoined old other new
are-joined old other new is s = ap (reading_of_series s) is ∙ reading-with-all s other old

-- ---- each series once

keys-with : (P : SeriesKey → Type 0) (t : KeyedReading) (xs : List KeyedReading) → P t.0 → AllByRecursion P (map (λ t. t.0) xs) → AllByRecursion P (map (λ t. t.0) (with_reading t xs))
keys-with P t [] p all = (p, tt)
keys-with P t (x ∷ xs) p all = go (keys-with P t xs p all.1) (series_key_eq t.0 x.0)
  where
    go : AllByRecursion P (map (λ t. t.0) (with_reading t xs)) → (b : Bool) → AllByRecursion P (map (λ t. t.0) (cond b ((x.0, joined x.1 t.1) ∷ xs) (x ∷ with_reading t xs)))
    go ih true = all
    go ih false = (all.0, ih)

once-with : (t : KeyedReading) (xs : List KeyedReading) → HasEachOnce xs → HasEachOnce (with_reading t xs)
once-with t [] once = IsDistinct-cons series_key_eq t.0 [] tt once
once-with t (x ∷ xs) once = go (once-with t xs (IsDistinct-tail series_key_eq x.0 (map (λ t. t.0) xs) once)) (series_key_eq t.0 x.0) refl
  where
    go : HasEachOnce (with_reading t xs) → (b : Bool) → series_key_eq t.0 x.0 ≡ b → HasEachOnce (cond b ((x.0, joined x.1 t.1) ∷ xs) (x ∷ with_reading t xs))
    go ih true e = once
    go ih false e =
        let keys : List SeriesKey = map (λ t. t.0) xs in
        let apart = keys-with (λ k. series_key_eq x.0 k ≡ false) t xs (turned t.0 x.0 e) (IsDistinct-head series_key_eq x.0 keys once) in
        IsDistinct-cons series_key_eq x.0 (map (λ t. t.0) (with_reading t xs)) apart ih

pub once-with-all : (ts xs : List KeyedReading) → HasEachOnce xs → HasEachOnce (with_all ts xs)
once-with-all [] xs once = once
once-with-all (t ∷ ts) xs once = once-with-all ts (with_reading t xs) (once-with t xs once)

-- ---- row after row

with-all-last : (ts : List KeyedReading) (t : KeyedReading) (xs : List KeyedReading) → with_all (ts ++ t ∷ []) xs ≡ with_reading t (with_all ts xs)
with-all-last [] t xs = refl
with-all-last (u ∷ ts) t xs = with-all-last ts t (with_reading u xs)

module _ (others : List GatheredSeries) (i : ℕ) (x : GatheredSeries) (small : i < length others) (at : x ≡ get_or others i x) where
  abbrev others-keyed : List KeyedReading
  others-keyed = map keyed_gathered others

  keyed-within : i < length others-keyed
  keyed-within = subst (λ n. i < n) (sym (length-map others keyed_gathered)) small

  keyed-there : get_or others-keyed i (keyed_gathered x) ≡ keyed_gathered x
  keyed-there = get_or-map keyed_gathered others i x (keyed_gathered x) small ∙ ap keyed_gathered (sym at)

  -- one more of the others
  pub next-all : (rows now then : List KeyedReading) → now ≡ with_all (take i (map keyed_gathered others)) rows → then ≡ with_reading (keyed_gathered x) now → then ≡ with_all (take (i + 1) (map keyed_gathered others)) rows
  next-all rows now then was is =
      is ∙ ap (with_reading (keyed_gathered x)) was
      ∙ sym (with-all-last (take i others-keyed) (keyed_gathered x) rows)
      ∙ sym (ap (λ (ts : List KeyedReading). with_all ts rows) (take_more others-keyed i (keyed_gathered x) keyed-within ∙ ap (λ (t : KeyedReading). take i others-keyed ++ t ∷ []) keyed-there))

  pub keyed-here : slice_get (map keyed_gathered others) i ≡ Some (keyed_gathered x)
  keyed-here = slice_get-get_or others-keyed i (keyed_gathered x) keyed-within ∙ ap Some keyed-there

-- what a row's series has after the rows before it
series-after : (rows others now : List KeyedReading) (i : ℕ) (s : SeriesKey) → now ≡ with_all (take i others) rows → reading_of_series s now ≡ joined_all (reading_of_series s rows) (readings_of s (take i others))
series-after rows others now i s is = ap (reading_of_series s) is ∙ reading-with-all s (take i others) rows

pub row-refused : (error : AbsorbError) (rows others now : List KeyedReading) (i : ℕ) (t : KeyedReading) → now ≡ with_all (take i others) rows → IsRefused error (reading_of_series t.0 now) t.1 → IsRowRefused error rows others i t
row-refused error rows others now i t is = subst (λ (o : Option Reading). IsRefused error o t.1) (series-after rows others now i t.0 is)

pub row-joined : (error : AbsorbError) (rows others now : List KeyedReading) (i : ℕ) (t : KeyedReading) → now ≡ with_all (take i others) rows → (IsRefused error (reading_of_series t.0 now) t.1 → ⊥) → IsRowRefused error rows others i t → ⊥
row-joined error rows others now i t is fits h = fits (subst (λ (o : Option Reading). IsRefused error o t.1) (sym (series-after rows others now i t.0 is)) h)

-- none of the first n others is refused
abbrev pub AreJoinedUpTo : List KeyedReading → List KeyedReading → ℕ → Type 0
AreJoinedUpTo rows others n = (place : ℕ) (t : KeyedReading) (error : AbsorbError) → place < n → slice_get others place ≡ Some t → IsRowRefused error rows others place t → ⊥

same-keyed : (t u : KeyedReading) → Some t ≡ Some u → t ≡ u
same-keyed t u e = cc

pub joined-more : (rows others : List KeyedReading) (i : ℕ) (t : KeyedReading) → AreJoinedUpTo rows others i → slice_get others i ≡ Some t → ((error : AbsorbError) → IsRowRefused error rows others i t → ⊥) → AreJoinedUpTo rows others (i + 1)
joined-more rows others i t was at fits place u error less found = elim (last place i less) [
  | inl e ↦ λ h.
      let found-here : slice_get others i ≡ Some u = subst (λ k. slice_get others k ≡ Some u) e found in
      let same : u ≡ t = same-keyed u t (sym found-here ∙ at) in
      fits error (subst (λ k. IsRowRefused error rows others k t) e (subst (IsRowRefused error rows others place) same h))
  | inr l ↦ was place u error l found
]
  where
    last : (place i : ℕ) → place < i + 1 → (place ≡ i) ⊎ (place < i)
    last place i less = elim (cases_lt place i) [
      | inl l ↦ inr l
      | inr l ↦ inl (omega (arith, l, less))
    ]

place-within : (others : List KeyedReading) (place : ℕ) (t : KeyedReading) → slice_get others place ≡ Some t → place < length others
place-within [] place t e = absurd (let bad : None ≡ Some t = e in cc)
place-within (x ∷ others) zero t e = omega arith
place-within (x ∷ others) (suc place) t e = let l = place-within others place t e in omega (arith, l)

pub none-refused : (rows others : List KeyedReading) (n : ℕ) → length others ≤ n → AreJoinedUpTo rows others n → (error : AbsorbError) → HasRefused error rows others → ⊥
none-refused rows others n all up error h = up h.0 h.1 error (let l = place-within others h.0 h.1 h.2 in omega (arith, l, all)) h.2 h.3

-- ---- what the series of a row has

found-at : (t d : KeyedReading) (xs : List KeyedReading) (i : ℕ) → i < length xs → ((k : ℕ) → k < i → series_key_eq t.0 (get_or xs k d).0 ≡ false) → series_key_eq t.0 (get_or xs i d).0 ≡ true
    → reading_of_series t.0 xs ≡ Some (get_or xs i d).1
found-at t d [] i small none here = absurd (omega (arith, small))
found-at t d (x ∷ xs) zero small none here = ap (λ b. cond b (Some x.1) (reading_of_series t.0 xs)) here
found-at t d (x ∷ xs) (suc i) small none here =
    ap (λ b. cond b (Some x.1) (reading_of_series t.0 xs)) (none 0 (omega arith))
    ∙ found-at t d xs i (omega (arith, small)) (λ k less. none (suc k) (omega (arith, less))) here

found-none : (t d : KeyedReading) (xs : List KeyedReading) → ((k : ℕ) → k < length xs → series_key_eq t.0 (get_or xs k d).0 ≡ false) → reading_of_series t.0 xs ≡ None
found-none t d [] none = refl
found-none t d (x ∷ xs) none =
    ap (λ b. cond b (Some x.1) (reading_of_series t.0 xs)) (none 0 (omega arith))
    ∙ found-none t d xs (λ k less. none (suc k) (omega (arith, less)))

pub series-none : (row : GatheredSeries) (xs : List GatheredSeries) → length xs ≤ position_or_len (are_same row) xs → reading_of_series (keyed_gathered row).0 (map keyed_gathered xs) ≡ None
series-none row xs far =
    let t = keyed_gathered row in
    found-none t t (map keyed_gathered xs) (λ k less.
    let small : k < length xs = subst (λ n. k < n) (length-map xs keyed_gathered) less in
    ap (λ (r : KeyedReading). series_key_eq t.0 r.0) (get_or-map keyed_gathered xs k row t small) ∙ fails_before_first (are_same row) xs k row (omega (arith, small, far)))

pub series-at : (row seen : GatheredSeries) (xs : List GatheredSeries) (place : ℕ) → place ≡ position_or_len (are_same row) xs → place < length xs → seen ≡ get_or xs place row
    → reading_of_series (keyed_gathered row).0 (map keyed_gathered xs) ≡ Some (reading_of seen.value)
series-at row seen xs place is less seen-is =
    let t = keyed_gathered row in
    let i = position_or_len (are_same row) xs in
    let keyed = map keyed_gathered xs in
    let small : i < length xs = subst (λ n. n < length xs) is less in
    let at : get_or keyed i t ≡ keyed_gathered (get_or xs i row) = get_or-map keyed_gathered xs i row t small in
    found-at t t keyed i (subst (λ n. i < n) (sym (length-map xs keyed_gathered)) small)
    (λ k before. ap (λ (r : KeyedReading). series_key_eq t.0 r.0) (get_or-map keyed_gathered xs k row t (omega (arith, small, before))) ∙ fails_before_first (are_same row) xs k row before)
    (ap (λ (r : KeyedReading). series_key_eq t.0 r.0) at ∙ passes_at_first (are_same row) xs row small)
    ∙ ap (λ (r : KeyedReading). Some r.1) (at ∙ ap keyed_gathered (sym (seen-is ∙ ap (λ k. get_or xs k row) is)))

-- ---- samples that can be put together

pub refused-none : (error : AbsorbError) (r : Reading) → IsRefused error None r → ⊥
refused-none error (count n) h = h
refused-none error (level n) h = h
refused-none error (samples d) h = h

-- ---- in either order

-- a series that comes once is joined with that
abbrev joined_once : Option Reading → Option Reading → Option Reading
joined_once old None = old
joined_once old (Some new) = Some (joined_with old new)

none-later : (s : SeriesKey) (ts : List KeyedReading) → AllByRecursion (λ k. series_key_eq s k ≡ false) (map (λ t. t.0) ts) → readings_of s ts ≡ []
none-later s [] none = refl
none-later s (t ∷ ts) none = ap (λ p. cons_option (cond p (Some t.1) None) (readings_of s ts)) none.0 ∙ none-later s ts none.1

joined-once : (s : SeriesKey) (o : Option Reading) (ts : List KeyedReading) → IsDistinct series_key_eq (map (λ t. t.0) ts) → joined_all o (readings_of s ts) ≡ joined_once o (reading_of_series s ts)
joined-once s o [] once = refl
joined-once s o (t ∷ ts) once = go (joined-once s o ts (IsDistinct-tail series_key_eq t.0 (map (λ t. t.0) ts) once)) (series_key_eq s t.0) refl
  where
    go : joined_all o (readings_of s ts) ≡ joined_once o (reading_of_series s ts) → (p : Bool) → series_key_eq s t.0 ≡ p → joined_all o (cons_option (cond p (Some t.1) None) (readings_of s ts)) ≡ joined_once o (cond p (Some t.1) (reading_of_series s ts))
    go ih false e = ih
    go ih true e =
        let own : AllByRecursion (λ k. series_key_eq t.0 k ≡ false) (map (λ t. t.0) ts) = IsDistinct-head series_key_eq t.0 (map (λ t. t.0) ts) once in
        let none : AllByRecursion (λ k. series_key_eq s k ≡ false) (map (λ t. t.0) ts) =
        subst (λ (q : SeriesKey). AllByRecursion (λ k. series_key_eq q k ≡ false) (map (λ t. t.0) ts)) (sym (key_exact s t.0 e)) own in
        ap (λ l. joined_all (Some (joined_with o t.1)) l) (none-later s ts none)

abbrev IsCountIf : Option Reading → Type 0
IsCountIf None = Unit {0}
IsCountIf (Some r) = IsCount r

count-found : (s : SeriesKey) (ts : List KeyedReading) → AllByRecursion (λ t. IsCount t.1) ts → IsCountIf (reading_of_series s ts)
count-found s [] counts = tt
count-found s (t ∷ ts) counts = go (count-found s ts counts.1) (series_key_eq s t.0)
  where
    go : IsCountIf (reading_of_series s ts) → (p : Bool) → IsCountIf (cond p (Some t.1) (reading_of_series s ts))
    go ih true = counts.0
    go ih false = ih

turns : (a b : Option Reading) → IsCountIf a → IsCountIf b → joined_once a b ≡ joined_once b a
turns None None p q = refl
turns None (Some r) p q = refl
turns (Some r) None p q = refl
turns (Some (level m)) (Some r) p q = absurd p
turns (Some (samples d)) (Some r) p q = absurd p
turns (Some (count m)) (Some (level n)) p q = absurd q
turns (Some (count m)) (Some (samples d)) p q = absurd q
turns (Some (count m)) (Some (count n)) p q = ap (λ k. Some (count (k % 2 ^ 64))) (add_comm m n)

-- counters that are joined in either order have one count each
pub either-order : (a b ab ba : List KeyedReading) → AreCounters a → AreCounters b → AreJoined a b ab → AreJoined b a ba → (s : SeriesKey) → reading_of_series s ab ≡ reading_of_series s ba
either-order a b ab ba of-a of-b one other s =
    one s ∙ joined-once s (reading_of_series s a) b of-b.once
    ∙ turns (reading_of_series s a) (reading_of_series s b) (count-found s a of-a.counts) (count-found s b of-b.counts)
    ∙ sym (joined-once s (reading_of_series s b) a of-a.once) ∙ sym (other s)
