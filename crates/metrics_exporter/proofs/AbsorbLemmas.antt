-- Updates of a key one after another, and rows one after another.
use Rattle.std.proofs.Common.{◌≡◌, ℕ, zero, suc, ◌<◌, ◌+◌, ◌≤◌, Bool, true, cond, List, [], ◌∷◌, ◌++◌, map, take, drop, get_or, length, None, Some, inl, Result, Ok, Err, refl, ap, sym, ◌∙◌, subst, arith, append_assoc, take-append-drop, drop-cons, add-one}
use Rattle.std.specs.Prelude.{◌↔◌, ◌⊎◌, ◌&&◌, ℤ, OnOk, bytes_eq}
use Rattle.std.proofs.lemmas.List.{length-map, length-take-le, map-append, take_more, take_all, drop_all}
use Rattle.metrics_names.specs.Names.{KeyParts, kind_eq}
use Rattle.metrics.specs.declared.error.Error.{Error}
use Rattle.metrics.specs.declared.error.Error.TheVariants.{Memory, CountFull}
use Rattle.metrics.specs.declared.debugging.DebugValue.{DebugValue}
use Rattle.metrics.specs.declared.debugging.DebugValue.TheVariants as value
use Rattle.metrics.specs.declared.handles.Update.{Update}
use Rattle.metrics.specs.declared.handles.Update.TheVariants.{Record}
use Rattle.metrics.specs.Book.{RowParts, Description, described_again}
use Rattle.metrics_exporter.specs.declared.absorb.PartlyAbsorbed.{PartlyAbsorbed}
use Rattle.metrics_exporter.specs.declared.exporter.Exporter.{Exporter}
use Rattle.metrics_exporter.specs.Exporting.{Setup, Log, updates, steps, series_of, cells_after, IsFull}
use Rattle.metrics_exporter.specs.Kept.{IsAfter}
use Rattle.metrics_exporter.specs.Absorbing.{MarkedRow, marked, updates_of, made, asked_by, with_row, with_rows, Refuses, StopsIn, MakesUpdates, StopsInRow, AbsorbsRow, StopsAt}
use Rattle.metrics_exporter.specs.Absorbing.{remaining_samples, remaining_row, first_remaining, remaining, AbsorbsRemaining}
use Rattle.metrics_descriptions.specs.Legends.{Legend, SameLegend}
use Rattle.metrics_exporter.specs.Describing.{legend_by_row, legend_by_rows}
use Rattle.metrics_exporter.proofs.KeptLemmas.{Done, err_inside}

-- ---- one more update

pub made-push : (key : KeyParts) (us : List Update) (u : Update) → made key (us ++ u ∷ []) ≡ made key us ++ updates key u (Ok tt) ∷ []
made-push key us u = map-append (λ v. updates key v (Ok tt)) us (u ∷ [])

-- why an update failed
pub refuses : (setup : Setup) (log : Log) (key : KeyParts) (u : Update) (r : Done) (e : Error) → r ≡ Err e
    → ((r ≡ Err CountFull) ↔ IsFull (steps log) key u) → (r ≡ Err Memory → cells_after setup (steps log) (series_of key u) ≡ None) → (e ≡ Memory) ⊎ (e ≡ CountFull)
    → Refuses setup log key u e
refuses setup log key u r e is full absent either = record {
  either = either;
  absent = λ h. absent (is ∙ ap Err h);
  full = (λ h. full.0 (is ∙ ap Err h), λ h. err_inside (sym is ∙ full.1 h));
}

-- an update that failed after others of its key
pub stops-in : (setup : Setup) (log : Log) (key : KeyParts) (first rest all : List Update) (u : Update) (e : Error) (n : ℕ) (a b : Exporter)
    → all ≡ first ++ u ∷ rest → n ≡ length first → IsAfter setup (log ++ made key first) a → b ≡ a → Refuses setup (log ++ made key first) key u e
    → StopsIn setup log key all e n b
stops-in setup log key first rest all u e n a b split number after same refused = record {
  first = first;
  next = u;
  rest = rest;
  updates = split;
  number = number;
  stands = let P : Exporter → Type 0 = IsAfter setup (log ++ made key first) in subst P (sym same) after;
  refused = refused;
}

-- ---- one more element of a list

pub split-at : {A : Type 0} (xs : List A) (i : ℕ) (x : A) → i < length xs → x ≡ get_or xs i x → xs ≡ take i xs ++ x ∷ drop (suc i) xs
split-at xs i x small at =
    sym (take-append-drop i xs) ∙ ap (λ l. take i xs ++ l) (drop-cons xs i x small ∙ ap (λ y. y ∷ drop (suc i) xs) (sym at))

pub taken : {A : Type 0} (xs : List A) (i : ℕ) (x : A) → i < length xs → x ≡ get_or xs i x → take (i + 1) xs ≡ take i xs ++ x ∷ []
taken xs i x small at = take_more xs i x small ∙ ap (λ y. take i xs ++ y ∷ []) (sym at)

-- ---- samples

pub samples-split : (xs : List ℤ) (i : ℕ) (x : ℤ) → i < length xs → x ≡ get_or xs i x → map Record xs ≡ map Record (take i xs) ++ Record x ∷ map Record (drop (suc i) xs)
samples-split xs i x small at = ap (map Record) (split-at xs i x small at) ∙ map-append Record (take i xs) (x ∷ drop (suc i) xs)

pub samples-number : (xs : List ℤ) (i : ℕ) → i < length xs → i ≡ length (map Record (take i xs))
samples-number xs i small = sym (length-map (take i xs) Record ∙ length-take-le i xs (omega (arith, small)))

pub samples-more : (log : Log) (key : KeyParts) (xs : List ℤ) (i : ℕ) (x : ℤ) → i < length xs → x ≡ get_or xs i x
    → (log ++ made key (map Record (take i xs))) ++ updates key (Record x) (Ok tt) ∷ [] ≡ log ++ made key (map Record (take (i + 1) xs))
samples-more log key xs i x small at =
    append_assoc log (made key (map Record (take i xs))) (updates key (Record x) (Ok tt) ∷ [])
    ∙ ap (λ l. log ++ l) (sym (made-push key (map Record (take i xs)) (Record x)))
    ∙ ap (λ l. log ++ made key l) (sym (map-append Record (take i xs) (x ∷ [])) ∙ ap (map Record) (sym (taken xs i x small at)))

-- ---- rows

rows-push : (log : Log) (rows : List MarkedRow) (m : MarkedRow) → with_rows log (rows ++ m ∷ []) ≡ with_row (with_rows log rows) m
rows-push log [] m = refl
rows-push log (r ∷ rows) m = rows-push (with_row log r) rows m

rows-more : (log : Log) (rows : List MarkedRow) (i : ℕ) (m : MarkedRow) → i < length rows → m ≡ get_or rows i m
    → with_row (with_rows log (take i rows)) m ≡ with_rows log (take (i + 1) rows)
rows-more log rows i m small at = sym (ap (with_rows log) (taken rows i m small at) ∙ rows-push log (take i rows) m)

stops-at : (setup : Setup) (log : Log) (rows : List MarkedRow) (i : ℕ) (m : MarkedRow) (stop : PartlyAbsorbed) (after : Exporter) → i < length rows → m ≡ get_or rows i m → stop.rows ≡ i
    → StopsInRow setup (with_rows log (take i rows)) m stop.error stop.samples after
    → StopsAt setup log rows stop after
stops-at setup log rows i m stop after small at is within = record {
  first = take i rows;
  next = m;
  rest = drop (suc i) rows;
  all = split-at rows i m small at;
  number = is ∙ sym (length-take-le i rows (omega (arith, small)));
  within = within;
}

-- the updates of a row's value, after its description
pub row-made : (setup : Setup) (log : Log) (m : MarkedRow) (key : KeyParts) (r : Result (Unit {0}) (Error × ℕ)) (after : Exporter) → key ≡ m.row.0.key
    → MakesUpdates setup log key (updates_of m.active m.row.3) r after → AbsorbsRow setup log m r after
row-made setup log m key r after is makes = by-result r (subst K is makes)
  where
    K : KeyParts → Type 0
    K k = MakesUpdates setup log k (updates_of m.active m.row.3) r after

    by-result : (r : Result (Unit {0}) (Error × ℕ)) → MakesUpdates setup log m.row.0.key (asked_by m) r after → AbsorbsRow setup log m r after
    by-result (Ok done) h = h
    by-result (Err (e, n)) h = inl h

-- ---- rows with their marks

pub length-marked : (rows : List RowParts) (marks : List Bool) → length (marked rows marks) ≡ length rows
length-marked [] marks = refl
length-marked (row ∷ rows) [] = ap suc (length-marked rows [])
length-marked (row ∷ rows) (active ∷ marks) = ap suc (length-marked rows marks)

no-marks : (i : ℕ) → get_or [] i true ≡ true
no-marks zero = refl
no-marks (suc i) = refl

marked-at : (rows : List RowParts) (marks : List Bool) (i : ℕ) (row : RowParts) (m : MarkedRow) → i < length rows
    → get_or (marked rows marks) i m ≡ record { row = get_or rows i row; active = get_or marks i true }
marked-at [] marks i row m small = absurd (omega (arith, small))
marked-at (x ∷ rows) [] zero row m small = refl
marked-at (x ∷ rows) [] (suc i) row m small =
    marked-at rows [] i row m (omega (arith, small)) ∙ ap (λ b. record { row = get_or rows i row; active = b }) (no-marks i ∙ sym (no-marks (suc i)))
marked-at (x ∷ rows) (active ∷ marks) zero row m small = refl
marked-at (x ∷ rows) (active ∷ marks) (suc i) row m small = marked-at rows marks i row m (omega (arith, small))

drop-none : {A : Type 0} (n : ℕ) → ◌≡◌ {A = List A} (drop n []) []
drop-none zero = refl
drop-none (suc n) = refl

drop-marked : (n : ℕ) (rows : List RowParts) (marks : List Bool) → drop n (marked rows marks) ≡ marked (drop n rows) (drop n marks)
drop-marked zero rows marks = refl
drop-marked (suc n) [] marks = refl
drop-marked (suc n) (row ∷ rows) [] = drop-marked n rows [] ∙ ap (marked (drop n rows)) (drop-none n)
drop-marked (suc n) (row ∷ rows) (active ∷ marks) = drop-marked n rows marks

samples-all : (v : DebugValue) → remaining_samples 0 v ≡ v
samples-all (value.Counter n) = refl
samples-all (value.Gauge n) = refl
samples-all (value.Histogram xs) = refl

row-all : (m : MarkedRow) → remaining_row 0 m ≡ m
row-all m = ap (λ v. record { row = (m.row.0, m.row.1, m.row.2, v); active = m.active }) (samples-all m.row.3)

module _ (rows : List RowParts) (marks : List Bool) (i : ℕ) (row : RowParts) (active : Bool) (small : i < length rows) (at : row ≡ get_or rows i row) (mark : active ≡ get_or marks i true) where
  abbrev here : MarkedRow
  here = record { row = row; active = active }

  within : i < length (marked rows marks)
  within = omega (arith, small, length-marked rows marks)

  here-at : here ≡ get_or (marked rows marks) i here
  here-at =
      ap (λ r. record { row = r; active = active }) at ∙ ap (λ b. record { row = get_or rows i row; active = b }) mark
      ∙ sym (marked-at rows marks i row here small)

  -- a row that was absorbed whole
  pub row-absorbed : (setup : Setup) (log : Log) (r : Result (Unit {0}) (Error × ℕ)) (done : Unit {0}) (after : Exporter) → r ≡ Ok done
      → AbsorbsRow setup (with_rows log (take i (marked rows marks))) (remaining_row 0 here) r after → IsAfter setup (with_rows log (take (i + 1) (marked rows marks))) after
  row-absorbed setup log r done after ok makes =
      let before : Log = with_rows log (take i (marked rows marks)) in
      let R : Result (Unit {0}) (Error × ℕ) → Type 0 = λ q. AbsorbsRow setup before (remaining_row 0 here) q after in
      let M : MarkedRow → Type 0 = λ m. IsAfter setup (with_row before m) after in
      let L : Log → Type 0 = λ l. IsAfter setup l after in
      subst L (rows-more log (marked rows marks) i here within here-at) (subst M (row-all here) (subst R ok makes))

  -- a row in which an update failed, or its description
  pub row-stopped : (setup : Setup) (log : Log) (r : Result (Unit {0}) (Error × ℕ)) (error : Error) (n : ℕ) (after : Exporter) → r ≡ Err (error, n)
      → AbsorbsRow setup (with_rows log (take i (marked rows marks))) (remaining_row 0 here) r after
      → StopsAt setup log (marked rows marks) (record { error = error; rows = i; samples = n }) after
  row-stopped setup log r error n after refused makes =
      let before : Log = with_rows log (take i (marked rows marks)) in
      let R : Result (Unit {0}) (Error × ℕ) → Type 0 = λ q. AbsorbsRow setup before (remaining_row 0 here) q after in
      let M : MarkedRow → Type 0 = λ m. StopsInRow setup before m error n after in
      stops-at setup log (marked rows marks) i here (record { error = error; rows = i; samples = n }) after within here-at refl (subst M (row-all here) (subst R refused makes))

-- ---- going on after a part

pub nothing-remaining : (part : PartlyAbsorbed) (rows : List MarkedRow) → length rows ≤ part.rows → remaining part rows ≡ []
nothing-remaining part rows past = ap (first_remaining part.samples) (drop_all part.rows rows past)

module _ (rows : List RowParts) (marks : List Bool) (part : PartlyAbsorbed) (row : RowParts) (active : Bool) (small : part.rows < length rows) (at : row ≡ get_or rows part.rows row)
    (mark : active ≡ get_or marks part.rows true) where
  abbrev next : MarkedRow
  next = remaining_row part.samples (record { row = row; active = active })

  abbrev rest : List MarkedRow
  rest = marked (drop (part.rows + 1) rows) (drop (part.rows + 1) marks)

  all-remaining : remaining part (marked rows marks) ≡ next ∷ rest
  all-remaining =
      let m : MarkedRow = record { row = row; active = active } in
      let long : part.rows < length (marked rows marks) = omega (arith, small, length-marked rows marks) in
      ap (first_remaining part.samples)
      (drop-cons (marked rows marks) part.rows m long
      ∙ ap (λ x. x ∷ drop (suc part.rows) (marked rows marks)) (sym (here-at rows marks part.rows row active small at mark)))
      ∙ ap (λ l. next ∷ l) (ap (λ n. drop n (marked rows marks)) (sym (add-one part.rows)) ∙ drop-marked (part.rows + 1) rows marks)

  -- all rows after the part
  pub remaining-absorbed : (setup : Setup) (log : Log) (after : Exporter) → IsAfter setup (with_rows (with_row log next) rest) after
      → IsAfter setup (with_rows log (remaining part (marked rows marks))) after
  remaining-absorbed setup log after h = let P : List MarkedRow → Type 0 = λ l. IsAfter setup (with_rows log l) after in subst P (sym all-remaining) h

  -- a stop in the first of them
  pub stopped-first : (setup : Setup) (log : Log) (error : Error) (n : ℕ) (after : Exporter) → StopsInRow setup log next error n after
      → AbsorbsRemaining setup log part (marked rows marks) (Err (record { error = error; rows = part.rows; samples = part.samples + n })) after
  stopped-first setup log error n after h =
      let inner : PartlyAbsorbed = record { error = error; rows = 0; samples = n } in
      let P : List MarkedRow → Type 0 = λ l. StopsAt setup log l inner after in
      let stops : StopsAt setup log (next ∷ rest) inner after = record { first = []; next = next; rest = rest; all = refl; number = refl; within = h } in
      (inner, subst P (sym all-remaining) stops, ap (λ k. record { error = error; rows = k; samples = part.samples + n }) (omega arith))

  -- a stop in another one
  pub stopped-remaining : (setup : Setup) (log : Log) (stop : PartlyAbsorbed) (after : Exporter) → StopsAt setup (with_row log next) rest stop after
      → AbsorbsRemaining setup log part (marked rows marks) (Err (record { error = stop.error; rows = part.rows + 1 + stop.rows; samples = stop.samples })) after
  stopped-remaining setup log stop after h =
      let inner : PartlyAbsorbed = record { error = stop.error; rows = suc stop.rows; samples = stop.samples } in
      let P : List MarkedRow → Type 0 = λ l. StopsAt setup log l inner after in
      let stops : StopsAt setup log (next ∷ rest) inner after = record { first = next ∷ h.first; next = h.next; rest = h.rest; all = ap (λ l. next ∷ l) h.all; number = ap suc h.number; within = h.within } in
      let lower : part.rows + 1 + stop.rows ≡ part.rows + suc stop.rows = omega arith in
      let none : stop.samples ≡ 0 + stop.samples = omega arith in (
        inner,
        subst P (sym all-remaining) stops,
        ap (λ k. record { error = stop.error; rows = k; samples = stop.samples }) lower
            ∙ ap (λ k. record { error = stop.error; rows = part.rows + suc stop.rows; samples = k }) none,
      )

-- ---- how rows describe names

keyed-push : (rows : List RowParts) (row : RowParts) (keyed : Legend) → legend_by_rows (rows ++ row ∷ []) keyed ≡ legend_by_row row (legend_by_rows rows keyed)
keyed-push [] row keyed = refl
keyed-push (r ∷ rows) row keyed = keyed-push rows row (legend_by_row r keyed)

-- the descriptions are the same if those before are
keyed-same : (row : RowParts) (a b : Legend) → SameLegend a b → SameLegend (legend_by_row row a) (legend_by_row row b)
keyed-same (s, unit, None, value) a b same = same
keyed-same (s, unit, Some text, value) a b same = λ k n. ap (λ (d : Description). cond (kind_eq s.kind k && bytes_eq s.key.name n) (described_again unit text d) d) (same k n)

-- one row more
pub keyed-more : (items rows : List RowParts) (i : ℕ) (row : RowParts) (first before after : Legend) → items ≡ rows → i < length items → row ≡ get_or items i row
    → SameLegend before (legend_by_rows (take i rows) first) → SameLegend after (legend_by_row row before) → SameLegend after (legend_by_rows (take (i + 1) rows) first)
keyed-more items rows i row first before after same small at was now k n =
    let S : List RowParts → Type 0 = λ l. i < length l in
    let G : List RowParts → Type 0 = λ l. row ≡ get_or l i row in
    let more : legend_by_row row (legend_by_rows (take i rows) first) ≡ legend_by_rows (take (i + 1) rows) first = sym (ap (λ l. legend_by_rows l first) (taken rows i row (subst S same small) (subst G same at)) ∙ keyed-push (take i rows) row first) in
    now k n ∙ keyed-same row before (legend_by_rows (take i rows) first) was k n ∙ ap (λ (t : Legend). t k n) more

-- the same of several rows
keyed-all-same : (rows : List RowParts) (a b : Legend) → SameLegend a b → SameLegend (legend_by_rows rows a) (legend_by_rows rows b)
keyed-all-same [] a b same = same
keyed-all-same (row ∷ rows) a b same = keyed-all-same rows (legend_by_row row a) (legend_by_row row b) (keyed-same row a b same)

-- the rows after the first ones, after the first of them
pub keyed-remaining : (rows : List RowParts) (i : ℕ) (row : RowParts) (first before after : Legend) → i < length rows → row ≡ get_or rows i row
    → SameLegend before (legend_by_row row first) → SameLegend after (legend_by_rows (drop (i + 1) rows) before) → SameLegend after (legend_by_rows (drop i rows) first)
keyed-remaining rows i row first before after small at was now k n =
    let split : drop i rows ≡ row ∷ drop (i + 1) rows =
    drop-cons rows i row small ∙ ap (λ x. x ∷ drop (suc i) rows) (sym at) ∙ ap (λ m. row ∷ drop m rows) (sym (add-one i)) in
    now k n ∙ keyed-all-same (drop (i + 1) rows) before (legend_by_row row first) was k n ∙ ap (λ l. legend_by_rows l first k n) (sym split)

-- all rows
pub keyed-end : (items rows : List RowParts) (i : ℕ) (first after : Legend) → items ≡ rows → length items ≤ i → SameLegend after (legend_by_rows (take i rows) first) → SameLegend after (legend_by_rows rows first)
keyed-end items rows i first after same end keyed k n =
    let S : List RowParts → Type 0 = λ l. length l ≤ i in
    keyed k n ∙ ap (λ l. legend_by_rows l first k n) (take_all i rows (subst S same end))

-- what holds anyway holds if the answer is Ok
pub on-ok : {T E : Type 0} (r : Result T E) (P : Type 0) → P → OnOk r P
on-ok (Ok t) P p = p
on-ok (Err e) P p = tt
