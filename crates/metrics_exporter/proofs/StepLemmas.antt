-- One more step of what the calls of an exporter mean.
use Rattle.std.proofs.Common.{◌≡◌, ℕ, ◌+◌, ◌*◌, ◌/◌, ◌%◌, ◌^◌, Bool, true, false, cond, not, List, [], ◌∷◌, ◌++◌, map, length, Option, None, Some, refl, ap, sym, ◌∙◌, arith, append-nil}
use Rattle.std.specs.Prelude.{ℤ, pos, ◌+ℤ◌, ◌&&◌, ◌||◌, int_le}
use Rattle.std.specs.List.{filter_map, list_any}
use Rattle.std.proofs.lemmas.Int.{ints}
use Rattle.std.proofs.lemmas.List.{length_push, map-id, map-append}
use Rattle.std.proofs.lemmas.List.Elements.{filter_map-append}
use Rattle.std.proofs.lemmas.List.Folds.{list_any-append}
use Rattle.std.proofs.Math.Nat.{mod-add-div, add-mul-mod_self_left}
use Rattle.std.proofs.lemmas.List.Sums.{sum_by-append, fold-append}
use Rattle.metrics_names.specs.declared.kind.MetricKind.{MetricKind}
use Rattle.metrics_names.specs.declared.kind.MetricKind.TheVariants.{Counter, Gauge, Histogram}
use Rattle.metrics_names.specs.declared.common.Unit.{Unit as Measure}
use Rattle.metrics_names.specs.Names.{KeyParts, SeriesKey, series_key_eq}
use Rattle.metrics_names.specs.Equality.{key_exact}
use Rattle.metrics.specs.declared.debugging.DebugValue.{DebugValue}
use Rattle.metrics.specs.declared.debugging.DebugValue.TheVariants as value
use Rattle.metrics.specs.declared.handles.Update.{Update}
use Rattle.metrics.specs.declared.handles.Update.TheVariants.{Increment, Absolute, Add, Subtract, Set, Record}
use Rattle.metrics.specs.Book.{kind_of, new_value, value_from, updated as with_update}
use Rattle.metrics_storage.specs.Histogram.{Distribution, no_samples, with_samples, bucket_with, at_most}
use Rattle.metrics_registry.specs.Idleness.{Answered}
use Rattle.metrics_exporter.specs.Exporting.{Step, updated_in, checked, series_of, series_checked, removes, after_removal, UpdateIn, update_of, since_in, updates_alone, first_unit, Reading, samples, reading, Cell, cell_of, cells_after, Setup, check_in, checks_in}
use Rattle.metrics_exporter.specs.Stepping.{reading_with, cell_with, new_reading, new_cell, or_new}

-- ---- the updates of a series

after-push : (s : SeriesKey) (xs : List Step) (x : Step) → after_removal s (xs ++ x ∷ []) ≡ cond (removes s x) [] (after_removal s xs ++ x ∷ [])
after-push s [] x = refl
after-push s (y ∷ xs) x =
    ap (λ b. cond b (after_removal s (xs ++ x ∷ [])) (cond (removes s y) (xs ++ x ∷ []) (y ∷ (xs ++ x ∷ [])))) (list_any-append (removes s) xs (x ∷ []))
    ∙ ap (λ l. cond (list_any (removes s) xs || (removes s x || false)) l (cond (removes s y) (xs ++ x ∷ []) (y ∷ (xs ++ x ∷ [])))) (after-push s xs x)
    ∙ go (list_any (removes s) xs) (removes s x) (removes s y)
  where
    go : (a b c : Bool) → cond (a || (b || false)) (cond b [] (after_removal s xs ++ x ∷ [])) (cond c (xs ++ x ∷ []) (y ∷ (xs ++ x ∷ []))) ≡ cond b [] (cond a (after_removal s xs) (cond c xs (y ∷ xs)) ++ x ∷ [])
    go true true c = refl
    go true false c = refl
    go false true c = refl
    go false false true = refl
    go false false false = refl

pub since_in-updated : (xs : List Step) (unit : Option Measure) (key : KeyParts) (u : Update) (t : SeriesKey)
    → since_in (xs ++ updated_in unit key u ∷ []) t ≡ cond (series_key_eq (series_of key u) t) (since_in xs t ++ (unit, u) ∷ []) (since_in xs t)
since_in-updated xs unit key u t =
    ap (filter_map (update_of t)) (after-push t xs (updated_in unit key u))
    ∙ (filter_map-append (update_of t) (after_removal t xs) (updated_in unit key u ∷ []) ∙ go (since_in xs t) (series_key_eq (series_of key u) t))
  where
    go : (l : List UpdateIn) (b : Bool) → l ++ filter_map (λ (_ : Step). cond b (Some (unit, u)) None) (updated_in unit key u ∷ []) ≡ cond b (l ++ (unit, u) ∷ []) l
    go l true = refl
    go l false = append-nil l

pub since_in-checked : (xs : List Step) (a : Answered KeyParts) (t : SeriesKey) → since_in (xs ++ checked a ∷ []) t ≡ cond (removes t (checked a)) [] (since_in xs t)
since_in-checked xs a t =
    ap (filter_map (update_of t)) (after-push t xs (checked a))
    ∙ elim (removes t (checked a)) as (λ b. filter_map (update_of t) (cond b [] (after_removal t xs ++ checked a ∷ [])) ≡ cond b [] (since_in xs t)) [
      | true ↦ refl
      | false ↦ filter_map-append (update_of t) (after_removal t xs) (checked a ∷ []) ∙ append-nil (since_in xs t)
    ]

alone-push : (us : List UpdateIn) (unit : Option Measure) (u : Update) → updates_alone (us ++ (unit, u) ∷ []) ≡ updates_alone us ++ u ∷ []
alone-push us unit u = map-append (λ v. v.1) us ((unit, u) ∷ [])

pub checks-updated : (xs : List Step) (unit : Option Measure) (key : KeyParts) (u : Update) → checks_in (xs ++ updated_in unit key u ∷ []) ≡ checks_in xs
checks-updated xs unit key u = filter_map-append check_in xs (updated_in unit key u ∷ []) ∙ append-nil (checks_in xs)

pub checks-checked : (xs : List Step) (a : Answered KeyParts) → checks_in (xs ++ checked a ∷ []) ≡ checks_in xs ++ a ∷ []
checks-checked xs a = filter_map-append check_in xs (checked a ∷ [])

-- ---- the value of a series

value-push : (v : DebugValue) (us : List Update) (u : Update) → value_from v (us ++ u ∷ []) ≡ with_update u (value_from v us)
value-push v [] u = refl
value-push v (w ∷ us) u = value-push (with_update w v) us u

at_most-push : (b x : ℤ) (xs : List ℤ) → at_most b (xs ++ x ∷ []) ≡ at_most b xs + at_most b (x ∷ [])
at_most-push b x xs = sum_by-append (λ y. cond (int_le y b) 1 0) xs (x ∷ [])

map-same : {A B : Type 0} (f g : A → B) (xs : List A) → ((x : A) → f x ≡ g x) → map f xs ≡ map g xs
map-same f g [] h = refl
map-same f g (x ∷ xs) h = ap (λ y. y ∷ map f xs) (h x) ∙ ap (λ ys. g x ∷ ys) (map-same f g xs h)

map-twice : {A B C : Type 0} (g : B → C) (f : A → B) (xs : List A) → map g (map f xs) ≡ map (λ x. g (f x)) xs
map-twice g f [] = refl
map-twice g f (x ∷ xs) = ap (λ ys. g (f x) ∷ ys) (map-twice g f xs)

distribution : {b c : List (ℤ × ℕ)} {m n : ℕ} {s t : ℤ} → b ≡ c → m ≡ n → s ≡ t → ◌≡◌ {A = Distribution} (record { buckets = b; count = m; sum = s }) (record { buckets = c; count = n; sum = t })
distribution e f g = λ i. record { buckets = e i; count = f i; sum = g i }

samples-push : (d : Distribution) (xs : List ℤ) (x : ℤ) → with_samples (xs ++ x ∷ []) d ≡ with_samples (x ∷ []) (with_samples xs d)
samples-push d xs x = distribution
    (map-same (bucket_with (xs ++ x ∷ [])) (λ b. bucket_with (x ∷ []) (bucket_with xs b)) d.buckets (λ b. ap (λ n. (b.0, n)) (omega (arith, at_most-push b.0 x xs)))
    ∙ sym (map-twice (bucket_with (x ∷ [])) (bucket_with xs) d.buckets))
    (omega (arith, length_push xs x))
    (ap (λ n. d.sum +ℤ n) (fold-append ◌+ℤ◌ (pos 0) xs (x ∷ [])) ∙ omega (arith, ints))

pub samples-none : (d : Distribution) → with_samples [] d ≡ d
samples-none d = distribution
    (map-same (bucket_with []) (λ b. b) d.buckets (λ b. ap (λ n. (b.0, n)) (omega arith)) ∙ map-id d.buckets)
    (omega arith)
    (omega (arith, ints))

-- a reading after an update is the reading of the value after it
reading-with : (bounds : List ℤ) (u : Update) (v : DebugValue) → reading bounds (with_update u v) ≡ reading_with u (reading bounds v)
reading-with bounds (Increment n) (value.Counter v) = refl
reading-with bounds (Absolute n) (value.Counter v) = refl
reading-with bounds (Add n) (value.Counter v) = refl
reading-with bounds (Subtract n) (value.Counter v) = refl
reading-with bounds (Set n) (value.Counter v) = refl
reading-with bounds (Record n) (value.Counter v) = refl
reading-with bounds (Increment n) (value.Gauge v) = refl
reading-with bounds (Absolute n) (value.Gauge v) = refl
reading-with bounds (Add n) (value.Gauge v) = refl
reading-with bounds (Subtract n) (value.Gauge v) = refl
reading-with bounds (Set n) (value.Gauge v) = refl
reading-with bounds (Record n) (value.Gauge v) = refl
reading-with bounds (Increment n) (value.Histogram xs) = refl
reading-with bounds (Absolute n) (value.Histogram xs) = refl
reading-with bounds (Add n) (value.Histogram xs) = refl
reading-with bounds (Subtract n) (value.Histogram xs) = refl
reading-with bounds (Set n) (value.Histogram xs) = refl
reading-with bounds (Record n) (value.Histogram xs) = ap samples (samples-push (no_samples bounds) xs n)

new-reading : (bounds : List ℤ) (kind : MetricKind) → reading bounds (new_value kind) ≡ new_reading (no_samples bounds) kind
new-reading bounds Counter = refl
new-reading bounds Gauge = refl
new-reading bounds Histogram = ap samples (samples-none (no_samples bounds))

one-more : (m n : ℕ) → (n + 1) % m ≡ (n % m + 1) % m
one-more m n =
    ap (λ k. k % m) (let e : n + 1 ≡ n % m + 1 + m * (n / m) = omega (arith, mod-add-div n m) in e)
    ∙ add-mul-mod_self_left (n % m + 1) m (n / m)

cell : {a b : Reading} {m n : ℕ} → a ≡ b → m ≡ n → ◌≡◌ {A = Cell} (record { reading = a; generation = m }) (record { reading = b; generation = n })
cell e f = λ i. record { reading = e i; generation = f i }

some-cell : (bounds : List ℤ) (s : SeriesKey) (us : List Update) (u : Update) → cell_of bounds s (us ++ u ∷ []) ≡ Some (record { reading = reading bounds (value_from (new_value s.kind) (us ++ u ∷ [])); generation = length (us ++ u ∷ []) % 2 ^ 64 })
some-cell bounds s [] u = refl
some-cell bounds s (v ∷ us) u = refl

-- one more update changes the cell, or makes it
cell-push : (bounds : List ℤ) (s : SeriesKey) (us : List Update) (u : Update) → cell_of bounds s (us ++ u ∷ []) ≡ Some (cell_with u (or_new (new_cell (no_samples bounds) s.kind) (cell_of bounds s us)))
cell-push bounds s [] u = ap Some (cell (reading-with bounds u (new_value s.kind) ∙ ap (reading_with u) (new-reading bounds s.kind)) refl)
cell-push bounds s (v ∷ us) u =
    some-cell bounds s (v ∷ us) u
    ∙ ap Some (cell
    (ap (reading bounds) (value-push (new_value s.kind) (v ∷ us) u) ∙ reading-with bounds u (value_from (new_value s.kind) (v ∷ us)))
    (ap (λ n. n % 2 ^ 64) (length_push (v ∷ us) u) ∙ one-more (2 ^ 64) (length (v ∷ us))))

-- ---- all cells

-- the cell of a series after these updates
abbrev pub cell_from : Setup → SeriesKey → List UpdateIn → Option Cell
cell_from setup s us = cell_of (setup.bounds (first_unit us) s.key.name) s (updates_alone us)

-- one more update changes the cell, or makes it in its unit
cell-from-push : (setup : Setup) (s : SeriesKey) (us : List UpdateIn) (unit : Option Measure) (u : Update)
    → cell_from setup s (us ++ (unit, u) ∷ []) ≡ Some (cell_with u (or_new (new_cell (no_samples (setup.bounds unit s.key.name)) s.kind) (cell_from setup s us)))
cell-from-push setup s [] unit u = cell-push (setup.bounds unit s.key.name) s [] u
cell-from-push setup s (v ∷ us) unit u =
    let bounds = setup.bounds v.0 s.key.name in
    ap (cell_of bounds s) (alone-push (v ∷ us) unit u) ∙ cell-push bounds s (updates_alone (v ∷ us)) u

-- an update changes the cell of its series, and no other
pub cells-updated : (setup : Setup) (xs : List Step) (unit : Option Measure) (key : KeyParts) (u : Update) (t : SeriesKey) →
    cells_after setup (xs ++ updated_in unit key u ∷ []) t
    ≡ cond (series_key_eq (series_of key u) t) (Some (cell_with u (or_new (new_cell (no_samples (setup.bounds unit key.name)) (kind_of u)) (cells_after setup xs (series_of key u))))) (cells_after setup xs t)
cells-updated setup xs unit key u t =
    ap (cell_from setup t) (since_in-updated xs unit key u t) ∙ go (series_key_eq (series_of key u) t) refl
  where
    go : (b : Bool) → series_key_eq (series_of key u) t ≡ b → cell_from setup t (cond b (since_in xs t ++ (unit, u) ∷ []) (since_in xs t))
        ≡ cond b (Some (cell_with u (or_new (new_cell (no_samples (setup.bounds unit key.name)) (kind_of u)) (cells_after setup xs (series_of key u))))) (cells_after setup xs t)
    go false e = refl
    go true e =
        ap (λ r. cell_from setup r (since_in xs r ++ (unit, u) ∷ [])) (sym (key_exact (series_of key u) t e))
        ∙ cell-from-push setup (series_of key u) (since_in xs (series_of key u)) unit u

-- a check whose result is false empties the cell of its series, and no check changes another
pub cells-checked : (setup : Setup) (xs : List Step) (a : Answered KeyParts) (t : SeriesKey) →
    cells_after setup (xs ++ checked a ∷ []) t ≡ cond (not a.answer && series_key_eq (series_checked a) t) None (cells_after setup xs t)
cells-checked setup xs a t = ap (cell_from setup t) (since_in-checked xs a t) ∙ go (series_key_eq (series_checked a) t) a.answer
  where
    go : (b c : Bool) → cell_from setup t (cond (b && not c) [] (since_in xs t)) ≡ cond (not c && b) None (cells_after setup xs t)
    go true true = refl
    go true false = refl
    go false true = refl
    go false false = refl
