-- The count of a histogram is the number of its updates.
use Rattle.std.proofs.Common.{◌≡◌, ℕ, ◌+◌, ◌-◌, ◌^◌, ◌≤◌, Bool, true, false, cond, List, [], ◌∷◌, ◌++◌, length, None, Some, refl, ap, sym, ◌∙◌, arith, nat_lt}
use Rattle.std.specs.Prelude.{◌↔◌, ℤ}
use Rattle.std.specs.List.{filter_map, cons_option, AllByRecursion}
use Rattle.std.proofs.lemmas.Bool.{false≢true, ltb-false, le-ltb}
use Rattle.std.proofs.lemmas.List.{length_push}
use Rattle.metrics_names.specs.declared.kind.MetricKind.{MetricKind}
use Rattle.metrics_names.specs.declared.kind.MetricKind.TheVariants.{Counter, Gauge, Histogram}
use Rattle.metrics_names.specs.Names.{KeyParts, SeriesKey, series_key_eq}
use Rattle.metrics_names.specs.Equality.{key_exact}
use Rattle.metrics.specs.declared.debugging.DebugValue.TheVariants as value
use Rattle.metrics.specs.declared.handles.Update.{Update}
use Rattle.metrics.specs.declared.handles.Update.TheVariants.{Increment, Absolute, Add, Subtract, Set, Record}
use Rattle.metrics.specs.Book.{kind_of, value_from}
use Rattle.metrics_exporter.specs.Exporting.{Step, updated_in, checked, series_of, after_removal, update_of, since, unit_since, updates_alone, reading, cell_of, cells_after, Setup, IsFull}
use Rattle.metrics_exporter.specs.Stepping.{reading_has_room, cell_has_room}

-- ---- the updates of a series are of its kind

AllKind : MetricKind → List Update → Type 0
AllKind kind us = AllByRecursion (λ u. kind_of u ≡ kind) us

all-kind : (s : SeriesKey) (xs : List Step) → AllKind s.kind (updates_alone (filter_map (update_of s) xs))
unfolding AllKind
all-kind s [] = tt
all-kind s (checked a ∷ xs) = all-kind s xs
all-kind s (updated_in unit key u ∷ xs) = go (all-kind s xs) (series_key_eq (series_of key u) s) refl
  where
    go : AllKind s.kind (updates_alone (filter_map (update_of s) xs)) → (b : Bool) → series_key_eq (series_of key u) s ≡ b
        → AllKind s.kind (updates_alone (cons_option (cond b (Some (unit, u)) None) (filter_map (update_of s) xs)))
    go rest true e = (ap (λ (t : SeriesKey). t.kind) (key_exact (series_of key u) s e), rest)
    go rest false e = rest

-- ---- the samples

samples-of : (vs : List ℤ) (us : List Update) → AllKind Histogram us → (ws : List ℤ) × (value_from (value.Histogram vs) us ≡ value.Histogram ws) × (length ws ≡ length vs + length us)
unfolding AllKind
samples-of vs [] h = (vs, refl, omega arith)
samples-of vs (Record n ∷ us) h = let (ws, e, l) = samples-of (vs ++ n ∷ []) us h.1 in (ws, e, omega (arith, l, length_push vs n))
samples-of vs (Increment n ∷ us) h = absurd (let e : Counter ≡ Histogram = h.0 in cc)
samples-of vs (Absolute n ∷ us) h = absurd (let e : Counter ≡ Histogram = h.0 in cc)
samples-of vs (Add n ∷ us) h = absurd (let e : Gauge ≡ Histogram = h.0 in cc)
samples-of vs (Subtract n ∷ us) h = absurd (let e : Gauge ≡ Histogram = h.0 in cc)
samples-of vs (Set n ∷ us) h = absurd (let e : Gauge ≡ Histogram = h.0 in cc)

-- ---- room

histogram-room : (bounds : List ℤ) (key : KeyParts) (us : List Update) → AllKind Histogram us →
    cell_has_room (cell_of bounds (record { kind = Histogram; key = key }) us) ≡ nat_lt (length us) (2 ^ 64 - 1)
histogram-room bounds key [] h = refl
histogram-room bounds key (u ∷ us) h =
    let (ws, e, l) = samples-of [] (u ∷ us) h in
    ap (λ v. reading_has_room (reading bounds v)) e ∙ ap (λ n. nat_lt n (2 ^ 64 - 1)) (let m : 0 + length ws ≡ length (u ∷ us) = omega (arith, l) in m)

count-room : (bounds : List ℤ) (us : List Update) (n : ℕ) → reading_has_room (reading bounds (value_from (value.Counter n) us)) ≡ true
count-room bounds [] n = refl
count-room bounds (Increment m ∷ us) n = count-room bounds us _
count-room bounds (Absolute m ∷ us) n = count-room bounds us _
count-room bounds (Add m ∷ us) n = count-room bounds us n
count-room bounds (Subtract m ∷ us) n = count-room bounds us n
count-room bounds (Set m ∷ us) n = count-room bounds us n
count-room bounds (Record m ∷ us) n = count-room bounds us n

level-room : (bounds : List ℤ) (us : List Update) (n : ℤ) → reading_has_room (reading bounds (value_from (value.Gauge n) us)) ≡ true
level-room bounds [] n = refl
level-room bounds (Increment m ∷ us) n = level-room bounds us n
level-room bounds (Absolute m ∷ us) n = level-room bounds us n
level-room bounds (Add m ∷ us) n = level-room bounds us _
level-room bounds (Subtract m ∷ us) n = level-room bounds us _
level-room bounds (Set m ∷ us) n = level-room bounds us _
level-room bounds (Record m ∷ us) n = level-room bounds us n

counter-room : (bounds : List ℤ) (key : KeyParts) (us : List Update) → cell_has_room (cell_of bounds (record { kind = Counter; key = key }) us) ≡ true
counter-room bounds key [] = refl
counter-room bounds key (u ∷ us) = count-room bounds (u ∷ us) 0

gauge-room : (bounds : List ℤ) (key : KeyParts) (us : List Update) → cell_has_room (cell_of bounds (record { kind = Gauge; key = key }) us) ≡ true
gauge-room bounds key [] = refl
gauge-room bounds key (u ∷ us) = level-room bounds (u ∷ us) _

never : (b : Bool) → b ≡ true → (b ≡ false) ↔ ⊥
never b e = (λ f. false≢true (sym f ∙ e), λ h. absurd h)

-- an update finds no room exactly if it is full
pub full-cells : (setup : Setup) (xs : List Step) (key : KeyParts) (u : Update) → (cell_has_room (cells_after setup xs (series_of key u)) ≡ false) ↔ IsFull xs key u
full-cells setup xs key (Increment n) = never _ (counter-room (setup.bounds (unit_since xs (series_of key (Increment n))) key.name) key (since xs (series_of key (Increment n))))
full-cells setup xs key (Absolute n) = never _ (counter-room (setup.bounds (unit_since xs (series_of key (Absolute n))) key.name) key (since xs (series_of key (Absolute n))))
full-cells setup xs key (Add n) = never _ (gauge-room (setup.bounds (unit_since xs (series_of key (Add n))) key.name) key (since xs (series_of key (Add n))))
full-cells setup xs key (Subtract n) = never _ (gauge-room (setup.bounds (unit_since xs (series_of key (Subtract n))) key.name) key (since xs (series_of key (Subtract n))))
full-cells setup xs key (Set n) = never _ (gauge-room (setup.bounds (unit_since xs (series_of key (Set n))) key.name) key (since xs (series_of key (Set n))))
full-cells setup xs key (Record n) =
    let s : SeriesKey = series_of key (Record n) in
    let us : List Update = since xs s in
    let room : cell_has_room (cells_after setup xs s) ≡ nat_lt (length us) (2 ^ 64 - 1) = histogram-room (setup.bounds (unit_since xs s) key.name) key us (all-kind s (after_removal s xs)) in (
      λ none. let h : 2 ^ 64 - 1 ≤ length us = ltb-false (length us) (2 ^ 64 - 1) (sym room ∙ none) in let g : 2 ^ 64 ≤ length us + 1 = omega (arith, h) in g,
      λ full. room ∙ le-ltb (length us) (2 ^ 64 - 1) (let h : 2 ^ 64 ≤ length us + 1 = full in omega (arith, h)),
    )
