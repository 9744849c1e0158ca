-- What an exporter keeps after one more call.
use Rattle.std.proofs.Common.{◌≡◌, Bool, true, false, cond, List, [], ◌∷◌, ◌++◌, Option, None, Some, Result, Ok, Err, IfErr, OnOk, refl, ap, sym, ◌∙◌, subst, reverse, append-nil}
use Rattle.std.specs.Prelude.{◌↔◌, option_map}
use Rattle.std.proofs.lemmas.Grind.{flat_map-append}
use Rattle.std.proofs.lemmas.List.{reverse-append}
use Rattle.metrics_names.specs.declared.kind.MetricKind.{MetricKind}
use Rattle.metrics_names.specs.declared.kind.MetricKind.TheVariants.{Counter, Gauge, Histogram}
use Rattle.metrics_names.specs.declared.common.Unit.{Unit as Measure}
use Rattle.metrics_names.specs.Names.{KeyParts, key_eq, series_key_eq}
use Rattle.metrics.specs.declared.error.Error.{Error}
use Rattle.metrics.specs.declared.error.Error.TheVariants.{Memory, CountFull}
use Rattle.std.proofs.lemmas.Bool.{false≢true}
use Rattle.metrics_exporter.proofs.FullLemmas.{full-cells}
use Rattle.metrics.specs.declared.handles.Update.{Update}
use Rattle.metrics.specs.declared.handles.Update.TheVariants.{Increment, Absolute, Add, Subtract, Set, Record}
use Rattle.metrics.specs.Book.{kind_of}
use Rattle.metrics_storage.specs.Histogram.{no_samples}
use Rattle.metrics_registry.specs.Held.{held}
use Rattle.metrics_registry.specs.Recency.{Rules, Check, Table, new_table, table_answer, table_after, table_answers}
use Rattle.metrics_registry.specs.RecencyEntries.{rules_of, table_of}
use Rattle.metrics_registry.specs.Idleness.{Answered, run_answer, run_answers, TableGivesRuns}
use Rattle.metrics_exporter.specs.declared.exporter.Exporter.{Exporter}
use Rattle.metrics_exporter.specs.Exporting.{Setup, Event, updates_in, Log, Step, updated_in, steps, steps_of, series_of, count, level, samples, Cells, IsFull, cells_after}
use Rattle.metrics_exporter.specs.Stepping.{cell_has_room, TakesUpdate, RefusesUpdate, UpdatesCells, cell_with, or_new, new_cell}
use Rattle.metrics_exporter.specs.Choice.{bounds_in}
use Rattle.metrics_exporter.specs.Kept.{SeriesRegistry, cells_of, empty_in, HasBounds, AnswersAfter, Keeps, IsAfter}
use Rattle.metrics_exporter.specs.Gathering.{cell_in}
use Rattle.metrics_descriptions.specs.Legends.{Legend}
use Rattle.metrics_exporter.specs.Describing.{unit_told}
use Rattle.metrics_exporter.proofs.StepLemmas.{cells-updated, checks-updated}

-- ---- the calls as steps

pub steps-push : (log : Log) (e : Event) → steps (log ++ e ∷ []) ≡ steps log ++ steps_of e
steps-push log e = flat_map-append steps_of log (e ∷ []) ∙ ap (λ l. steps log ++ l) (append-nil (steps_of e))

-- ---- a new exporter

pub new-keeps : (setup : Setup) (e : Exporter) → HasBounds e.registry setup → rules_of e.recency ≡ setup.rules
    → e.registry.counters ≡ [] → e.registry.gauges ≡ [] → e.registry.histograms ≡ []
    → ((kind : MetricKind) (key : KeyParts) → table_of key_eq e.recency kind key ≡ new_table kind key) → TableGivesRuns key_eq → Keeps setup [] e
new-keeps setup e bounds rules counters gauges histograms notes law = record {
  bounds = bounds;
  rules = rules;
  cells = λ s. cells s.kind s.key;
  checks = λ checks. ap (λ t. table_answers key_eq setup.rules t checks) (λ i kind key. notes kind key i) ∙ law setup.rules checks;
}
  where
    cells : (kind : MetricKind) (key : KeyParts) → cells_of e.registry (record { kind = kind; key = key }) ≡ None
    cells Counter key = ap (λ es. option_map (cell_in count) (held key_eq es key)) counters
    cells Gauge key = ap (λ es. option_map (cell_in level) (held key_eq es key)) gauges
    cells Histogram key = ap (λ es. option_map (cell_in samples) (held key_eq es key)) histograms

-- ---- an exporter that did not change

pub keeps-same : (setup : Setup) (xs : List Step) (a b : Exporter) → b.registry ≡ a.registry → rules_of b.recency ≡ rules_of a.recency
    → ((kind : MetricKind) (key : KeyParts) → table_of key_eq b.recency kind key ≡ table_of key_eq a.recency kind key) → Keeps setup xs a → Keeps setup xs b
keeps-same setup xs a b registry rules notes kept = record {
  bounds = λ unit name. ap (λ (r : SeriesRegistry). bounds_in r.storage.bounds unit name) registry ∙ kept.bounds unit name;
  rules = rules ∙ kept.rules;
  cells = λ s. ap (λ r. cells_of r s) registry ∙ kept.cells s;
  checks = λ checks. ap (λ t. table_answers key_eq setup.rules t checks) (λ i kind key. notes kind key i) ∙ kept.checks checks;
}

-- ---- an update

pub keeps-updated : (setup : Setup) (xs : List Step) (a b : Exporter) (unit : Option Measure) (key : KeyParts) (u : Update) → b.registry.storage ≡ a.registry.storage → b.recency ≡ a.recency
    → UpdatesCells (empty_in a.registry unit key.name) (series_of key u) u (cells_of a.registry) (cells_of b.registry) → Keeps setup xs a → Keeps setup (xs ++ updated_in unit key u ∷ []) b
keeps-updated setup xs a b unit key u storage recency changed kept = record {
  bounds = λ unit name. ap (λ s. bounds_in s.bounds unit name) storage ∙ kept.bounds unit name;
  rules = ap rules_of recency ∙ kept.rules;
  cells = λ t.
      let s = series_of key u in
      changed t
      ∙ ap (λ o. cond (series_key_eq s t) o (cells_of a.registry t))
      (ap (λ bounds. Some (cell_with u (or_new (new_cell (no_samples bounds) (kind_of u)) (cells_of a.registry s)))) (kept.bounds unit key.name)
      ∙ ap (λ o. Some (cell_with u (or_new (new_cell (no_samples (setup.bounds unit key.name)) (kind_of u)) o))) (kept.cells s))
      ∙ ap (λ o. cond (series_key_eq s t) (Some (cell_with u (or_new (new_cell (no_samples (setup.bounds unit key.name)) (kind_of u)) (cells_after setup xs s)))) o) (kept.cells t)
      ∙ sym (cells-updated setup xs unit key u t);
  checks = λ checks.
      ap (λ r. table_answers key_eq setup.rules (table_of key_eq r) checks) recency ∙ kept.checks checks
      ∙ ap (λ answered. run_answers key_eq setup.rules (reverse answered) checks) (sym (checks-updated xs unit key u));
}

-- ---- a check

pub err_inside : {x y : Error} → ◌≡◌ {A = Result (Unit {0}) Error} (Err x) (Err y) → x ≡ y
err_inside {x} h = ap (λ (r : Result (Unit {0}) Error). elim r as (λ _. Error) [ Ok _ ↦ x | Err e ↦ e ]) h

head_or : {A : Type 0} → A → List A → A
head_or d [] = d
head_or d (x ∷ xs) = x

tail_of : {A : Type 0} → List A → List A
tail_of [] = []
tail_of (x ∷ xs) = xs

-- one more check is answered as idleness is defined
pub answers-more : (rules : Rules) (table : Table KeyParts) (done : List (Answered KeyParts)) (c : Check KeyParts) → AnswersAfter rules table done
    → AnswersAfter rules (table_after key_eq rules c table) (done ++ record { check = c; answer = table_answer rules c table } ∷ [])
unfolding head_or tail_of
answers-more rules table done c after = λ checks.
    let one : table_answer rules c table ≡ run_answer key_eq rules (reverse done) c = ap (head_or true) (after (c ∷ checks)) in
    let rest : table_answers key_eq rules (table_after key_eq rules c table) checks ≡ run_answers key_eq rules (record { check = c; answer = run_answer key_eq rules (reverse done) c } ∷ reverse done) checks =
    ap tail_of (after (c ∷ checks)) in
    rest ∙ ap (λ b. run_answers key_eq rules (record { check = c; answer = b } ∷ reverse done) checks) (sym one)
    ∙ ap (λ l. run_answers key_eq rules l checks) (sym (reverse-append done (record { check = c; answer = table_answer rules c table } ∷ [])))

-- ---- the calls

abbrev pub Done : Type 0
Done = Result (Unit {0}) Error

-- after an update, whatever it was answered
pub update-after : (setup : Setup) (log : Log) (a b : Exporter) (unit : Option Measure) (key : KeyParts) (u : Update) (r : Done)
    → OnOk r (UpdatesCells (empty_in a.registry unit key.name) (series_of key u) u (cells_of a.registry) (cells_of b.registry))
    → IfErr r (λ e. RefusesUpdate (cells_of a.registry (series_of key u)) e × (b.registry ≡ a.registry))
    → b.registry.storage ≡ a.registry.storage → b.recency ≡ a.recency → IsAfter setup log a → IsAfter setup (log ++ updates_in unit key u r ∷ []) b
update-after setup log a b unit key u (Ok done) changed refused storage recency after =
    let P : List Step → Type 0 = λ xs. Keeps setup xs b in
    subst P (sym (steps-push log (updates_in unit key u (Ok done)))) (keeps-updated setup (steps log) a b unit key u storage recency changed after)
update-after setup log a b unit key u (Err e) changed refused storage recency after =
    let P : List Step → Type 0 = λ xs. Keeps setup xs b in
    subst P (sym (steps-push log (updates_in unit key u (Err e)) ∙ append-nil (steps log)))
    (keeps-same setup (steps log) a b refused.1 (ap rules_of recency) (λ kind q. ap (λ n. table_of key_eq n kind q) recency) after)

-- the unit of a name's description matters to histograms alone
pub new-told : (legend : Legend) (r : SeriesRegistry) (key : KeyParts) (u : Update)
    → new_cell (empty_in r (legend Histogram key.name).unit key.name) (kind_of u) ≡ new_cell (empty_in r (unit_told legend key u) key.name) (kind_of u)
new-told legend r key (Increment n) = refl
new-told legend r key (Absolute n) = refl
new-told legend r key (Add n) = refl
new-told legend r key (Subtract n) = refl
new-told legend r key (Set n) = refl
new-told legend r key (Record n) = refl

pub updates-told : (legend : Legend) (r : SeriesRegistry) (key : KeyParts) (u : Update) (old new : Cells) (result : Done)
    → OnOk result (UpdatesCells (empty_in r (legend Histogram key.name).unit key.name) (series_of key u) u old new)
    → OnOk result (UpdatesCells (empty_in r (unit_told legend key u) key.name) (series_of key u) u old new)
updates-told legend r key u old new (Err e) h = h
updates-told legend r key u old new (Ok done) h = λ t.
    h t ∙ ap (λ fresh. cond (series_key_eq (series_of key u) t) (Some (cell_with u (or_new fresh (old (series_of key u))))) (old t)) (new-told legend r key u)

-- an update fails as full exactly if a sample finds no room
pub update-full : (setup : Setup) (log : Log) (a : Exporter) (key : KeyParts) (u : Update) (r : Done) (P : Error → Type 0)
    → OnOk r (TakesUpdate (cells_of a.registry (series_of key u)))
    → IfErr r (λ e. RefusesUpdate (cells_of a.registry (series_of key u)) e × P e)
    → IsAfter setup log a → (r ≡ Err CountFull) ↔ IsFull (steps log) key u
update-full setup log a key u r P taken refused after = go r taken refused (cell_has_room (cells_of a.registry (series_of key u))) refl
  where
    same : cell_has_room (cells_of a.registry (series_of key u)) ≡ cell_has_room (cells_after setup (steps log) (series_of key u))
    same = ap cell_has_room (after.cells (series_of key u))

    from-full : IsFull (steps log) key u → cell_has_room (cells_of a.registry (series_of key u)) ≡ false
    from-full full = same ∙ (full-cells setup (steps log) key u).1 full

    go : (q : Done) → OnOk q (TakesUpdate (cells_of a.registry (series_of key u))) → IfErr q (λ e. RefusesUpdate (cells_of a.registry (series_of key u)) e × P e)
        → (b : Bool) → cell_has_room (cells_of a.registry (series_of key u)) ≡ b → (q ≡ Err CountFull) ↔ IsFull (steps log) key u
    go (Ok done) t f b e = (λ h. absurd (let g : Ok done ≡ Err CountFull = h in cc), λ full. absurd (false≢true (sym (from-full full) ∙ t)))
    go (Err x) t f true e = (
      λ h. absurd (let g : x ≡ CountFull = err_inside h in let k : x ≡ Memory = f.0 ∙ ap (λ c. cond c Memory CountFull) e in let m : Memory ≡ CountFull = sym k ∙ g in cc),
      λ full. absurd (false≢true (sym (from-full full) ∙ e)),
    )
    go (Err x) t f false e = (
      λ h. (full-cells setup (steps log) key u).0 (sym same ∙ e),
      λ full. ap Err (f.0 ∙ ap (λ c. cond c Memory CountFull) e),
    )
