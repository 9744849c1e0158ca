-- The checks of one expiry are those in composite key order; and the text.
use Rattle.std.proofs.Common.{◌≡◌, ◌≢◌, ℕ, suc, ◌+◌, ◌<◌, Bool, true, false, cond, not, List, [], ◌∷◌, ◌++◌, map, take, length, get_or, Option, None, Some, Result, Ok, Err, refl, ap, sym, ◌∙◌, subst, arith, append_assoc, append-nil}
use Rattle.std.specs.Prelude.{◌&&◌, ◌||◌, is_some}
use Rattle.std.specs.List.{IsDistinct, AllByRecursion, filter}
use Rattle.std.specs.Result.{IsErrAnd}
use Rattle.std.specs.Cmp.{IsTotalOrder}
use Rattle.std.specs.Ordering.{eq_by_cmp}
use Rattle.std.proofs.lemmas.Bool.{false≢true}
use Rattle.std.proofs.lemmas.List.{take_more}
use Rattle.std.proofs.lemmas.List.Folds.{list_any_more}
use Rattle.std.proofs.lemmas.List.Kept.{AllPairs-filter}
use Rattle.std.proofs.lemmas.List.Sums.{length-filter}
use Rattle.std.proofs.lemmas.Grind.{flat_map-append}
use Rattle.std.proofs.lemmas.Map.Keys.{IsDistinct-head, IsDistinct-tail, IsDistinct-from_sorted}
use Rattle.std.proofs.lemmas.Map.Made.{is_member-Decides, is_member-filter, length-from_same_keys, AllPairs-from_IsDistinct, IsDistinct-from_AllPairs}
use Rattle.metrics_names.specs.Names.{KeyParts, SeriesKey, key_eq, series_key_eq, series_key_cmp}
use Rattle.metrics_names.specs.Equality.{key_exact, series_key_eq-Decides}
use Rattle.metrics.specs.declared.error.Error.{Error}
use Rattle.metrics.specs.declared.error.Error.TheVariants.{Memory}
use Rattle.metrics_registry.specs.declared.recency.Noted.{Noted}
use Rattle.metrics_registry.specs.Recency.{Rules, Check, Table, noted_now, watch_step, check_step, table_answer, table_after, table_answers}
use Rattle.metrics_registry.specs.RecencyEntries.{rules_of, table_of}
use Rattle.metrics_registry.specs.Idleness.{Answered}
use Rattle.metrics_exporter.specs.declared.exporter.Exporter.{Exporter}
use Rattle.metrics_exporter.specs.Exporting.{Setup, Log, Step, checked, expires, steps, checks_in, Cell, Cells, cells_after, AreSeries, IsHeldNumber, check_of_held, checks_of, answers_of, removed_by, IsExpiry}
use Rattle.metrics_exporter.specs.ExporterText.{series_line, series_text, IsText}
use Rattle.metrics_exporter.specs.Gathering.{series_at}
use Rattle.metrics_exporter.specs.Stepping.{is_among, cells_without, AreChecked}
use Rattle.metrics_exporter.specs.Kept.{cells_of, held_cells, KeepsSetting, AnswersAfter, Keeps, IsAfter}
use Rattle.metrics_exporter.specs.Choice.{bounds_in}
use Rattle.metrics_exporter.proofs.KeptLemmas.{steps-push, keeps-same, answers-more}
use Rattle.metrics_exporter.proofs.LawLemmas.{some-order, have-first}
use Rattle.metrics_exporter.proofs.SortedLemmas.{flips, key_laws, none-distinct}
use Rattle.metrics_exporter.proofs.StepLemmas.{cells-checked, checks-checked}

-- ---- one check after another

-- these cells and notes are the result of these steps
record Means (setup : Setup) (xs : List Step) (cells : Cells) (table : Table KeyParts) : Type 0 where
  pub held : (s : SeriesKey) → cells s ≡ cells_after setup xs s
  pub checks : AnswersAfter setup.rules table (checks_in xs)

or_true : (d : Bool) → (d || true) ≡ true
or_true true = refl
or_true false = refl

or_false : (d : Bool) → (d || false) ≡ d
or_false true = refl
or_false false = refl

or_or : (a b c : Bool) → ((a || b) || c) ≡ (a || (b || c))
or_or true b c = refl
or_or false b c = refl

-- of distinct keys, checked one after another, each answer is by the notes from before all
module _ (setup : Setup) (now : ℕ) (cells : Cells) (table : Table KeyParts) where
  abbrev check : SeriesKey → Check KeyParts
  check s = check_of_held cells now s

  abbrev step : SeriesKey → Bool × Option Noted
  step s = check_step setup.rules (check s) (table s.kind s.key)

  abbrev answered : SeriesKey → Answered KeyParts
  answered s = record { check = check s; answer = (step s).0 }

  -- what is left once some were checked
  abbrev cells_so : (SeriesKey → Bool) → Cells
  cells_so done t = cond (done t && not (step t).0) None (cells t)

  abbrev notes_so : (SeriesKey → Bool) → Table KeyParts
  notes_so done kind key = cond (done (series_at kind key)) (step (series_at kind key)).1 (table kind key)

  abbrev with : SeriesKey → (SeriesKey → Bool) → SeriesKey → Bool
  with s done t = done t || series_key_eq t s

  same-step : (done : SeriesKey → Bool) (s : SeriesKey) → done s ≡ false → check_step setup.rules (check s) (notes_so done s.kind s.key) ≡ step s
  same-step done s new = ap (λ b. check_step setup.rules (check s) (cond b (step s).1 (table s.kind s.key))) new

  notes-more : (done : SeriesKey → Bool) (s : SeriesKey) → done s ≡ false → table_after key_eq setup.rules (check s) (notes_so done) ≡ notes_so (with s done)
  notes-more done s new = λ i kind key. go (series_at kind key) (series_key_eq s (series_at kind key)) refl i
    where
      go : (t : SeriesKey) (e : Bool) → series_key_eq s t ≡ e
          → cond e (check_step setup.rules (check s) (notes_so done s.kind s.key)).1 (notes_so done t.kind t.key) ≡ cond (done t || series_key_eq t s) (step t).1 (table t.kind t.key)
      go t true is =
          ap (λ p. p.1) (same-step done s new) ∙ ap (λ k. (step k).1) (key_exact s t is)
          ∙ sym (ap (λ b. cond b (step t).1 (table t.kind t.key)) (ap (λ b. done t || b) (flips t s ∙ is) ∙ or_true (done t)))
      go t false is = sym (ap (λ b. cond b (step t).1 (table t.kind t.key)) (ap (λ b. done t || b) (flips t s ∙ is) ∙ or_false (done t)))

  cells-more : (done : SeriesKey → Bool) (s t : SeriesKey) → done s ≡ false → cells_so (with s done) t ≡ cond (not (step s).0 && series_key_eq s t) None (cells_so done t)
  cells-more done s t new = ap (λ e. cond ((done t || e) && not (step t).0) None (cells t)) (flips t s) ∙ go (series_key_eq s t) (done t) (not (step t).0) (not (step s).0) (λ is. (ap done (sym (key_exact s t is)) ∙ new, ap (λ k. not (step k).0) (sym (key_exact s t is))))
    where
      go : (e d p q : Bool) → (e ≡ true → (d ≡ false) × (p ≡ q)) → cond ((d || e) && p) None (cells t) ≡ cond (q && e) None (cond (d && p) None (cells t))
      go true true p q h = absurd (false≢true (sym (h refl).0))
      go true false p true h = ap (λ b. cond b None (cells t)) (h refl).1
      go true false p false h = ap (λ b. cond b None (cells t)) (h refl).1
      go false true p true h = refl
      go false true p false h = refl
      go false false p true h = refl
      go false false p false h = refl

  one-more : (xs : List Step) (done : SeriesKey → Bool) (s : SeriesKey) → done s ≡ false → Means setup xs (cells_so done) (notes_so done)
      → Means setup (xs ++ checked (answered s) ∷ []) (cells_so (with s done)) (notes_so (with s done))
  one-more xs done s new was =
      let P : List (Answered KeyParts) → Type 0 = AnswersAfter setup.rules (notes_so (with s done)) in
      let Q : Table KeyParts × Bool → Type 0 = λ p. AnswersAfter setup.rules p.0 (checks_in xs ++ record { check = check s; answer = p.1 } ∷ []) in
      record {
        held = λ t. cells-more done s t new ∙ ap (cond (not (step s).0 && series_key_eq s t) None) (was.held t) ∙ sym (cells-checked setup xs (answered s) t);
        checks = subst P (sym (checks-checked xs (answered s)))
            (subst Q (λ i. (notes-more done s new i, (same-step done s new i).0)) (answers-more setup.rules (notes_so done) (checks_in xs) (check s) was.checks));
      }

  apart-more : (done : SeriesKey → Bool) (s : SeriesKey) (keys : List SeriesKey) → AllByRecursion (λ k. done k ≡ false) keys → AllByRecursion (λ k. series_key_eq s k ≡ false) keys → AllByRecursion (λ k. with s done k ≡ false) keys
  apart-more done s [] h g = tt
  apart-more done s (k ∷ keys) h g = (ap (λ b. b || series_key_eq k s) h.0 ∙ flips k s ∙ g.0, apart-more done s keys h.1 g.1)

  all-more : (xs : List Step) (done : SeriesKey → Bool) (keys : List SeriesKey) → IsDistinct series_key_eq keys → AllByRecursion (λ k. done k ≡ false) keys → Means setup xs (cells_so done) (notes_so done)
      → Means setup (xs ++ map checked (map answered keys)) (cells_so (λ t. done t || is_among keys t)) (notes_so (λ t. done t || is_among keys t))
  all-more xs done [] once new was =
      let P : List Step × (SeriesKey → Bool) → Type 0 = λ p. Means setup p.0 (cells_so p.1) (notes_so p.1) in
      subst P (λ i. (sym (append-nil xs) i, λ t. sym (or_false (done t)) i)) was
  all-more xs done (s ∷ keys) once new was =
      let P : List Step × (SeriesKey → Bool) → Type 0 = λ p. Means setup p.0 (cells_so p.1) (notes_so p.1) in
      subst P (λ i. (append_assoc xs (checked (answered s) ∷ []) (map checked (map answered keys)) i, λ t. or_or (done t) (series_key_eq t s) (is_among keys t) i))
      (all-more (xs ++ checked (answered s) ∷ []) (with s done) keys (IsDistinct-tail series_key_eq s keys once) (apart-more done s keys new.1 (IsDistinct-head series_key_eq s keys once)) (one-more xs done s new.0 was))

  answers-all : (done : SeriesKey → Bool) (keys : List SeriesKey) → IsDistinct series_key_eq keys → AllByRecursion (λ k. done k ≡ false) keys
      → answers_of (map answered keys) ≡ table_answers key_eq setup.rules (notes_so done) (checks_of (map answered keys))
  answers-all done [] once new = refl
  answers-all done (s ∷ keys) once new =
      ap (λ l. (step s).0 ∷ l) (answers-all (with s done) keys (IsDistinct-tail series_key_eq s keys once) (apart-more done s keys new.1 (IsDistinct-head series_key_eq s keys once)))
      ∙ (λ i. (sym (same-step done s new.0) i).0 ∷ table_answers key_eq setup.rules (sym (notes-more done s new.0) i) (checks_of (map answered keys)))

  none-done : (keys : List SeriesKey) → AllByRecursion (λ k. false ≡ false) keys
  none-done [] = tt
  none-done (k ∷ keys) = (refl, none-done keys)

  checks-all : (keys : List SeriesKey) → checks_of (map answered keys) ≡ map check keys
  checks-all [] = refl
  checks-all (s ∷ keys) = ap (λ l. check s ∷ l) (checks-all keys)

  removed-all : (keys : List SeriesKey) → length (filter (λ s. not (step s).0) keys) ≡ removed_by (map answered keys)
  removed-all keys = same keys ∙ length-filter (λ (a : Answered KeyParts). not a.answer) (map answered keys)
    where
      go : (b : Bool) (s : SeriesKey) (ks : List SeriesKey) (xs : List (Answered KeyParts)) → length ks ≡ length xs → length (cond b (s ∷ ks) ks) ≡ length (cond b (answered s ∷ xs) xs)
      go true s ks xs h = ap suc h
      go false s ks xs h = h

      same : (ks : List SeriesKey) → length (filter (λ s. not (step s).0) ks) ≡ length (filter (λ (a : Answered KeyParts). not a.answer) (map answered ks))
      same [] = refl
      same (s ∷ ks) = go (not (step s).0) s (filter (λ k. not (step k).0) ks) (filter (λ (a : Answered KeyParts). not a.answer) (map answered ks)) (same ks)

-- ---- an expiry

module _ (total : IsTotalOrder series_key_cmp) (ties : (a b : SeriesKey) → series_key_eq a b ≡ eq_by_cmp series_key_cmp a b) where
  distinct : (cells : Cells) (keys : List SeriesKey) → AreSeries cells keys → IsDistinct series_key_eq keys
  distinct cells keys series =
      let P : (SeriesKey → SeriesKey → Bool) → Type 0 = λ e. IsDistinct e keys in
      subst P (λ i a b. sym (ties a b) i) (IsDistinct-from_sorted series_key_cmp keys series.ascending)

  among : (cells : Cells) (keys : List SeriesKey) → AreSeries cells keys → (s : SeriesKey) → is_among keys s ≡ is_some (cells s)
  among cells keys series s = go (is_among keys s) (is_some (cells s)) (λ e. (series.held s).0 ((is_member-Decides series_key_eq-Decides keys s).0 e)) (λ e. (is_member-Decides series_key_eq-Decides keys s).1 ((series.held s).1 e))
    where
      go : (a b : Bool) → (a ≡ true → b ≡ true) → (b ≡ true → a ≡ true) → a ≡ b
      go true b to from = sym (to refl)
      go false true to from = from refl
      go false false to from = refl

  pub expired : (now : ℕ) (a f : Exporter) (idle : List SeriesKey) (n count : ℕ) → IsHeldNumber (held_cells a) n → count ≡ length idle
      → AreChecked (rules_of a.recency) now (held_cells a) (table_of key_eq a.recency) (table_of key_eq f.recency) idle
      → KeepsSetting a.registry f.registry → rules_of f.recency ≡ rules_of a.recency → ((s : SeriesKey) → held_cells f s ≡ cells_without idle (held_cells a) s)
      → (setup : Setup) (log : Log) → IsAfter setup log a → (checks : List (Answered KeyParts)) × IsExpiry setup (steps log) now checks (Ok count) × IsAfter setup (log ++ expires now checks (Ok count) ∷ []) f
  expired now a f idle n count held number found setting rules left setup log after =
      let cells = held_cells a in
      let table = table_of key_eq a.recency in
      let keys = (some-order total ties cells n held).0 in
      let series = (some-order total ties cells n held).1 in
      let once = distinct cells keys series in
      let C : Rules → Type 0 = λ q. AreChecked q now cells table (table_of key_eq f.recency) idle in
      let made : C setup.rules = subst C after.rules found in
      let is_gone : SeriesKey → Bool = λ s. not (table_answer setup.rules (check_of_held cells now s) table) in
      let checks : List (Answered KeyParts) = map (answered setup now cells table) keys in
      let means = all-more setup now cells table (steps log) (λ t. false) keys once (none-done setup now cells table keys) (record { held = after.cells; checks = after.checks }) in
      let P : Cells → List SeriesKey → Type 0 = λ c ks. AreSeries c ks in
      let same : cells ≡ cells_after setup (steps log) = λ i s. after.cells s i in
      let gone : length idle ≡ length (filter is_gone keys) =
      length-from_same_keys key_laws idle (filter is_gone keys) made.once
      (IsDistinct-from_AllPairs series_key_eq-Decides (filter is_gone keys) (AllPairs-filter (λ x y. x ≢ y) is_gone keys (AllPairs-from_IsDistinct series_key_eq-Decides keys once)))
      (λ s. made.found s ∙ sym (is_member-filter key_laws is_gone s (λ x e. ap is_gone (key_exact s x e)) keys ∙ ap (λ b. b && is_gone s) (among cells keys series s))) in
      let K : List Step → Type 0 = λ ys. Keeps setup ys f in (
        checks,
        record {
          answers = answers-all setup now cells table (λ t. false) keys once (none-done setup now cells table keys) ∙ after.checks (checks_of checks);
          ended = (
            (keys, subst (λ c. P c keys) same series, checks-all setup now cells table keys ∙ ap (λ c. map (check_of_held c now) keys) same),
            number ∙ gone ∙ removed-all setup now cells table keys,
          );
        },
        subst K (sym (steps-push log (expires now checks (Ok count)))) (record {
          bounds = λ unit name. ap (λ s. bounds_in s.bounds unit name) setting.0 ∙ after.bounds unit name;
          rules = rules ∙ after.rules;
          cells = λ s. left s ∙ ap (λ b. cond b None (cells s)) (made.found s ∙ ap (λ b. b && is_gone s) (sym (among cells keys series s))) ∙ means.held s;
          checks = subst (λ t. AnswersAfter setup.rules t (checks_in (steps log ++ map checked checks)))
              (λ i kind key. let s = series_at kind key in sym (made.notes s ∙ ap (λ b. cond b (check_step setup.rules (check_of_held cells now s) (table kind key)).1 (table kind key)) (sym (among cells keys series s))) i)
              means.checks;
        }),
      )

  -- an expiry that was refused made no check
  pub refused : (now : ℕ) (a f : Exporter) (n : ℕ) → IsHeldNumber (held_cells a) n → 0 < n → f.registry ≡ a.registry → rules_of f.recency ≡ rules_of a.recency → table_of key_eq f.recency ≡ table_of key_eq a.recency
      → (setup : Setup) (log : Log) → IsAfter setup log a → (checks : List (Answered KeyParts)) × IsExpiry setup (steps log) now checks (Err Memory) × IsAfter setup (log ++ expires now checks (Err Memory) ∷ []) f
  refused now a f n held some registry rules notes setup log after =
      let order = have-first total ties (held_cells a) n held some in
      let F : SeriesKey → Check KeyParts = check_of_held (cells_after setup (steps log)) now in
      let P : Cells → Type 0 = λ c. AreSeries c (order.0 ∷ order.1) in
      let K : List Step → Type 0 = λ ys. Keeps setup ys f in (
        [],
        record { answers = refl; ended = ((order.0 ∷ order.1, F order.0, map F order.1, subst P (λ i s. after.cells s i) order.2, refl), refl) },
        subst K (sym (steps-push log (expires now [] (Err Memory)) ∙ append-nil (steps log)))
            (keeps-same setup (steps log) a f registry rules (λ kind key. ap (λ (t : Table KeyParts). t kind key) notes) after),
      )

-- without a timeout, or if none is held, no check finds or notes anything
quiet : (rules : Rules) (now : ℕ) (cells : Cells) (table : Table KeyParts)
    → ((s : SeriesKey) → cond (is_some (cells s)) (check_step rules (check_of_held cells now s) (table s.kind s.key)) (true, table s.kind s.key) ≡ (true, table s.kind s.key)) → AreChecked rules now cells table table []
quiet rules now cells table same = record {
  once = none-distinct;
  found = λ s. go (is_some (cells s)) (check_step rules (check_of_held cells now s) (table s.kind s.key)) (table s.kind s.key) (same s);
  notes = λ s. sym (into (is_some (cells s)) (check_step rules (check_of_held cells now s) (table s.kind s.key)) (table s.kind s.key) ∙ ap (λ p. p.1) (same s));
}
  where
    go : (b : Bool) (p : Bool × Option Noted) (o : Option Noted) → cond b p (true, o) ≡ (true, o) → false ≡ (b && not p.0)
    go true p o h = sym (ap (λ q. not q.0) h)
    go false p o h = refl

    into : (b : Bool) (p : Bool × Option Noted) (o : Option Noted) → cond b p.1 o ≡ (cond b p (true, o)).1
    into true p o = refl
    into false p o = refl

pub unwatched : (rules : Rules) (now : ℕ) (cells : Cells) (table : Table KeyParts) → is_some rules.timeout ≡ false → AreChecked rules now cells table table []
unwatched rules now cells table none = quiet rules now cells table (λ s. go (is_some (cells s)) (check_of_held cells now s) (table s.kind s.key))
  where
    go : (b : Bool) (c : Check KeyParts) (o : Option Noted) → cond b (check_step rules c o) (true, o) ≡ (true, o)
    go true c o = ap (λ w. cond (w && rules.mask c.kind) (watch_step rules.timeout (noted_now c) c.held o) (true, o)) none
    go false c o = refl

pub none-held : (rules : Rules) (now : ℕ) (cells : Cells) (table : Table KeyParts) (n : ℕ) → IsHeldNumber cells n → n ≡ 0 → AreChecked rules now cells table table []
none-held rules now cells table n held none = quiet rules now cells table (λ s. ap (λ b. cond b (check_step rules (check_of_held cells now s) (table s.kind s.key)) (true, table s.kind s.key)) (go s (cells s) refl))
  where
    go : (s : SeriesKey) (o : Option Cell) → cells s ≡ o → is_some o ≡ false
    go s None e = refl
    go s (Some c) e = absurd (let there = (held.held s).1 (ap is_some e) in omega (arith, there.1, held.number, none))

-- what `?` passes through
pub err-result : (r : Result ℕ Error) (x : Error) → IsErrAnd r (λ y. y ≡ x) → r ≡ Err x
err-result (Ok n) x h = absurd h
err-result (Err y) x h = ap Err h

-- ---- series that are removed one after another

-- one more was removed
pub among-next : (gone : List SeriesKey) (i : ℕ) (s t : SeriesKey) → i < length gone → s ≡ get_or gone i s → is_among (take (i + 1) gone) t ≡ (is_among (take i gone) t || series_key_eq s t)
among-next gone i s t small at = list_any_more (series_key_eq t) gone i s small ∙ ap (λ x. is_among (take i gone) t || series_key_eq t x) (sym at) ∙ ap (λ b. is_among (take i gone) t || b) (flips t s)

pub removed-next : {A : Type 0} (gone : List SeriesKey) (i : ℕ) (s t : SeriesKey) (was old new : Option A) → i < length gone → s ≡ get_or gone i s
    → old ≡ cond (is_among (take i gone) t) None was → new ≡ cond (series_key_eq s t) None old → new ≡ cond (is_among (take (i + 1) gone) t) None was
removed-next gone i s t was old new small at so now =
    now ∙ ap (cond (series_key_eq s t) None) so ∙ either (is_among (take i gone) t) (series_key_eq s t)
    ∙ ap (λ b. cond b None was) (sym (among-next gone i s t small at))
  where
    either : (x y : Bool) → cond y None (cond x None was) ≡ cond (x || y) None was
    either true true = refl
    either true false = refl
    either false true = refl
    either false false = refl

-- ---- the text

pub text-more : (cells : Cells) (keys : List SeriesKey) (index : ℕ) (s : SeriesKey) → index < length keys → s ≡ get_or keys index s → series_text cells (take (index + 1) keys) ≡ series_text cells (take index keys) ++ series_line s (cells s)
text-more cells keys index s small at =
    ap (series_text cells) (take_more keys index s small)
    ∙ flat_map-append (λ t. series_line t (cells t)) (take index keys) (get_or keys index s ∷ [])
    ∙ ap (λ l. series_text cells (take index keys) ++ l) (append-nil (series_line (get_or keys index s) (cells (get_or keys index s))) ∙ ap (λ t. series_line t (cells t)) (sym at))

pub text-made : (setup : Setup) (xs : List Step) (a : Exporter) (keys : List SeriesKey) (text : List ℕ) → Keeps setup xs a → AreSeries (cells_of a.registry) keys → text ≡ series_text (cells_of a.registry) keys → IsText (cells_after setup xs) text
text-made setup xs a keys text kept series lines = let P : Cells → Type 0 = λ c. IsText c text in subst P (λ i s. kept.cells s i) (record { keys = keys; series = series; lines = lines })
