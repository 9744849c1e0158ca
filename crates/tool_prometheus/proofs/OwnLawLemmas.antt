-- The number of the series that a text with the program's own series leaves out.
use Rattle.std.proofs.Common.{◌≡◌, ◌∙◌, ℕ, Bool, true, false, cond, List, [], ◌∷◌, map, Option, Some, None, refl, ap, sym, subst, arith}
use Rattle.std.specs.List.{AllByRecursion}
use Rattle.std.proofs.lemmas.Bool.{false≢true}
use Rattle.metrics_names.specs.Names.{SeriesKey, series_key_eq}
use Rattle.metrics_names.specs.Equality.{key_exact}
use Rattle.metrics_exporter.specs.Exporting.{Cell, Cells, IsHeld}
use Rattle.metrics_descriptions.specs.Legends.{Legend}
use Rattle.metrics_exporter.specs.Readings.{KeyedReading, reading_in}
use Rattle.metrics_exposition.specs.declared.naming.Naming.{Naming}
use Rattle.metrics_exposition.specs.Reading.{ReadsAs, IsOfKind, AreOfKinds}
use Rattle.metrics_prometheus.specs.Exposition.{IsScaled, rows_text}
use Rattle.metrics_prometheus.specs.LeftOut.{left_out_number}
use Rattle.metrics_prometheus.proofs.CountLemmas.{number-left}
use Rattle.tool_prometheus.specs.Own.{Own, own_series, own_moment, with_series, with_own, IsExposedOwn}
use Rattle.tool_prometheus.proofs.OwnLemmas.{OneExposition}

-- ---- cells

-- what is held depends on the series alone, and not on their readings
held-alike : (xs ys : List KeyedReading) → map (λ t. t.0) xs ≡ map (λ t. t.0) ys → (c d : Cells) → ((s : SeriesKey) → IsHeld c s → IsHeld d s)
    → (s : SeriesKey) → IsHeld (with_own xs c) s → IsHeld (with_own ys d) s
held-alike [] [] e c d to s h = to s h
held-alike [] (y ∷ ys) e c d to s h = absurd (cc)
held-alike (x ∷ xs) [] e c d to s h = absurd (cc)
held-alike (x ∷ xs) (y ∷ ys) e c d to s h =
    held-alike xs ys (cc) (with_series x c) (with_series y d) (λ q. by q (series_key_eq x.0 q) (series_key_eq y.0 q) (ap (λ k. series_key_eq k q) (cc))) s h
  where
    by : (q : SeriesKey) (a b : Bool) → a ≡ b → IsHeld (λ _. cond a (Some (record { reading = x.1; generation = 0 })) (c q)) q
        → IsHeld (λ _. cond b (Some (record { reading = y.1; generation = 0 })) (d q)) q
    by q true true is held = refl
    by q false false is held = to q held
    by q true false is held = absurd (false≢true (sym is))
    by q false true is held = absurd (false≢true is)

-- with the program's own series a text has the number of the series that it leaves out itself
pub same-number : OneExposition → (own : Own) (held : ℕ) (naming : Naming) (legend : Legend) (places : List ℕ → ℕ) (cells : Cells)
    (first text : List ℕ) → IsExposedOwn own held 0 naming legend places cells first
    → IsExposedOwn own held (left_out_number first) naming legend places cells text → left_out_number text ≡ left_out_number first
same-number one own held naming legend places cells first text before is =
    let n = left_out_number first in
    let xs = own_series own held 0 in
    let ys = own_series own held n in
    let to = held-alike xs ys refl cells cells (λ s h. h) in
    let from = held-alike ys xs refl cells cells (λ s h. h) in
    let all = is.all in
    let there : IsScaled naming legend _ (with_own xs cells) (rows_text (with_own xs cells) is.rows None is.rows) = record {
      rows = is.rows;
      all = record {
        keys = all.keys;
        once = all.once;
        held = λ s. (λ has. from s ((all.held s).0 has), λ h. (all.held s).1 (to s h));
        same = all.same;
        ordered = all.ordered;
      };
      texts = λ s h. is.texts s (to s h);
      is = refl;
    } in
    let same : first ≡ rows_text (with_own xs cells) is.rows None is.rows = one naming legend _ (with_own xs cells) first _ before there in
    let a = number-left (with_own xs cells) (rows_text (with_own xs cells) is.rows None is.rows) there in
    let b = number-left (with_own ys cells) text is in
    omega (arith, a, b, ap left_out_number same)

-- ---- kinds

kinds-with : (t : KeyedReading) (cells : Cells) → IsOfKind t → AreOfKinds cells → AreOfKinds (with_series t cells)
kinds-with t cells of are s = by (series_key_eq t.0 s) refl
  where
    by : (b : Bool) → series_key_eq t.0 s ≡ b → ReadsAs s.kind (reading_in (λ _. cond b (Some (record { reading = t.1; generation = 0 })) (cells s)) s)
    by true e = subst (λ (q : SeriesKey). ReadsAs q.kind (Some t.1)) (key_exact t.0 s e) of
    by false e = are s

kinds-all : (xs : List KeyedReading) (cells : Cells) → AllByRecursion IsOfKind xs → AreOfKinds cells → AreOfKinds (with_own xs cells)
kinds-all [] cells of are = are
kinds-all (x ∷ xs) cells of are = kinds-all xs (with_series x cells) of.1 (kinds-with x cells of.0 are)

-- the program's own series are of their kinds too
pub kinds-own : (own : Own) (held left_out : ℕ) (cells : Cells) → AreOfKinds cells → AreOfKinds (with_own (own_series own held left_out) cells)
kinds-own own held left_out cells are = kinds-all (own_series own held left_out) cells (refl, (refl, (refl, (refl, (refl, moment own.last))))) are
  where
    moment : (last : Option ℕ) → AllByRecursion IsOfKind (own_moment own last)
    moment None = tt
    moment (Some m) = (refl, tt)
