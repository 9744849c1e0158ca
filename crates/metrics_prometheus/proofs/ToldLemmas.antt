-- The text reports each row: by its samples, or by a line that it is left out, and then something keeps it from the text.
use Rattle.std.proofs.Common.{◌≡◌, ◌∙◌, ◌⊎◌, ◌↔◌, inl, inr, ℕ, zero, suc, Bool, true, false, not, ◌&&◌, ◌||◌, cond, List, [], ◌∷◌, ◌++◌, map, Contains, Option, Some, None, is_some, refl, ap, sym, subst, arith, append_assoc}
use Rattle.std.specs.Prelude.{bytes_eq}
use Rattle.std.specs.List.{AllByRecursion, IsDistinct}
use Rattle.std.specs.List.Sorted.{IsSorted}
use Rattle.std.specs.Cmp.Lexicographic.{pointwise}
use Rattle.std.proofs.lemmas.Bool.Decides.{same_from_decides}
use Rattle.std.proofs.lemmas.List.Sorted.{Contains-permutation}
use Rattle.std.proofs.lemmas.Map.Keys.{IsDistinct-IsPermutation}
use Rattle.metrics_names.specs.Names.{SeriesKey, kind_eq, label_eq, series_key_eq}
use Rattle.metrics_names.specs.Equality.{kind_eq-Decides, series_key_eq-Decides, key_exact}
use Rattle.metrics_exporter.specs.Exporting.{Cells, IsHeld}
use Rattle.metrics_exporter.specs.Gathering.{series_at}
use Rattle.metrics_exposition.specs.Samples.{lines}
use Rattle.metrics_exposition.specs.Labels.{are_fit}
use Rattle.metrics_descriptions.specs.Legends.{Legend}
use Rattle.metrics_exposition.specs.declared.naming.Naming.{Naming}
use Rattle.metrics_exposition.specs.Naming.{Display, display_by}
use Rattle.metrics_prometheus.specs.Exposition.{Row, row_of, row_cmp, is_taken, Reason, reason_of, is_left_out, row_lines_as, name_text, samples_of, reading_at, left_out_line, row_text, last_after, rows_text, AreRows, IsScaled}
use Rattle.metrics_prometheus.specs.Written.{written, AreApart, MayStand, IsWhy, alone, beside, IsReported, shown, left_out}
use Rattle.metrics_exposition.proofs.PairLemmas.{each-map, each-in, in-first, in-later, in-split, in-none, Pairs, pairs-map}
use Rattle.metrics_exposition.proofs.SameLemmas.{same-bytes, same-labels}
use Rattle.metrics_prometheus.proofs.WrittenLemmas.{IsBefore, before-apart, written-ascend, written-fit, written-free, clashes, left-is}
use Rattle.metrics_prometheus.proofs.RowLemmas.{map-length, map-get}

-- what keeps a row from the text: its own labels or name, or one of the rows that are written in all
abbrev Blocked : List Row → List Row → Row → Reason → Type 0
Blocked all whole r why = (reason_of all None r ≡ Some why) ⊎ ((w : Row) × Contains whole w × (w ≡ r → ⊥) × (reason_of all (Some w) r ≡ Some why))

-- the same of a part of the text, and the rows that it shows
data Part (cells : Cells) (all whole : List Row) (r : Row) (text : List ℕ) (done : List Row) : Type 0 where
  with-samples : (before after : List ℕ) → Contains done r → text ≡ before ++ (lines (samples_of r (reading_at cells r)) ++ after) → Part cells all whole r text done
  with-line : (why : Reason) → Blocked all whole r why → (before after : List ℕ) → text ≡ before ++ (left_out_line r why ++ after) → Part cells all whole r text done

-- the row that was written last is one of all, and none of those to come
abbrev Known : List Row → Option Row → List Row → Type 0
Known whole None xs = Unit {0}
Known whole (Some w) xs = Contains whole w × AllByRecursion (λ q. w ≡ q → ⊥) xs

module _ (cells : Cells) (all whole : List Row) where
  blocked : (last : Option Row) (x : Row) (xs : List Row) (why : Reason) → Known whole last (x ∷ xs) → reason_of all last x ≡ Some why → Blocked all whole x why
  blocked None x xs why known out = inl out
  blocked (Some w) x xs why known out = inr (w, known.0, known.1.0, out)

  -- the row that comes first
  here : (last : Option Row) (x : Row) (rest : List ℕ) (o : Option Reason) (skipped done : List Row) → ((why : Reason) → o ≡ Some why → Blocked all whole x why)
      → Part cells all whole x (row_lines_as o (reading_at cells x) last x ++ rest) (cond (is_some o) skipped (x ∷ done))
  here last x rest (Some why) skipped done out = with-line why (out why refl) [] rest refl
  here last x rest None skipped done out = with-samples (name_text last x) rest (in-first x done) (append_assoc (name_text last x) (lines (samples_of x (reading_at cells x))) rest)

  -- a row after it
  behind : (x r : Row) (line rest : List ℕ) (b : Bool) (skipped done : List Row) → Part cells all whole r rest (cond b skipped done) → Part cells all whole r (line ++ rest) (cond b skipped (x ∷ done))
  behind x r line rest b skipped done (with-line why out before after is) = with-line why out (line ++ before) after (ap (λ t. line ++ t) is ∙ sym (append_assoc line before (left_out_line r why ++ after)))
  behind x r line rest b skipped done (with-samples before after has is) =
      with-samples (line ++ before) after (kept b has) (ap (λ t. line ++ t) is ∙ sym (append_assoc line before (lines (samples_of r (reading_at cells r)) ++ after)))
    where
      kept : (b : Bool) → Contains (cond b skipped done) r → Contains (cond b skipped (x ∷ done)) r
      kept true has = has
      kept false has = in-later x done r has

  known-next : (last : Option Row) (x : Row) (xs : List Row) → Known whole last (x ∷ xs) → Known whole last xs
  known-next None x xs known = tt
  known-next (Some w) x xs known = (known.0, known.1.1)

  abbrev AreAmong : List Row → Type 0
  AreAmong done = (q : Row) → Contains done q → Contains whole q

  -- what follows a row, by whether it is left out
  rest-of : (last : Option Row) (x : Row) (xs : List Row) (r : Row) (b : Bool) → Known whole last (x ∷ xs) → AllByRecursion (λ q. x ≡ q → ⊥) xs
      → AreAmong (cond b (written all last xs) (x ∷ written all (Some x) xs))
      → ((next : Option Row) → Known whole next xs → AreAmong (written all next xs) → Part cells all whole r (rows_text cells all next xs) (written all next xs))
      → Part cells all whole r (rows_text cells all (cond b last (Some x)) xs) (cond b (written all last xs) (written all (Some x) xs))
  rest-of last x xs r true known apart among h = h last (known-next last x xs known) among
  rest-of last x xs r false known apart among h = h (Some x) (among x (in-first x (written all (Some x) xs)), apart) (λ q has. among q (in-later x (written all (Some x) xs) q has))

  part-of : (xs : List Row) (last : Option Row) (r : Row) → Pairs (λ p q. p ≡ q → ⊥) xs → Known whole last xs → AreAmong (written all last xs) → Contains xs r
      → Part cells all whole r (rows_text cells all last xs) (written all last xs)
  part-of [] last r apart known among has = absurd (in-none r has)
  part-of (x ∷ xs) last r apart known among has = elim (in-split x xs r has) [
    | inl e ↦
        let P : Row → Type 0 = λ q. Part cells all whole q (rows_text cells all last (x ∷ xs)) (written all last (x ∷ xs)) in
        subst P e (here last x (rows_text cells all (last_after all last x) xs) (reason_of all last x) (written all last xs) (written all (Some x) xs) (λ why. blocked last x xs why known))
    | inr its ↦
        behind x r (row_text cells all last x) (rows_text cells all (last_after all last x) xs) (is_left_out all last x) (written all last xs) (written all (Some x) xs)
        (rest-of last x xs r (is_left_out all last x) known apart.0 among (λ next known among. part-of xs next r apart.1 known among its))
  ]

part-all : (cells : Cells) (rows : List Row) (r : Row) → Pairs (λ p q. p ≡ q → ⊥) rows → Contains rows r → Part cells rows (written rows None rows) r (rows_text cells rows None rows) (written rows None rows)
part-all cells rows r apart has = part-of cells rows (written rows None rows) rows None r apart tt (λ q h. h) has

-- ---- which rows are written

-- two elements of a list are one, or the relation holds one way or the other
either : {A : Type 0} (R : A → A → Type 0) (xs : List A) (x y : A) → Pairs R xs → Contains xs x → Contains xs y → (x ≡ y) ⊎ (R x y ⊎ R y x)
either R [] x y p (k, small, is) hy = absurd (omega (arith, small))
either R (z ∷ zs) x y p (zero, small, is) (zero, small', is') = inl (sym is ∙ is')
either R (z ∷ zs) x y p (zero, small, is) (suc j, small', is') = inr (inl (subst (λ q. R q y) is (each-in (R z) zs y p.0 (j, omega (arith, small'), is'))))
either R (z ∷ zs) x y p (suc k, small, is) (zero, small', is') = inr (inr (subst (λ q. R q x) is' (each-in (R z) zs x p.0 (k, omega (arith, small), is))))
either R (z ∷ zs) x y p (suc k, small, is) (suc j, small', is') = either R zs x y p.1 (k, omega (arith, small), is) (j, omega (arith, small'), is')

turned : (a b : Row) → AreApart a b → AreApart b a
turned a b apart e = let h = apart (sym e) in (sym h.0, λ same. h.1 (sym same))

written-stands : (rows : List Row) → IsSorted row_cmp rows → (r : Row) → Contains (written rows None rows) r → MayStand rows r
written-stands rows up r has =
    let done = written rows None rows in
    record {
      fit = each-in (λ q. are_fit q.kind q.labels ≡ true) done r (written-fit rows None rows) has;
      free = each-in (λ q. is_taken rows q.name ≡ false) done r (written-free rows None rows) has;
      apart = λ w its. elim (either IsBefore done w r (written-ascend rows up) its has) [
        | inl e ↦ inl e
        | inr (inl b) ↦ inr (before-apart w r b)
        | inr (inr b) ↦ inr (turned r w (before-apart r w b))
      ];
    }

-- a row that may be written is left out by a clash alone
clash-left : (fit taken clash : Bool) → fit ≡ true → taken ≡ false → (not fit || (taken || clash)) ≡ true → clash ≡ true
clash-left true false clash f t e = e
clash-left true true clash f t e = absurd (let g : true ≡ false = t in cc)
clash-left false taken clash f t e = absurd (let g : false ≡ true = f in cc)

clash-parts : (n k l : Bool) → (n && (not k || l)) ≡ true → (n ≡ true) × (k ≡ true → l ≡ true)
clash-parts true true l e = (refl, λ _. e)
clash-parts true false l e = (refl, λ k. absurd (let g : false ≡ true = k in cc))
clash-parts false k l e = absurd (let g : false ≡ true = e in cc)

no-clash : (w r : Row) → AreApart w r → clashes (Some w) r ≡ true → ⊥
no-clash w r apart e =
    let parts = clash-parts (bytes_eq w.name r.name) (kind_eq w.kind r.kind) (pointwise label_eq w.labels r.labels) e in
    let h = apart (same-bytes w.name r.name parts.0) in
    h.1 (same-labels w.labels r.labels (parts.1 ((kind_eq-Decides w.kind r.kind).1 h.0)))

-- a reason is one to leave the row out
out-is : (rows : List Row) (last : Option Row) (r : Row) (why : Reason) → reason_of rows last r ≡ Some why → (not (are_fit r.kind r.labels) || (is_taken rows r.name || clashes last r)) ≡ true
out-is rows last r why out = sym (left-is rows last r) ∙ ap is_some out

blocked-stays : (rows : List Row) (r : Row) (why : Reason) → Blocked rows (written rows None rows) r why → MayStand rows r → ⊥
blocked-stays rows r why (inl out) may = absurd (let g : false ≡ true = clash-left (are_fit r.kind r.labels) (is_taken rows r.name) false may.fit may.free (out-is rows None r why out) in cc)
blocked-stays rows r why (inr (w, has, other, out)) may =
    let clash = clash-left (are_fit r.kind r.labels) (is_taken rows r.name) (clashes (Some w) r) may.fit may.free (out-is rows (Some w) r why out) in
    elim (may.apart w has) [
      | inl e ↦ other e
      | inr apart ↦ no-clash w r apart clash
    ]

blocked-why : (rows : List Row) (r : Row) (why : Reason) → Blocked rows (written rows None rows) r why → IsWhy rows r why
blocked-why rows r why (inl out) = alone out
blocked-why rows r why (inr (w, has, other, out)) = beside w has out

-- ---- the rows are of different series

abbrev pub series_of_row : Row → SeriesKey
series_of_row r = series_at r.kind r.key

keys-differ : (ks : List SeriesKey) → IsDistinct series_key_eq ks → Pairs (λ a b. a ≡ b → ⊥) ks
unfolding IsDistinct
keys-differ [] h = tt
keys-differ (k ∷ ks) h = (each-map (λ j. series_key_eq k j ≡ false) (λ j. k ≡ j → ⊥) (λ j no e. let g : true ≡ false = sym ((series_key_eq-Decides k j).1 e) ∙ no in cc) ks h.0, keys-differ ks h.1)

abbrev same_row : Row → Row → Bool
same_row a b = series_key_eq (series_of_row a) (series_of_row b)

tests-from : (display : Display) (ks : List SeriesKey) → Pairs (λ a b. a ≡ b → ⊥) ks → IsDistinct same_row (map (row_of display) ks)
unfolding IsDistinct
tests-from display [] p = tt
tests-from display (k ∷ ks) p = (each k ks p.0, tests-from display ks p.1)
  where
    none-true : (b : Bool) → (b ≡ true → ⊥) → b ≡ false
    none-true true h = absurd (h refl)
    none-true false h = refl

    each : (k : SeriesKey) (ks : List SeriesKey) → AllByRecursion (λ j. k ≡ j → ⊥) ks → AllByRecursion (λ r. same_row (row_of display k) r ≡ false) (map (row_of display) ks)
    each k [] h = tt
    each k (j ∷ js) h = (none-true (series_key_eq k j) (λ e. h.0 (key_exact k j e)), each k js h.1)

flips : (a b : Row) → same_row a b ≡ same_row b a
flips a b =
    let x = series_of_row a in
    let y = series_of_row b in
    let there = series_key_eq-Decides x y in
    let back = series_key_eq-Decides y x in
    same_from_decides (series_key_eq x y) (series_key_eq y x) there ((λ e. sym (back.0 e)), (λ e. back.1 (sym e)))

-- rows of different series
abbrev pub AreOfOthers : Row → Row → Type 0
AreOfOthers p q = series_of_row p ≡ series_of_row q → ⊥

others-from : (rs : List Row) → IsDistinct same_row rs → Pairs AreOfOthers rs
unfolding IsDistinct
others-from [] h = tt
others-from (r ∷ rs) h =
    (each-map (λ q. same_row r q ≡ false) (AreOfOthers r) (λ q no e. let g : true ≡ false = sym ((series_key_eq-Decides (series_of_row r) (series_of_row q)).1 e) ∙ no in cc) rs h.0, others-from rs h.1)

pub rows-of-others : {display : Display} (cells : Cells) (rows : List Row) → AreRows display cells rows → Pairs AreOfOthers rows
rows-of-others {display} cells rows are = others-from rows (IsDistinct-IsPermutation same_row flips (map (row_of display) are.keys) rows are.same (tests-from display are.keys (keys-differ are.keys are.once)))

rows-apart : {display : Display} (cells : Cells) (rows : List Row) → AreRows display cells rows → Pairs (λ p q. p ≡ q → ⊥) rows
rows-apart cells rows are = pairs-map AreOfOthers (λ p q. p ≡ q → ⊥) (λ p q no e. no (ap series_of_row e)) rows (rows-of-others cells rows are)

pub row-held : {display : Display} (cells : Cells) (rows : List Row) → AreRows display cells rows → (s : SeriesKey) → IsHeld cells s → Contains rows (row_of display s)
row-held {display} cells rows are s held = Contains-permutation (map (row_of display) are.keys) rows (row_of display s) are.same (mapped ((are.held s).1 held))
  where
    mapped : Contains are.keys s → Contains (map (row_of display) are.keys) (row_of display s)
    mapped (k, small, is) = (k, omega (arith, small, map-length (row_of display) are.keys), map-get (row_of display) are.keys k (row_of display s) s small ∙ ap (row_of display) is)

keyed-of : (cells : Cells) (rows : List Row) → IsSorted row_cmp rows → (text : List ℕ) (r : Row) → text ≡ rows_text cells rows None rows
    → Part cells rows (written rows None rows) r (rows_text cells rows None rows) (written rows None rows) → IsReported cells rows text r
keyed-of cells rows up text r e (with-samples before after has is) = shown (written-stands rows up r has) before after (e ∙ is)
keyed-of cells rows up text r e (with-line why out before after is) = left_out (blocked-stays rows r why out) why (blocked-why rows r why out) before after (e ∙ is)

stands-of : (cells : Cells) (rows : List Row) (r : Row) → Part cells rows (written rows None rows) r (rows_text cells rows None rows) (written rows None rows) → MayStand rows r → Contains (written rows None rows) r
stands-of cells rows r (with-samples before after has is) may = has
stands-of cells rows r (with-line why out before after is) may = absurd (blocked-stays rows r why out may)

module _ (naming : Naming) (legend : Legend) (places : List ℕ → ℕ) (cells : Cells) (text : List ℕ) (e : IsScaled naming legend places cells text) (s : SeriesKey) (held : IsHeld cells s) where
  part : Part cells e.rows (written e.rows None e.rows) (row_of (display_by naming legend places) s) (rows_text cells e.rows None e.rows) (written e.rows None e.rows)
  part = part-all cells e.rows (row_of (display_by naming legend places) s) (rows-apart cells e.rows e.all) (row-held cells e.rows e.all s held)

  pub series-keyed : IsReported cells e.rows text (row_of (display_by naming legend places) s)
  series-keyed = keyed-of cells e.rows e.all.ordered text (row_of (display_by naming legend places) s) e.is part

  pub series-written : Contains (written e.rows None e.rows) (row_of (display_by naming legend places) s) ↔ MayStand e.rows (row_of (display_by naming legend places) s)
  series-written = (written-stands e.rows e.all.ordered (row_of (display_by naming legend places) s), stands-of cells e.rows (row_of (display_by naming legend places) s) part)
