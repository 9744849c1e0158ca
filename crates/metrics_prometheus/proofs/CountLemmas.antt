-- The number of the series that a text leaves out.
use Rattle.std.proofs.Common.{◌≡◌, ◌≢◌, ◌∙◌, ◌+◌, ℕ, zero, suc, Bool, true, false, not, cond, List, [], ◌∷◌, ◌++◌, codes, drop, take, map, length, get_or, Option, Some, None, is_some, refl, ap, sym, arith, append-nil, append_assoc, take-append-drop, nat_eq}
use Rattle.std.specs.Prelude.{flat_map, bytes_eq}
use Rattle.std.specs.Borrow.{Bor}
use Rattle.std.specs.List.{AllByRecursion, filter, slice_split, starts_with}
use Rattle.std.proofs.lemmas.List.Elements.{All-append, All-from_recursion, filter-append}
use Rattle.std.proofs.lemmas.List.Splits.{slice_split_at}
use Rattle.std.proofs.lemmas.Slice.Eq.{bytes_eq-Decides}
use Rattle.std.proofs.lemmas.Bool.{eqb-true}
use Rattle.std.proofs.Math.Seq.{take-append_seam, drop-append_seam}
use Rattle.metrics_exporter.specs.Exporting.{Reading, Cells}
use Rattle.metrics_descriptions.specs.Legends.{Legend}
use Rattle.metrics_exposition.specs.declared.naming.Naming.{Naming}
use Rattle.metrics_exposition.specs.Samples.{Sample}
use Rattle.metrics_exposition.proofs.NameLemmas.{AreKeyed}
use Rattle.metrics_prometheus.specs.Exposition.{Row, Reason, reason_of, is_left_out, row_lines, row_lines_as, left_out_words, left_out_line, IsScaled}
use Rattle.metrics_prometheus.specs.Written.{written, AreLeftOut, Line, has, tells_kind, leaves_out, line_text, left_out_in, IsReadable}
use Rattle.metrics_prometheus.specs.LeftOut.{says_left_out, left_out_number, LeavesOut, BeginLeftOut}
use Rattle.metrics_prometheus.proofs.LeftOutLemmas.{keyed-line}
use Rattle.metrics_prometheus.proofs.TextLineLemmas.{lines_of, row_at, name_at, begin_at, help_at, samples_at, text-lines, left-line}

-- ---- one line

starts_at : (line p : List ℕ) → starts_with nat_eq line p ≡ true → line ≡ p ++ drop (length p) line
starts_at line p h =
    let e : p ≡ take (length p) line = (bytes_eq-Decides p (take (length p) line)).0 h in
    sym (take-append-drop (length p) line) ∙ ap (λ x. x ++ drop (length p) line) (sym e)

starts_so : (p rest : List ℕ) → starts_with nat_eq (p ++ rest) p ≡ true
starts_so p rest = (bytes_eq-Decides p (take (length p) (p ++ rest))).1 (sym (take-append_seam p rest))

-- a line leaves a row out
abbrev leaves : Line → Bool
leaves l = is_some (left_out_in l)

-- it does exactly if it begins so
says-so : (line : List ℕ) (l : Line) → IsReadable l → line_text l ≡ line ++ 10 ∷ [] → says_left_out line ≡ leaves l
says-so line l h is = go (says_left_out line) refl
  where
    go : (b : Bool) → says_left_out line ≡ b → says_left_out line ≡ leaves l
    go true e =
        let words : Bor (List ℕ) = record { ref_ptr = (0, 0); now = drop (length (codes "# left out: ")) line } in
        e ∙ ap is_some (keyed-line line (Some words) (starts_at line (codes "# left out: ") e) l h is)
    go false e =
        e ∙ ap is_some (keyed-line line None (λ rest same. absurd (let g : true ≡ false =
        sym (ap says_left_out same ∙ starts_so (codes "# left out: ") rest) ∙ e in cc)) l h is)

-- ---- the lines of a text

no-feed : (c : ℕ) → c ≢ 10 → nat_eq c 10 ≡ false
no-feed c other = go (nat_eq c 10) refl
  where
    go : (b : Bool) → nat_eq c 10 ≡ b → nat_eq c 10 ≡ false
    go true e = absurd (other (eqb-true c 10 e))
    go false e = e

numbers-in : (ls : List Line) → AllByRecursion IsReadable ls → LeavesOut (flat_map line_text ls) (length (filter leaves ls))
numbers-in [] h more = let e : left_out_number (flat_map line_text [] ++ more) ≡ left_out_number more = refl in omega (arith, e)
numbers-in (l ∷ ls) h more =
    let rest = flat_map line_text ls ++ more in
    let inside = h.0.ends.inside in
    let parts = slice_split (λ c. nat_eq c 10) rest in
    ap left_out_number (append_assoc (line_text l) (flat_map line_text ls) more)
    ∙ ap (λ t. left_out_number (t ++ rest)) h.0.ends.is
    ∙ ap left_out_number (append_assoc inside (10 ∷ []) rest)
    ∙ ap (λ ps. length (filter says_left_out ps)) (slice_split_at (λ c. nat_eq c 10) inside 10 rest (λ k d small. no-feed (get_or inside k d) (All-from_recursion _ inside h.0.ends.none k d small)) refl)
    ∙ ap (λ b. length (cond b (inside ∷ filter says_left_out parts) (filter says_left_out parts))) (says-so inside l h.0 h.0.ends.is)
    ∙ by inside (filter says_left_out parts) (leaves l) (numbers-in ls h.1 more)
  where
    by : (x : List ℕ) (xs : List (List ℕ)) (b : Bool) → length xs ≡ length (filter leaves ls) + left_out_number more
        → length (cond b (x ∷ xs) xs) ≡ length (cond b (l ∷ filter leaves ls) (filter leaves ls)) + left_out_number more
    by x xs true e = omega (arith, e)
    by x xs false e = e

-- the empty text has none
pub none-left : LeavesOut [] 0
none-left = numbers-in [] tt

-- the number of a text that has so many
pub number-of : (text : List ℕ) (n : ℕ) → LeavesOut text n → n ≡ left_out_number text
number-of text n so =
    let e = so [] in
    let none : left_out_number [] ≡ 0 = refl in
    omega (arith, e, none, ap left_out_number (append-nil text))

-- with such a line after it a text has one more
pub line-more : (r : Row) (why : Reason) → AreKeyed r.labels → (text : List ℕ) (n : ℕ) → LeavesOut text n → LeavesOut (text ++ left_out_line r why) (n + 1)
line-more r why keyed text n so more =
    let one : left_out_number (left_out_line r why ++ more) ≡ 1 + left_out_number more =
    ap (λ t. left_out_number (t ++ more)) (sym (append-nil (left_out_line r why)))
    ∙ numbers-in (leaves_out r why ∷ []) (record { ends = left-line r why keyed; comment = refl }, tt) more in
    let e = ap left_out_number (append_assoc text (left_out_line r why) more) ∙ so (left_out_line r why ++ more) in
    omega (arith, e, one)

-- ---- the places of such lines

still-says : (p : ℕ) (text more : List ℕ) → says_left_out (drop p text) ≡ true → says_left_out (drop p (text ++ more)) ≡ true
still-says zero text more e =
    let mark = codes "# left out: " in
    ap (λ t. says_left_out (t ++ more)) (starts_at text mark e) ∙ ap says_left_out (append_assoc mark (drop (length mark) text) more) ∙ starts_so mark (drop (length mark) text ++ more)
still-says (suc p) [] more e = absurd (let g : false ≡ true = e in cc)
still-says (suc p) (c ∷ cs) more e = still-says p cs more e

-- more after them leaves them in place
pub places-stay : (text more places : List ℕ) → BeginLeftOut text places → BeginLeftOut (text ++ more) places
places-stay text more places begin k d small = still-says (get_or places k d) text more (begin k d small)

-- such a line after a text begins at its end
pub places-more : (text line places : List ℕ) → says_left_out line ≡ true → BeginLeftOut text places → BeginLeftOut (text ++ line) (places ++ length text ∷ [])
places-more text line places says begin =
    All-append (λ p. says_left_out (drop p (text ++ line)) ≡ true) places (length text ∷ []) (places-stay text line places begin)
    (All-from_recursion (λ p. says_left_out (drop p (text ++ line)) ≡ true) (length text ∷ []) (ap says_left_out (drop-append_seam text line) ∙ says, tt))

pub line-says : (r : Row) (why : Reason) → says_left_out (left_out_line r why) ≡ true
line-says r why = starts_so (codes "# left out: ") (left_out_words r why ++ 10 ∷ [])

pub row-says : (reading : Option Reading) (all : List Row) (last : Option Row) (r : Row) → not (is_left_out all last r) ≡ false → says_left_out (row_lines reading all last r) ≡ true
row-says reading all last r = by (reason_of all last r)
  where
    by : (o : Option Reason) → not (is_some o) ≡ false → says_left_out (row_lines_as o reading last r) ≡ true
    by None e = absurd (let g : true ≡ false = e in cc)
    by (Some why) e = line-says r why

-- ---- the rows of a text

module _ (cells : Cells) (all : List Row) where
  samples-leave : (ss : List Sample) → filter leaves (map has ss) ≡ []
  samples-leave [] = refl
  samples-leave (s ∷ ss) = samples-leave ss

  help-leaves : (name : List ℕ) (help : Option (List ℕ)) → filter leaves (help_at name help) ≡ []
  help-leaves name None = refl
  help-leaves name (Some text) = refl

  begin-leaves : (r : Row) → filter leaves (begin_at r) ≡ []
  begin-leaves r = filter-append leaves (help_at r.name r.help) (tells_kind r ∷ []) ∙ ap (λ ls. ls ++ []) (help-leaves r.name r.help)

  name-leaves : (last : Option Row) (r : Row) → filter leaves (name_at last r) ≡ []
  name-leaves None r = begin-leaves r
  name-leaves (Some w) r = by (bytes_eq w.name r.name)
    where
      by : (b : Bool) → filter leaves (cond b [] (begin_at r)) ≡ []
      by true = refl
      by false = begin-leaves r

  abbrev Left : Option Row → List Row → ℕ
  Left last xs = length (filter leaves (lines_of cells all last xs))

  rows-number : (last : Option Row) (xs : List Row) → Left last xs + length (written all last xs) ≡ length xs
  rows-number last [] = refl
  rows-number last (x ∷ xs) = by (reason_of all last x) (λ next. rows-number next xs)
    where
      by : (o : Option Reason) → ((next : Option Row) → Left next xs + length (written all next xs) ≡ length xs)
          → length (filter leaves (row_at cells all o last x ++ lines_of cells all (cond (is_some o) last (Some x)) xs))
          + length (cond (is_some o) (written all last xs) (x ∷ written all (Some x) xs)) ≡ length (x ∷ xs)
      by None rest =
          let name = name_at last x in
          let samples = map has (samples_at cells all x) in
          let later = lines_of cells all (Some x) xs in
          let none : filter leaves (name ++ samples) ≡ [] =
          filter-append leaves name samples ∙ ap (λ ls. ls ++ filter leaves samples) (name-leaves last x) ∙ samples-leave (samples_at cells all x) in
          let same : length (filter leaves ((name ++ samples) ++ later)) ≡ Left (Some x) xs =
          ap length (filter-append leaves (name ++ samples) later ∙ ap (λ ls. ls ++ filter leaves later) none) in
          let e = rest (Some x) in
          omega (arith, same, e)
      by (Some why) rest = let e = rest last in omega (arith, e)

text-leaves : {naming : Naming} {legend : Legend} {places : List ℕ → ℕ} (cells : Cells) (text : List ℕ) (e : IsScaled naming legend places cells text)
    → LeavesOut text (length (filter leaves (lines_of cells e.rows None e.rows)))
text-leaves cells text e more =
    let h = text-lines cells text e in
    ap (λ t. left_out_number (t ++ more)) h.text_is ∙ numbers-in (lines_of cells e.rows None e.rows) h.readable more

-- a text leaves as many series out as there are rows that aren't written
pub number-left : {naming : Naming} {legend : Legend} {places : List ℕ → ℕ} (cells : Cells) (text : List ℕ) (e : IsScaled naming legend places cells text)
    → AreLeftOut e.rows (left_out_number text)
number-left cells text e =
    ap (λ n. n + length (written e.rows None e.rows)) (sym (number-of text _ (text-leaves cells text e))) ∙ rows-number cells e.rows None e.rows

-- and a text of rows of which so many are left out leaves out so many
pub rows-leave : {naming : Naming} {legend : Legend} {places : List ℕ → ℕ} (cells : Cells) (text : List ℕ) (e : IsScaled naming legend places cells text) (n : ℕ)
    → AreLeftOut e.rows n → LeavesOut text n
rows-leave cells text e n is more = omega (arith, is, rows-number cells e.rows None e.rows, text-leaves cells text e more)
