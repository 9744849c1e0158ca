-- Each name that is written has one line for its kind, before the first of its samples.
use Rattle.std.proofs.Common.{◌≡◌, ◌∙◌, ◌⊎◌, inl, inr, ℕ, Bool, true, false, cond, List, [], ◌∷◌, ◌++◌, map, Contains, Option, Some, None, is_some, refl, ap, sym, subst, append_assoc}
use Rattle.std.specs.Prelude.{bytes_eq}
use Rattle.std.specs.List.{AllByRecursion, filter_map}
use Rattle.std.specs.Ordering.{is_lt}
use Rattle.std.specs.declared.cmp.Ordering.TheVariants.{Less}
use Rattle.std.proofs.lemmas.Bool.{cond_both}
use Rattle.std.proofs.lemmas.Cmp.{nat_list_cmp_total}
use Rattle.std.proofs.lemmas.List.Elements.{filter_map-append}
use Rattle.std.proofs.lemmas.Map.Lookups.{exact_bytes}
use Rattle.metrics_exporter.specs.Exporting.{Cells}
use Rattle.metrics_exposition.specs.Samples.{Sample}
use Rattle.metrics_exposition.specs.declared.naming.Naming.{Naming}
use Rattle.metrics_descriptions.specs.Legends.{Legend}
use Rattle.metrics_prometheus.specs.Exposition.{Row, Reason, reason_of, last_after, IsScaled}
use Rattle.metrics_prometheus.specs.Written.{written, Line, has, tells_kind, leaves_out, sample_in, is_type_of, TellsKindOnce, TellsKinds}
use Rattle.metrics_exposition.specs.Reading.{AreOfKinds}
use Rattle.metrics_exposition.proofs.PairLemmas.{each-append, each-in, in-append, in-none, in-split, Pairs, pairs-both}
use Rattle.metrics_exposition.proofs.SameLemmas.{bytes-same, same-bytes}
use Rattle.metrics_prometheus.proofs.WrittenLemmas.{IsBefore, before-apart, written-ascend, IsUp, rows-up, row_total}
use Rattle.metrics_exposition.proofs.OrderLemmas.{names, first-part, turn}
use Rattle.metrics_prometheus.proofs.DistinctLemmas.{AreAcross, rows-across}
use Rattle.metrics_prometheus.proofs.ReadingLemmas.{rows-read}
use Rattle.metrics_prometheus.proofs.TextLineLemmas.{help_at, begin_at, name_at, samples_at, row_at, lines_of, text-lines}

-- ---- names that are after another

-- one name is another, or comes before it
abbrev pub IsPast : List ℕ → List ℕ → Type 0
IsPast n m = (n ≡ m) ⊎ (names n m ≡ Less)

past-below : (n m k : List ℕ) → IsPast n m → names m k ≡ Less → names n k ≡ Less
past-below n m k (inl e) less = ap (λ a. names a k) e ∙ less
past-below n m k (inr below) less = nat_list_cmp_total.trans n m k below less

pub past-next : (n m k : List ℕ) → IsPast n m → is_lt (names k m) ≡ false → IsPast n k
past-next n m k past up = elim (turn (names m k) (names k m) (nat_list_cmp_total.antisymm m k) up) [
  | inl less ↦ inr (past-below n m k past less)
  | inr equal ↦ subst (IsPast n) (sym (exact_bytes k m equal)) past
]

-- the name after another one is none of those before that
pub past-other : (n m k : List ℕ) → IsPast n m → is_lt (names k m) ≡ false → bytes_eq m k ≡ false → bytes_eq k n ≡ false
past-other n m k past up other = go (bytes_eq k n) refl past
  where
    go : (b : Bool) → bytes_eq k n ≡ b → IsPast n m → bytes_eq k n ≡ false
    go false e past = e
    go true e (inl is) = absurd (let g : true ≡ false = sym (bytes-same m k (sym (same-bytes k n e ∙ is))) ∙ other in cc)
    go true e (inr less) = absurd (let g : true ≡ false = sym (ap is_lt (ap (λ a. names a m) (same-bytes k n e) ∙ less)) ∙ up in cc)

-- ---- lines without a kind

-- a line doesn't report the kind of that name
abbrev IsOther : List ℕ → Line → Type 0
IsOther n l = is_type_of n l ≡ false

help-other : (n name : List ℕ) (help : Option (List ℕ)) → AllByRecursion (IsOther n) (help_at name help)
help-other n name None = tt
help-other n name (Some text) = (refl, tt)

samples-other : (n : List ℕ) (ss : List Sample) → AllByRecursion (IsOther n) (map has ss)
samples-other n [] = tt
samples-other n (s ∷ ss) = (refl, samples-other n ss)

begin-other : (n : List ℕ) (r : Row) → bytes_eq r.name n ≡ false → AllByRecursion (IsOther n) (begin_at r)
begin-other n r other = each-append (IsOther n) (help_at r.name r.help) (tells_kind r ∷ []) (help-other n r.name r.help) (other, tt)

name-other : (n : List ℕ) (last : Option Row) (r : Row) → bytes_eq r.name n ≡ false → AllByRecursion (IsOther n) (name_at last r)
name-other n None r other = begin-other n r other
name-other n (Some w) r other = cond_both (bytes_eq w.name r.name) [] (begin_at r) (AllByRecursion (IsOther n)) (λ _. tt) (λ _. begin-other n r other)

-- after a row that was written
name-later : (n : List ℕ) (v r : Row) → IsPast n v.name → is_lt (names r.name v.name) ≡ false → AllByRecursion (IsOther n) (name_at (Some v) r)
name-later n v r past up = cond_both (bytes_eq v.name r.name) [] (begin_at r) (AllByRecursion (IsOther n)) (λ _. tt) (λ other. begin-other n r (past-other n v.name r.name past up other))

-- ---- the samples among lines

help-none : (name : List ℕ) (help : Option (List ℕ)) → filter_map sample_in (help_at name help) ≡ []
help-none name None = refl
help-none name (Some text) = refl

begin-none : (r : Row) → filter_map sample_in (begin_at r) ≡ []
begin-none r = filter_map-append sample_in (help_at r.name r.help) (tells_kind r ∷ []) ∙ ap (λ l. l ++ []) (help-none r.name r.help)

name-none : (last : Option Row) (r : Row) → filter_map sample_in (name_at last r) ≡ []
name-none None r = begin-none r
name-none (Some w) r = cond_both (bytes_eq w.name r.name) [] (begin_at r) (λ l. filter_map sample_in l ≡ []) (λ _. refl) (λ _. begin-none r)

samples-all : (ss : List Sample) → filter_map sample_in (map has ss) ≡ ss
samples-all [] = refl
samples-all (s ∷ ss) = ap (λ l. s ∷ l) (samples-all ss)

pub row-all : (last : Option Row) (r : Row) (ss : List Sample) → filter_map sample_in (name_at last r ++ map has ss) ≡ ss
row-all last r ss = filter_map-append sample_in (name_at last r) (map has ss) ∙ ap (λ l. l ++ filter_map sample_in (map has ss)) (name-none last r) ∙ samples-all ss

-- ---- the line that reports a kind

-- lines before it
in-front : (front all : List Line) (w : Row) (ss : List Sample) → AllByRecursion (IsOther w.name) front → ((s : Sample) → Contains ss s → Contains (filter_map sample_in front) s → ⊥)
    → TellsKindOnce all w ss → TellsKindOnce (front ++ all) w ss
in-front front all w ss others none t = record {
  before = front ++ t.before;
  first = t.first;
  after = t.after;
  all_are = ap (λ l. front ++ l) t.all_are ∙ sym (append_assoc front t.before (tells_kind t.first ∷ t.after));
  name = t.name;
  kind = t.kind;
  none_before = each-append (IsOther w.name) front t.before others t.none_before;
  none_after = t.none_after;
  behind = λ s its there. elim (in-append (filter_map sample_in front) (filter_map sample_in t.before) s (subst (λ l. Contains l s) (filter_map-append sample_in front t.before) there)) [
    | inl h ↦ none s its h
    | inr h ↦ t.behind s its h
  ];
}

-- the row that was written last has another name
abbrev pub IsNew : Option Row → List ℕ → Type 0
IsNew None n = Unit {0}
IsNew (Some v) n = bytes_eq v.name n ≡ false

pub new-name : (last : Option Row) (x : Row) → IsNew last x.name → name_at last x ≡ begin_at x
new-name None x new = refl
new-name (Some v) x new = ap (λ b. cond b [] (begin_at x)) new

module _ (cells : Cells) (all : List Row) where
  abbrev later_lines : Option Row → List Row → List Line
  later_lines last xs = lines_of cells all last xs

  abbrev own_samples : Row → List Sample
  own_samples r = samples_at cells all r

  row-later : (n : List ℕ) (v x : Row) (why : Option Reason) → IsPast n v.name → is_lt (names x.name v.name) ≡ false → AllByRecursion (IsOther n) (row_at cells all why (Some v) x)
  row-later n v x (Some why) past above = (refl, tt)
  row-later n v x None past above = each-append (IsOther n) (name_at (Some v) x) (map has (own_samples x)) (name-later n v x past above) (samples-other n (own_samples x))

  none-later : (n : List ℕ) (v : Row) (xs : List Row) → IsPast n v.name → AllByRecursion (IsUp v) xs → Pairs IsUp xs → AllByRecursion (IsOther n) (later_lines (Some v) xs)
  none-later n v [] past up ups = tt
  none-later n v (x ∷ xs) past up ups =
      let why = reason_of all (Some v) x in
      let above : is_lt (names x.name v.name) ≡ false = first-part (names x.name v.name) _ up.0 in
      each-append (IsOther n) (row_at cells all why (Some v) x) (later_lines (last_after all (Some v) x) xs)
      (row-later n v x why past above)
      (cond_both (is_some why) (Some v) (Some x) (λ o. AllByRecursion (IsOther n) (later_lines o xs))
      (λ _. none-later n v xs past up.1 ups.1)
      (λ _. none-later n x xs (past-next n v.name x.name past above) ups.0 ups.1))

  -- rows that are written are in order, and their samples differ
  abbrev AreBoth : Row → Row → Type 0
  AreBoth a b = IsBefore a b × AreAcross cells a b

  -- the row begins its name
  begins-here : (last : Option Row) (x w : Row) (xs done : List Row) → IsNew last w.name → x.name ≡ w.name → AllByRecursion (IsUp x) xs → Pairs IsUp xs → AllByRecursion (AreBoth x) done → Contains (x ∷ done) w
      → TellsKindOnce ((name_at last x ++ map has (own_samples x)) ++ later_lines (Some x) xs) w (own_samples w)
  begins-here last x w xs done new same up ups both has_w =
      let help = help_at x.name x.help in
      let ss = map has (own_samples x) in
      let rest = later_lines (Some x) xs in
      record {
        before = help;
        first = x;
        after = ss ++ rest;
        all_are = ap (λ l. (l ++ ss) ++ rest) (new-name last x (subst (IsNew last) (sym same) new)) ∙ ap (λ l. l ++ rest) (append_assoc help (tells_kind x ∷ []) ss) ∙ append_assoc help (tells_kind x ∷ ss) rest;
        name = same;
        kind = elim (in-split x done w has_w) [
          | inl e ↦ ap (λ r. r.kind) e
          | inr its ↦ (before-apart x w (each-in (AreBoth x) done w both its).0 same).0
        ];
        none_before = help-other w.name x.name x.help;
        none_after = each-append (IsOther w.name) ss rest (samples-other w.name (own_samples x)) (none-later w.name x xs (inl (sym same)) up ups);
        behind = λ s its there. in-none s (subst (λ l. Contains l s) (help-none x.name x.help) there);
      }

  -- the samples of two rows differ
  pub no-sample : (x w : Row) → AreAcross cells x w → (s : Sample) → Contains (own_samples w) s → Contains (own_samples x) s → ⊥
  no-sample x w across s its there = each-in _ (own_samples w) s (each-in _ (own_samples x) s across there) its refl refl

  -- a row that is written, and those after it
  row-once : (last : Option Row) (x w : Row) (xs : List Row) → IsNew last w.name → AllByRecursion (IsUp x) xs → Pairs IsUp xs
      → AllByRecursion (AreBoth x) (written all (Some x) xs) → Contains (x ∷ written all (Some x) xs) w
      → (IsNew (Some x) w.name → Contains (written all (Some x) xs) w → TellsKindOnce (later_lines (Some x) xs) w (own_samples w))
      → TellsKindOnce ((name_at last x ++ map has (own_samples x)) ++ later_lines (Some x) xs) w (own_samples w)
  row-once last x w xs new up ups both has_w rest = by-name (bytes_eq x.name w.name) refl
    where
      later : bytes_eq x.name w.name ≡ false → Contains (written all (Some x) xs) w
      later e = elim (in-split x (written all (Some x) xs) w has_w) [
        | inl is ↦ absurd (let g : true ≡ false = sym (bytes-same x.name w.name (ap (λ r. r.name) is)) ∙ e in cc)
        | inr its ↦ its
      ]

      by-name : (b : Bool) → bytes_eq x.name w.name ≡ b → TellsKindOnce ((name_at last x ++ map has (own_samples x)) ++ later_lines (Some x) xs) w (own_samples w)
      by-name true e = begins-here last x w xs (written all (Some x) xs) new (same-bytes x.name w.name e) up ups both has_w
      by-name false e =
          let its = later e in
          in-front (name_at last x ++ map has (own_samples x)) (later_lines (Some x) xs) w (own_samples w)
          (each-append (IsOther w.name) (name_at last x) (map has (own_samples x)) (name-other w.name last x e) (samples-other w.name (own_samples x)))
          (λ s own there. no-sample x w (each-in (AreBoth x) (written all (Some x) xs) w both its).1 s own (subst (λ l. Contains l s) (row-all last x (own_samples x)) there))
          (rest e its)

  -- what follows a row, by whether it is left out
  step : (last : Option Row) (x w : Row) (xs : List Row) (why : Option Reason) → IsNew last w.name → AllByRecursion (IsUp x) xs → Pairs IsUp xs
      → Pairs AreBoth (cond (is_some why) (written all last xs) (x ∷ written all (Some x) xs)) → Contains (cond (is_some why) (written all last xs) (x ∷ written all (Some x) xs)) w
      → ((next : Option Row) → IsNew next w.name → Pairs AreBoth (written all next xs) → Contains (written all next xs) w → TellsKindOnce (later_lines next xs) w (own_samples w))
      → TellsKindOnce (row_at cells all why last x ++ later_lines (cond (is_some why) last (Some x)) xs) w (own_samples w)
  step last x w xs (Some why) new up ups pairs has_w rest =
      in-front (leaves_out x why ∷ []) (later_lines last xs) w (own_samples w) (refl, tt) (λ s its there. in-none s there) (rest last new pairs has_w)
  step last x w xs None new up ups pairs has_w rest = row-once last x w xs new up ups pairs.0 has_w (λ other its. rest (Some x) other pairs.1 its)

  kind-once : (xs : List Row) (last : Option Row) (w : Row) → IsNew last w.name → Pairs IsUp xs → Pairs AreBoth (written all last xs) → Contains (written all last xs) w
      → TellsKindOnce (later_lines last xs) w (own_samples w)
  kind-once [] last w new ups pairs has_w = absurd (in-none w has_w)
  kind-once (x ∷ xs) last w new ups pairs has_w = step last x w xs (reason_of all last x) new ups.0 ups.1 pairs has_w (λ next other both its. kind-once xs next w other ups.1 both its)

pub text-tells : {naming : Naming} {legend : Legend} {places : List ℕ → ℕ} (cells : Cells) (text : List ℕ) → AreOfKinds cells → (e : IsScaled naming legend places cells text) → TellsKinds cells e.rows text
text-tells cells text kinds e =
    let h = text-lines cells text e in
    let done = written e.rows None e.rows in
    let both = pairs-both IsBefore (AreAcross cells) done (written-ascend e.rows e.all.ordered) (rows-across cells e.rows e.all.ordered (rows-read cells kinds)) in
    record {
      lines = record { all = lines_of cells e.rows None e.rows; text_is = h.text_is; readable = h.readable; samples_are = h.samples_are };
      once = λ w its. kind-once cells e.rows e.rows None w tt (rows-up row_total e.rows e.all.ordered) both its;
    }
