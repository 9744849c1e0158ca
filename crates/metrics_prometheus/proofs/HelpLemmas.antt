-- Each name that is written has the description of its first row, once, before the first of its samples.
use Rattle.std.proofs.Common.{◌≡◌, ◌∙◌, inl, inr, ℕ, Bool, true, false, cond, List, [], ◌∷◌, ◌++◌, map, Contains, Option, Some, None, is_some, refl, ap, sym, subst, append_assoc}
use Rattle.std.specs.Prelude.{bytes_eq}
use Rattle.std.specs.List.{AllByRecursion, filter_map}
use Rattle.std.specs.Ordering.{is_lt}
use Rattle.std.proofs.lemmas.Bool.{cond_both}
use Rattle.std.proofs.lemmas.List.Elements.{filter_map-append}
use Rattle.metrics_exporter.specs.Exporting.{Cells}
use Rattle.metrics_descriptions.specs.Legends.{Legend}
use Rattle.metrics_exposition.specs.Samples.{Sample}
use Rattle.metrics_exposition.specs.declared.naming.Naming.{Naming}
use Rattle.metrics_prometheus.specs.Exposition.{Row, Reason, reason_of, last_after, IsScaled}
use Rattle.metrics_prometheus.specs.Written.{written, Line, has, describes, tells_kind, leaves_out, sample_in, is_help_of, IsFirstNamed, DescribesAs, DescribesNames}
use Rattle.metrics_exposition.specs.Reading.{AreOfKinds}
use Rattle.metrics_exposition.proofs.PairLemmas.{each-append, each-in, in-append, in-none, in-split, Pairs, pairs-both}
use Rattle.metrics_exposition.proofs.SameLemmas.{bytes-same, same-bytes}
use Rattle.metrics_prometheus.proofs.WrittenLemmas.{IsBefore, written-ascend, IsUp, rows-up, row_total}
use Rattle.metrics_exposition.proofs.OrderLemmas.{names, first-part}
use Rattle.metrics_prometheus.proofs.DistinctLemmas.{AreAcross, rows-across}
use Rattle.metrics_prometheus.proofs.ReadingLemmas.{rows-read}
use Rattle.metrics_prometheus.proofs.TextLineLemmas.{help_at, begin_at, name_at, samples_at, row_at, lines_of, text-lines}
use Rattle.metrics_prometheus.proofs.TypeLemmas.{IsPast, past-next, past-other, IsNew, new-name, row-all, no-sample}

-- ---- lines without a description

-- a line doesn't describe that name
abbrev NoHelp : List ℕ → Line → Type 0
NoHelp n l = is_help_of n l ≡ false

help-of-other : (n name : List ℕ) (help : Option (List ℕ)) → bytes_eq name n ≡ false → AllByRecursion (NoHelp n) (help_at name help)
help-of-other n name None other = tt
help-of-other n name (Some text) other = (other, tt)

samples-no-help : (n : List ℕ) (ss : List Sample) → AllByRecursion (NoHelp n) (map has ss)
samples-no-help n [] = tt
samples-no-help n (s ∷ ss) = (refl, samples-no-help n ss)

begin-no-help : (n : List ℕ) (r : Row) → bytes_eq r.name n ≡ false → AllByRecursion (NoHelp n) (begin_at r)
begin-no-help n r other = each-append (NoHelp n) (help_at r.name r.help) (tells_kind r ∷ []) (help-of-other n r.name r.help other) (refl, tt)

name-no-help : (n : List ℕ) (last : Option Row) (r : Row) → bytes_eq r.name n ≡ false → AllByRecursion (NoHelp n) (name_at last r)
name-no-help n None r other = begin-no-help n r other
name-no-help n (Some w) r other = cond_both (bytes_eq w.name r.name) [] (begin_at r) (AllByRecursion (NoHelp n)) (λ _. tt) (λ _. begin-no-help n r other)

-- after a row that was written
name-later : (n : List ℕ) (v r : Row) → IsPast n v.name → is_lt (names r.name v.name) ≡ false → AllByRecursion (NoHelp n) (name_at (Some v) r)
name-later n v r past up = cond_both (bytes_eq v.name r.name) [] (begin_at r) (AllByRecursion (NoHelp n)) (λ _. tt) (λ other. begin-no-help n r (past-other n v.name r.name past up other))

-- lines before it
in-front : (front all : List Line) (n : List ℕ) (help : Option (List ℕ)) (ss : List Sample) → AllByRecursion (NoHelp n) front → ((s : Sample) → Contains ss s → Contains (filter_map sample_in front) s → ⊥)
    → DescribesAs all n help ss → DescribesAs (front ++ all) n help ss
in-front front all n None ss others none d = each-append (NoHelp n) front all others d
in-front front all n (Some text) ss others none d = record {
  before = front ++ d.before;
  after = d.after;
  all_are = ap (λ l. front ++ l) d.all_are ∙ sym (append_assoc front d.before (describes n text ∷ d.after));
  none_before = each-append (NoHelp n) front d.before others d.none_before;
  none_after = d.none_after;
  behind = λ s its there. elim (in-append (filter_map sample_in front) (filter_map sample_in d.before) s (subst (λ l. Contains l s) (filter_map-append sample_in front d.before) there)) [
    | inl h ↦ none s its h
    | inr h ↦ d.behind s its h
  ];
}

-- a row before others, of another name
first-later : (x : Row) (rows : List Row) (n : List ℕ) (first : Row) → bytes_eq x.name n ≡ false → IsFirstNamed rows n first → IsFirstNamed (x ∷ rows) n first
first-later x rows n first other f = record {
  before = x ∷ f.before;
  after = f.after;
  rows_are = ap (λ l. x ∷ l) f.rows_are;
  name = f.name;
  none_before = (other, f.none_before);
}

module _ (cells : Cells) (all : List Row) where
  abbrev later_lines : Option Row → List Row → List Line
  later_lines last xs = lines_of cells all last xs

  abbrev own_samples : Row → List Sample
  own_samples r = samples_at cells all r

  row-later : (n : List ℕ) (v x : Row) (why : Option Reason) → IsPast n v.name → is_lt (names x.name v.name) ≡ false → AllByRecursion (NoHelp n) (row_at cells all why (Some v) x)
  row-later n v x (Some why) past above = (refl, tt)
  row-later n v x None past above = each-append (NoHelp n) (name_at (Some v) x) (map has (own_samples x)) (name-later n v x past above) (samples-no-help n (own_samples x))

  none-later : (n : List ℕ) (v : Row) (xs : List Row) → IsPast n v.name → AllByRecursion (IsUp v) xs → Pairs IsUp xs → AllByRecursion (NoHelp n) (later_lines (Some v) xs)
  none-later n v [] past up ups = tt
  none-later n v (x ∷ xs) past up ups =
      let why = reason_of all (Some v) x in
      let above : is_lt (names x.name v.name) ≡ false = first-part (names x.name v.name) _ up.0 in
      each-append (NoHelp n) (row_at cells all why (Some v) x) (later_lines (last_after all (Some v) x) xs)
      (row-later n v x why past above)
      (cond_both (is_some why) (Some v) (Some x) (λ o. AllByRecursion (NoHelp n) (later_lines o xs))
      (λ _. none-later n v xs past up.1 ups.1)
      (λ _. none-later n x xs (past-next n v.name x.name past above) ups.0 ups.1))

  abbrev AreBoth : Row → Row → Type 0
  AreBoth a b = IsBefore a b × AreAcross cells a b

  -- rows that are written, and the lines that they have
  abbrev Helped : List Row → List Line → Row → Type 0
  Helped rows ls w = (first : Row) × IsFirstNamed rows w.name first × DescribesAs ls w.name first.help (own_samples w)

  -- the row begins its name
  begins-here : (last : Option Row) (x w : Row) (xs : List Row) → IsNew last w.name → x.name ≡ w.name → AllByRecursion (IsUp x) xs → Pairs IsUp xs
      → DescribesAs ((name_at last x ++ map has (own_samples x)) ++ later_lines (Some x) xs) w.name x.help (own_samples w)
  begins-here last x w xs new same up ups = subst (λ l. DescribesAs ((l ++ ss) ++ rest) w.name x.help (own_samples w)) (sym (new-name last x (subst (IsNew last) (sym same) new))) (go x.help)
    where
      ss : List Line
      ss = map has (own_samples x)

      rest : List Line
      rest = later_lines (Some x) xs

      none : AllByRecursion (NoHelp w.name) (ss ++ rest)
      none = each-append (NoHelp w.name) ss rest (samples-no-help w.name (own_samples x)) (none-later w.name x xs (inl (sym same)) up ups)

      go : (help : Option (List ℕ)) → DescribesAs (((help_at x.name help ++ tells_kind x ∷ []) ++ ss) ++ rest) w.name help (own_samples w)
      go None = (refl, none)
      go (Some text) = record {
        before = [];
        after = tells_kind x ∷ (ss ++ rest);
        all_are = ap (λ n. describes n text ∷ tells_kind x ∷ (ss ++ rest)) same;
        none_before = tt;
        none_after = (refl, none);
        behind = λ s its there. in-none s there;
      }

  -- a row that is written, and those after it
  row-once : (last : Option Row) (x w : Row) (xs : List Row) → IsNew last w.name → AllByRecursion (IsUp x) xs → Pairs IsUp xs
      → AllByRecursion (AreBoth x) (written all (Some x) xs) → Contains (x ∷ written all (Some x) xs) w
      → (IsNew (Some x) w.name → Contains (written all (Some x) xs) w → Helped (written all (Some x) xs) (later_lines (Some x) xs) w)
      → Helped (x ∷ written all (Some x) xs) ((name_at last x ++ map has (own_samples x)) ++ later_lines (Some x) xs) w
  row-once last x w xs new up ups both has_w rest = by-name (bytes_eq x.name w.name) refl
    where
      done : List Row
      done = written all (Some x) xs

      later : bytes_eq x.name w.name ≡ false → Contains done w
      later e = elim (in-split x done w has_w) [
        | inl is ↦ absurd (let g : true ≡ false = sym (bytes-same x.name w.name (ap (λ r. r.name) is)) ∙ e in cc)
        | inr its ↦ its
      ]

      by-name : (b : Bool) → bytes_eq x.name w.name ≡ b → Helped (x ∷ done) ((name_at last x ++ map has (own_samples x)) ++ later_lines (Some x) xs) w
      by-name true e =
          let same = same-bytes x.name w.name e in
          (x, record { before = []; after = done; rows_are = refl; name = same; none_before = tt }, begins-here last x w xs new same up ups)
      by-name false e =
          let its = later e in
          let (first, is, keyed) = rest e its in (
            first,
            first-later x done w.name first e is,
            in-front (name_at last x ++ map has (own_samples x)) (later_lines (Some x) xs) w.name first.help (own_samples w)
                (each-append (NoHelp w.name) (name_at last x) (map has (own_samples x)) (name-no-help w.name last x e) (samples-no-help w.name (own_samples x)))
                (λ s own there. no-sample cells all x w (each-in (AreBoth x) done w both its).1 s own (subst (λ l. Contains l s) (row-all last x (own_samples x)) there))
                keyed,
          )

  -- what follows a row, by whether it is left out
  step : (last : Option Row) (x w : Row) (xs : List Row) (why : Option Reason) → IsNew last w.name → AllByRecursion (IsUp x) xs → Pairs IsUp xs
      → Pairs AreBoth (cond (is_some why) (written all last xs) (x ∷ written all (Some x) xs)) → Contains (cond (is_some why) (written all last xs) (x ∷ written all (Some x) xs)) w
      → ((next : Option Row) → IsNew next w.name → Pairs AreBoth (written all next xs) → Contains (written all next xs) w → Helped (written all next xs) (later_lines next xs) w)
      → Helped (cond (is_some why) (written all last xs) (x ∷ written all (Some x) xs)) (row_at cells all why last x ++ later_lines (cond (is_some why) last (Some x)) xs) w
  step last x w xs (Some why) new up ups pairs has_w rest =
      let (first, is, keyed) = rest last new pairs has_w in
      (first, is, in-front (leaves_out x why ∷ []) (later_lines last xs) w.name first.help (own_samples w) (refl, tt) (λ s its there. in-none s there) keyed)
  step last x w xs None new up ups pairs has_w rest = row-once last x w xs new up ups pairs.0 has_w (λ other its. rest (Some x) other pairs.1 its)

  help-once : (xs : List Row) (last : Option Row) (w : Row) → IsNew last w.name → Pairs IsUp xs → Pairs AreBoth (written all last xs) → Contains (written all last xs) w
      → Helped (written all last xs) (later_lines last xs) w
  help-once [] last w new ups pairs has_w = absurd (in-none w has_w)
  help-once (x ∷ xs) last w new ups pairs has_w = step last x w xs (reason_of all last x) new ups.0 ups.1 pairs has_w (λ next other both its. help-once xs next w other ups.1 both its)

pub text-describes : {naming : Naming} {legend : Legend} {places : List ℕ → ℕ} (cells : Cells) (text : List ℕ) → AreOfKinds cells → (e : IsScaled naming legend places cells text) → DescribesNames cells e.rows text
text-describes cells text kinds e =
    let h = text-lines cells text e in
    let done = written e.rows None e.rows in
    let both = pairs-both IsBefore (AreAcross cells) done (written-ascend e.rows e.all.ordered) (rows-across cells e.rows e.all.ordered (rows-read cells kinds)) in
    record {
      lines = record { all = lines_of cells e.rows None e.rows; text_is = h.text_is; readable = h.readable; samples_are = h.samples_are };
      once = λ w its. help-once cells e.rows e.rows None w tt (rows-up row_total e.rows e.all.ordered) both its;
    }
