-- The samples of rows are of different series.
use Rattle.std.proofs.Common.{◌≡◌, ◌∙◌, ◌-◌, ℕ, ℤ, Bool, true, false, cond, is_some, ◌||◌, ◌&&◌, nat_eq, List, [], ◌∷◌, ◌++◌, map, codes, reverse, length, take, drop, get_or, Option, Some, None, refl, ap, sym, arith, append-nil}
use Rattle.std.specs.Prelude.{int_lt, bytes_eq}
use Rattle.std.specs.List.{AllByRecursion, list_any, ends_with}
use Rattle.std.specs.Fmt.{decimal}
use Rattle.std.specs.Option.{option_or}
use Rattle.std.proofs.lemmas.Int.{ints}
use Rattle.std.proofs.lemmas.Bool.Decides.{Decides-eqb}
use Rattle.std.proofs.lemmas.List.{append_cancel_left, append_cancel_right, reverse-append, take_at, length-append}
use Rattle.std.proofs.lemmas.Slice.Eq.{ends_is}
use Rattle.metrics_names.specs.declared.kind.MetricKind.TheVariants.{Histogram}
use Rattle.metrics_names.specs.Names.{LabelParts, kind_eq}
use Rattle.metrics_storage.specs.Histogram.{Distribution, ascending}
use Rattle.metrics_exporter.specs.Exporting.{Reading, count, level, samples}
use Rattle.metrics_exposition.specs.Numbers.{number as number_text}
use Rattle.metrics_exposition.specs.Samples.{Sample, bucket_sample, histogram_samples}
use Rattle.metrics_exposition.specs.Reading.{IsSmall, ReadsAs}
use Rattle.metrics_prometheus.specs.Exposition.{Row, histogram_names, found_in, part_of, whole_of, is_taken, samples_of}
use Rattle.metrics_prometheus.specs.Written.{AreApart}
use Rattle.metrics_exposition.proofs.PairLemmas.{each-map, each-append, Pairs, pairs-append}
use Rattle.metrics_exposition.proofs.NumeralLemmas.{no-infinity, number-injective}
use Rattle.metrics_exposition.proofs.BoundLemmas.{IsBelow, with-each, with-up}

-- samples are of different series
abbrev pub Differ : Sample → Sample → Type 0
Differ s t = s.name ≡ t.name → s.labels ≡ t.labels → ⊥

-- ---- the ends of the names of a histogram's samples

pub data End : Type 0 where
  bucket : End
  sum : End
  number : End

abbrev pub end_text : End → List ℕ
end_text bucket = codes "_bucket"
end_text sum = codes "_sum"
end_text number = codes "_count"

-- what follows the row's labels
abbrev pub more : End → LabelParts → List LabelParts
more bucket l = l ∷ []
more sum l = []
more number l = []

ends : (x y s t : List ℕ) → x ++ s ≡ y ++ t → reverse s ++ reverse x ≡ reverse t ++ reverse y
ends x y s t h = sym (reverse-append x s) ∙ ap reverse h ∙ reverse-append y t

ends-same : (e f : End) (x y : List ℕ) → x ++ end_text e ≡ y ++ end_text f → (e ≡ f) × (x ≡ y)
ends-same bucket bucket x y h = (refl, append_cancel_right x y (codes "_bucket") h)
ends-same bucket sum x y h = absurd (let g : 116 ≡ 109 = ap (λ l. get_or l 0 0) (ends x y (codes "_bucket") (codes "_sum") h) in omega (arith, g))
ends-same bucket number x y h = absurd (let g : 101 ≡ 110 = ap (λ l. get_or l 1 0) (ends x y (codes "_bucket") (codes "_count") h) in omega (arith, g))
ends-same sum bucket x y h = absurd (let g : 109 ≡ 116 = ap (λ l. get_or l 0 0) (ends x y (codes "_sum") (codes "_bucket") h) in omega (arith, g))
ends-same sum sum x y h = (refl, append_cancel_right x y (codes "_sum") h)
ends-same sum number x y h = absurd (let g : 109 ≡ 116 = ap (λ l. get_or l 0 0) (ends x y (codes "_sum") (codes "_count") h) in omega (arith, g))
ends-same number bucket x y h = absurd (let g : 110 ≡ 101 = ap (λ l. get_or l 1 0) (ends x y (codes "_count") (codes "_bucket") h) in omega (arith, g))
ends-same number sum x y h = absurd (let g : 116 ≡ 109 = ap (λ l. get_or l 0 0) (ends x y (codes "_count") (codes "_sum") h) in omega (arith, g))
ends-same number number x y h = (refl, append_cancel_right x y (codes "_count") h)

-- the last one off
front-same : (xs ys : List LabelParts) (l m : LabelParts) → xs ++ l ∷ [] ≡ ys ++ m ∷ [] → xs ≡ ys
front-same [] [] l m h = refl
front-same [] (y ∷ ys) l m h = absurd (let g : 1 ≡ length ((y ∷ ys) ++ m ∷ []) = ap length h in omega (arith, g, length-append (y ∷ ys) (m ∷ [])))
front-same (x ∷ xs) [] l m h = absurd (let g : length ((x ∷ xs) ++ l ∷ []) ≡ 1 = ap length h in omega (arith, g, length-append (x ∷ xs) (l ∷ [])))
front-same (x ∷ xs) (y ∷ ys) l m h = ap (λ z. z ∷ xs) (ap (head_or x) h) ∙ ap (λ zs. y ∷ zs) (front-same xs ys l m (ap (drop 1) h))
  where
    head_or : LabelParts → List LabelParts → LabelParts
    head_or d zs = get_or zs 0 d

labels-front : (e : End) (xs ys : List LabelParts) (l m : LabelParts) → xs ++ more e l ≡ ys ++ more e m → xs ≡ ys
labels-front bucket xs ys l m h = front-same xs ys l m h
labels-front sum xs ys l m h = sym (append-nil xs) ∙ h ∙ append-nil ys
labels-front number xs ys l m h = sym (append-nil xs) ∙ h ∙ append-nil ys

-- ---- samples of two rows

-- a sample of a row: of a histogram it is one of its parts
pub data IsOf (r : Row) (s : Sample) : Type 0 where
  whole : kind_eq r.kind Histogram ≡ false → s.name ≡ r.name → s.labels ≡ r.labels → IsOf r s
  part : kind_eq r.kind Histogram ≡ true → (e : End) (l : LabelParts) → s.name ≡ r.name ++ end_text e → s.labels ≡ r.labels ++ more e l → IsOf r s

-- a histogram's name is among those of histograms
abbrev pub IsAmong : List Row → Row → Type 0
IsAmong all r = kind_eq r.kind Histogram ≡ true → list_any (bytes_eq r.name) (histogram_names all) ≡ true

-- a row that may be in the text
abbrev pub IsFree : List Row → Row → Type 0
IsFree all r = (is_taken all r.name ≡ false) × IsAmong all r

pub or-first : (a b : Bool) → a ≡ true → (a || b) ≡ true
or-first true b e = refl
or-first false b e = absurd (let g : false ≡ true = e in cc)

pub or-second : (a b : Bool) → b ≡ true → (a || b) ≡ true
or-second true b e = refl
or-second false b e = e

pub both : (a b : Bool) → a ≡ true → b ≡ true → (a && b) ≡ true
both true b e f = f
both false b e f = absurd (let g : false ≡ true = e in cc)

-- the first of two that is there, or the second
some-first : {A : Type 0} (a b : Option A) → is_some a ≡ true → is_some (option_or a b) ≡ true
some-first None b e = absurd (let g : false ≡ true = e in cc)
some-first (Some x) b e = refl

some-second : {A : Type 0} (a b : Option A) → is_some b ≡ true → is_some (option_or a b) ≡ true
some-second None b e = e
some-second (Some x) b e = refl

found : (hs : List (List ℕ)) (x : List ℕ) → list_any (bytes_eq x) hs ≡ true → is_some (found_in hs x) ≡ true
found hs x h = ap (λ b. is_some (cond b (Some x) None)) h

is-part : (hs : List (List ℕ)) (x end : List ℕ) → list_any (bytes_eq x) hs ≡ true → is_some (part_of hs (x ++ end) end) ≡ true
is-part hs x end h =
    let is : ends_with nat_eq (x ++ end) end ≡ true = (ends_is Decides-eqb (x ++ end) end (ends_with nat_eq (x ++ end) end) refl).1 x refl in
    let front : take (length (x ++ end) - length end) (x ++ end) ≡ x = take_at x end (length (x ++ end) - length end) (omega (arith, length-append x end)) in
    ap (λ b. is_some (cond b (found_in hs (take (length (x ++ end) - length end) (x ++ end))) None)) is ∙ ap (λ y. is_some (found_in hs y)) front ∙ found hs x h

taken : (hs : List (List ℕ)) (x : List ℕ) (e : End) → list_any (bytes_eq x) hs ≡ true → is_some (whole_of hs (x ++ end_text e)) ≡ true
taken hs x bucket h = some-first (part_of hs (x ++ codes "_bucket") (codes "_bucket")) _ (is-part hs x (codes "_bucket") h)
taken hs x sum h = some-second (part_of hs (x ++ codes "_sum") (codes "_bucket")) _ (some-first (part_of hs (x ++ codes "_sum") (codes "_sum")) _ (is-part hs x (codes "_sum") h))
taken hs x number h = some-second (part_of hs (x ++ codes "_count") (codes "_bucket")) _ (some-second (part_of hs (x ++ codes "_count") (codes "_sum")) _ (is-part hs x (codes "_count") h))

not-taken : (all : List Row) (a b : Row) (e : End) → IsFree all a → IsAmong all b → kind_eq b.kind Histogram ≡ true → a.name ≡ b.name ++ end_text e → ⊥
not-taken all a b e free among hist is =
    absurd (let g : false ≡ true = sym free.0 ∙ ap (is_taken all) is ∙ taken (histogram_names all) b.name e (among hist) in cc)

pub of-two : (all : List Row) (a b : Row) → IsFree all a → IsFree all b → AreApart a b → (s t : Sample) → IsOf a s → IsOf b t → Differ s t
of-two all a b fa fb apart s t (whole k n l) (whole k' n' l') names labels = (apart (sym n ∙ names ∙ n')).1 (sym l ∙ labels ∙ l')
of-two all a b fa fb apart s t (whole k n l) (part k' e x n' l') names labels = not-taken all a b e fa fb.1 k' (sym n ∙ names ∙ n')
of-two all a b fa fb apart s t (part k e x n l) (whole k' n' l') names labels = not-taken all b a e fb fa.1 k (sym n' ∙ sym names ∙ n)
of-two all a b fa fb apart s t (part k e x n l) (part k' f y n' l') names labels =
    let same = ends-same e f a.name b.name (sym n ∙ names ∙ n') in
    (apart same.1).1 (labels-front f a.labels b.labels x y (ap (λ g. a.labels ++ more g x) (sym same.0) ∙ sym l ∙ labels ∙ l'))

-- ---- samples of one row

lt-never : (a b : ℤ) → a ≡ b → int_lt a b ≡ true → ⊥
lt-never a b e h = absurd (let g : int_lt b b ≡ true = ap (λ z. int_lt z b) (sym e) ∙ h in grind (arith, ints))

-- the value of the last label
last-value : (labels : List LabelParts) (v w : List ℕ) → labels ++ (codes "le", v) ∷ [] ≡ labels ++ (codes "le", w) ∷ [] → v ≡ w
last-value labels v w h = ap (λ ls. (get_or {A = LabelParts} ls 0 (codes "le", v)).1) (append_cancel_left labels ((codes "le", v) ∷ []) ((codes "le", w) ∷ []) h)

module _ (r : Row) (d : Distribution) where
  abbrev bucket_of : ℤ × ℕ → Sample
  bucket_of b = bucket_sample r.name r.labels (number_text r.places b.0) b.1

  abbrev all_of : Sample
  all_of = bucket_sample r.name r.labels (codes "+Inf") d.count

  abbrev sum_of : Sample
  sum_of = record { name = r.name ++ codes "_sum"; labels = r.labels; value = number_text r.places d.sum }

  abbrev number_of : Sample
  number_of = record { name = r.name ++ codes "_count"; labels = r.labels; value = decimal d.count }

  end-differs : (e f : End) → (e ≡ f → ⊥) → r.name ++ end_text e ≡ r.name ++ end_text f → ⊥
  end-differs e f apart h = apart (ends-same e f r.name r.name h).0

  bucket≢sum : bucket ≡ sum → ⊥
  bucket≢sum e = cc

  bucket≢number : bucket ≡ number → ⊥
  bucket≢number e = cc

  sum≢number : sum ≡ number → ⊥
  sum≢number e = cc

  later-buckets : (b : ℤ × ℕ) → IsSmall b → (cs : List (ℤ × ℕ)) → AllByRecursion IsSmall cs → AllByRecursion (IsBelow b) cs → AllByRecursion (Differ (bucket_of b)) (map bucket_of cs)
  later-buckets b small [] h up = tt
  later-buckets b small (c ∷ cs) h up =
      ((λ _ same. lt-never b.0 c.0 (number-injective r.places b.0 c.0 small h.0 (last-value r.labels (number_text r.places b.0) (number_text r.places c.0) same)) up.0), later-buckets b small cs h.1 up.1)

  buckets-differ : (bs : List (ℤ × ℕ)) → AllByRecursion IsSmall bs → Pairs IsBelow bs → Pairs Differ (map bucket_of bs)
  buckets-differ [] h up = tt
  buckets-differ (b ∷ bs) h up = (later-buckets b h.0 bs h.1 up.0, buckets-differ bs h.1 up.1)

  rest-differs : (bs : List (ℤ × ℕ)) → AllByRecursion IsSmall bs → AllByRecursion (λ x. AllByRecursion (Differ x) (all_of ∷ sum_of ∷ number_of ∷ [])) (map bucket_of bs)
  rest-differs [] h = tt
  rest-differs (b ∷ bs) h = (
    (
      (λ _ same. no-infinity r.places b.0 h.0 (last-value r.labels (number_text r.places b.0) (codes "+Inf") same)),
      ((λ same _. end-differs bucket sum bucket≢sum same), ((λ same _. end-differs bucket number bucket≢number same), tt)),
    ),
    rest-differs bs h.1,
  )

  -- the samples of one histogram
  pub own-differ : AllByRecursion IsSmall d.buckets → Pairs Differ (histogram_samples r.places r.name r.labels d)
  own-differ small =
      let bs = ascending d.buckets in
      let smalls = with-each IsSmall [] d.buckets tt small in
      pairs-append Differ (map bucket_of bs) (all_of ∷ sum_of ∷ number_of ∷ []) (buckets-differ bs smalls (with-up [] d.buckets tt))
      (((λ same _. end-differs bucket sum bucket≢sum same), ((λ same _. end-differs bucket number bucket≢number same), tt)), (((λ same _. end-differs sum number sum≢number same), tt), (tt, tt)))
      (rest-differs bs smalls)

  buckets-are : kind_eq r.kind Histogram ≡ true → (bs : List (ℤ × ℕ)) → AllByRecursion (IsOf r) (map bucket_of bs)
  buckets-are k [] = tt
  buckets-are k (b ∷ bs) = (part k bucket (codes "le", number_text r.places b.0) refl refl, buckets-are k bs)

  pub own-are : kind_eq r.kind Histogram ≡ true → AllByRecursion (IsOf r) (histogram_samples r.places r.name r.labels d)
  own-are k =
      let none : LabelParts = (codes "le", codes "+Inf") in
      each-append (IsOf r) (map bucket_of (ascending d.buckets)) (all_of ∷ sum_of ∷ number_of ∷ []) (buckets-are k (ascending d.buckets))
      (part k bucket none refl refl, (part k sum none refl (sym (append-nil r.labels)), (part k number none refl (sym (append-nil r.labels)), tt)))

-- ---- the samples of a row, if its reading is of its kind

pub row-differs : (r : Row) (o : Option Reading) → ReadsAs r.kind o → Pairs Differ (samples_of r o)
row-differs r None h = tt
row-differs r (Some (count n)) h = (tt, tt)
row-differs r (Some (level n)) h = (tt, tt)
row-differs r (Some (samples d)) h = own-differ r d h.1

pub row-are : (r : Row) (o : Option Reading) → ReadsAs r.kind o → AllByRecursion (IsOf r) (samples_of r o)
row-are r None h = tt
row-are r (Some (count n)) h = (whole h refl refl, tt)
row-are r (Some (level n)) h = (whole h refl refl, tt)
row-are r (Some (samples d)) h = own-are r d h.0

-- the samples of two rows
pub rows-differ : (all : List Row) (a b : Row) (o p : Option Reading) → ReadsAs a.kind o → ReadsAs b.kind p → IsFree all a → IsFree all b → AreApart a b
    → AllByRecursion (λ s. AllByRecursion (Differ s) (samples_of b p)) (samples_of a o)
rows-differ all a b o p ra rb fa fb apart =
    each-map (IsOf a) (λ s. AllByRecursion (Differ s) (samples_of b p)) (λ s is. each-map (IsOf b) (Differ s) (λ t its. of-two all a b fa fb apart s t is its) (samples_of b p) (row-are b p rb)) (samples_of a o) (row-are a o ra)
