-- What is added, one after another.
use Rattle.std.proofs.Common.{◌≡◌, ◌∙◌, ℕ, ◌+◌, ◌<◌, ◌^◌, codes, decimal, Result, Ok, Err, OnOk, List, [], ◌∷◌, ◌++◌, map, take, length, get_or, string_bytes, Option, None, Some, inl, inr, refl, ap, sym, subst, arith, append_assoc, append-nil, length-append}
use Rattle.std.specs.Prelude.{◌⊎◌}
use Rattle.std.specs.List.{AllByRecursion}
use Rattle.std.proofs.lemmas.Grind.{flat_map-append}
use Rattle.std.proofs.lemmas.List.{map-append, take_more}
use Rattle.metrics_names.specs.declared.common.Unit.{Unit as Measure}
use Rattle.metrics_names.specs.declared.kind.MetricKind.{MetricKind}
use Rattle.metrics_names.specs.Names.{KeyParts}
use Rattle.metrics.specs.Book.{no_description}
use Rattle.metrics_descriptions.specs.declared.descriptions.Described.{Described}
use Rattle.metrics_descriptions.specs.declared.descriptions.Descriptions.{Descriptions}
use Rattle.metrics_exporter.specs.declared.exporter.Exporter.{Exporter}
use Rattle.metrics_exporter.specs.declared.readings.ReadingRef.{ReadingRef}
use Rattle.metrics_exporter.specs.declared.readings.SeriesReading.{SeriesReading}
use Rattle.metrics_exporter.specs.declared.series.SeriesRef.{SeriesRef}
use Rattle.metrics_descriptions.specs.Legends.{Legend, no_legend, description_of, described_by, legend_described}
use Rattle.metrics_exporter.specs.Kept.{held_cells, described}
use Rattle.metrics_exporter.specs.Readings.{KeyedReading, all_read, keyed_reading, series_read, kind_shown, reading_shown, AreReadings}
use Rattle.metrics_exporter.specs.Gathering.{series_at}
use Rattle.tool_requests.specs.declared.requests.Request.TheVariants.{Describe}
use Rattle.tool_state.specs.declared.body.Body.{Body}
use Rattle.tool_state.specs.Runs.{Run}
use Rattle.tool_state.specs.State.{Entry, StateLine, IsLine, IsLineOf, lines_text, state_text, entries_of, calls_by, calls_of, legend_of}
use Rattle.tool_state.specs.Held.{recorded, BoundsBy, MakesAt, MakeReading, MakeReadings, IsStateOf}
use Rattle.tool_state.specs.Written.{Adds, AddsNotes, AddsReadings, TellsSame, KeepsSo, KeepsSame}
use Rattle.tool_state.proofs.EntryLemmas.{legend-append, lines-append, are-append}

-- ---- lines

pub adds-none : (body : Body) → Adds [] body body
adds-none body = ([], tt, refl, sym (append-nil (string_bytes body.text)), omega arith)

-- one line more
pub adds-parts : (e : Entry) (line old new : List ℕ) (n m : ℕ) → new ≡ (old ++ line) ++ 10 ∷ [] → m ≡ n + 1 → IsLine line e
    → (lines : List StateLine) × AllByRecursion IsLineOf lines × (entries_of lines ≡ e ∷ []) × (new ≡ old ++ lines_text lines) × (m ≡ n + length lines)
adds-parts e line old new n m text number says =
    ((line, e) ∷ [], (says, tt), refl, text ∙ append_assoc old line (10 ∷ []), omega (arith, number))

-- what an answer has, and what follows of it
pub on-ok : {T E : Type 0} (r : Result T E) (P Q : Type 0) → OnOk r P → (P → Q) → OnOk r Q
on-ok (Ok t) P Q h f = f h
on-ok (Err e) P Q h f = tt

pub adds-both : (xs ys : List Entry) (a b c : Body) → Adds xs a b → Adds ys b c → Adds (xs ++ ys) a c
adds-both xs ys a b c (ls, are, says, text, number) (ms, were, said, more, count) = (
  ls ++ ms,
  are-append ls ms are were,
  map-append (λ (l : StateLine). l.1) ls ms ∙ ap (λ l. l ++ entries_of ms) says ∙ ap (λ l. xs ++ l) said,
  more ∙ ap (λ z. z ++ lines_text ms) text ∙ append_assoc (string_bytes a.text) (lines_text ls) (lines_text ms) ∙ ap (λ z. string_bytes a.text ++ z) (sym (lines-append ls ms)),
  omega (arith, number, count, length-append ls ms),
)

-- ---- one element more

pub map-more : {A B : Type 0} (f : A → B) (xs : List A) (i : ℕ) (d : A) → i < length xs → map f (take (i + 1) xs) ≡ map f (take i xs) ++ f (get_or xs i d) ∷ []
map-more f xs i d small = ap (map f) (take_more xs i d small) ∙ map-append f (take i xs) (get_or xs i d ∷ [])

pub runs-more : (unit : Option Measure) (key : KeyParts) (runs : List Run) (i : ℕ) (d : Run) (a b c : Body) → i < length runs → Adds (map (recorded unit key) (take i runs)) a b
    → Adds (recorded unit key (get_or runs i d) ∷ []) b c → Adds (map (recorded unit key) (take (i + 1) runs)) a c
runs-more unit key runs i d a b c small before more =
    let P : List Entry → Type 0 = λ l. Adds l a c in
    subst P (sym (map-more (recorded unit key) runs i d small)) (adds-both (map (recorded unit key) (take i runs)) (recorded unit key (get_or runs i d) ∷ []) a b c before more)

-- ---- series

make-more : (bounds : BoundsBy) (keyed : List KeyedReading) (k : KeyedReading) (es own : List Entry) → MakeReadings bounds keyed es → MakeReading bounds k own
    → MakeReadings bounds (keyed ++ k ∷ []) (es ++ own)
make-more bounds [] k es own none make = (own, [], make, refl, ap (λ l. l ++ own) none ∙ sym (append-nil own))
make-more bounds (q ∷ keyed) k es own (first, others, makes, make-others, are) make =
    (first, others ++ own, makes, make-more bounds keyed k others own make-others make, ap (λ l. l ++ own) are ∙ append_assoc first others own)

pub readings-none : (bounds : BoundsBy) (body : Body) → AddsReadings bounds [] body body
readings-none bounds body = ([], adds-none body, refl)

pub readings-more : (bounds : BoundsBy) (series : List SeriesRef) (i : ℕ) (r : SeriesRef) (a b c : Body) → i < length series → r ≡ get_or series i r → AddsReadings bounds (all_read (take i series)) a b
    → (own : List Entry) × Adds own b c × MakeReading bounds (series_read r) own → AddsReadings bounds (all_read (take (i + 1) series)) a c
readings-more bounds series i r a b c small at (es, before, make) (own, more, makes) =
    let P : List KeyedReading → Type 0 = λ l. MakeReadings bounds l (es ++ own) in
    (es ++ own, adds-both es own a b c before more, subst P (sym (map-more series_read series i r small ∙ ap (λ q. all_read (take i series) ++ series_read q ∷ []) (sym at))) (make-more bounds (all_read (take i series)) (series_read r) es own make makes))

-- lines were added that make a reading of this kind, by what an answer has
pub reading-made : {T E : Type 0} (bounds : BoundsBy) (one : SeriesReading) (q : ReadingRef) (r : Result T E) (a b : Body) (P : Type 0) → one.reading ≡ q → OnOk r P
    → (P → (x : List Entry) × Adds x a b × MakeReading bounds (series_at (kind_shown q) one.key.now, reading_shown q) x)
    → OnOk r ((x : List Entry) × Adds x a b × MakeReading bounds (keyed_reading one) x)
reading-made bounds one q r a b P is did make =
    let Q : ReadingRef → Type 0 = λ p. (x : List Entry) × Adds x a b × MakeReading bounds (series_at (kind_shown p) one.key.now, reading_shown p) x in
    on-ok r _ _ did (λ h. subst Q (sym is) (make h))

-- ---- descriptions

pub no-text : (o : Option Described) → None ≡ (description_of o).text → description_of o ≡ no_description
no-text None e = refl
no-text (Some d) e = absurd (let bad : None ≡ Some d.text = e in cc)

pub notes-none : (told : Descriptions) (body : Body) → AddsNotes told told body body
notes-none told body = ([], adds-none body, refl, λ kind name. refl)

pub notes-one : (kind : MetricKind) (name : List ℕ) (unit : Option Measure) (text : List ℕ) (s t : Descriptions) (a b : Body)
    → ((k : MetricKind) (n : List ℕ) → described_by t k n ≡ legend_described kind name unit text (described_by s) k n)
    → Adds ((1, None, Describe kind name unit text) ∷ []) a b → AddsNotes s t a b
notes-one kind name unit text s t a b tells adds = ((1, None, Describe kind name unit text) ∷ [], adds, refl, tells)

pub notes-both : (r s t : Descriptions) (a b c : Body) → AddsNotes r s a b → AddsNotes s t b c → AddsNotes r t a c
notes-both r s t a b c (xs, first, none, told) (ys, later, nothing, tells) = (
  xs ++ ys,
  adds-both xs ys a b c first later,
  flat_map-append calls_by xs ys ∙ ap (λ l. l ++ calls_of ys) none ∙ nothing,
  λ kind name.
      let on : described_by s ≡ legend_of xs (described_by r) = λ i k n. told k n i in
      tells kind name ∙ ap (λ l. legend_of ys l kind name) on ∙ ap (λ l. l kind name) (sym (legend-append xs ys (described_by r))),
)

-- what had the description of `on` has it still
pub keeps-same : (kind : MetricKind) (name : List ℕ) (s t on : Descriptions) → KeepsSo s t kind name → TellsSame t on kind name → KeepsSame s t on
keeps-same kind name s t on keeps same k n was = go (keeps k n)
  where
    go : (described_by t k n ≡ described_by s k n) ⊎ ((k ≡ kind) × (n ≡ name)) → TellsSame t on k n
    go (inl e) = e ∙ was
    go (inr (e, f)) = ap (λ q. described_by t q n) e ∙ ap (described_by t kind) f ∙ same ∙ sym (ap (λ q. described_by on q n) e ∙ ap (described_by on kind) f)

abbrev pub AllSame : Descriptions → Descriptions → List KeyedReading → Type 0
AllSame t on keyed = AllByRecursion (λ k. TellsSame t on k.0.kind k.0.key.name) keyed

all-kept : (s t on : Descriptions) (keyed : List KeyedReading) → KeepsSame s t on → AllSame s on keyed → AllSame t on keyed
all-kept s t on [] keeps h = tt
all-kept s t on (k ∷ keyed) keeps h = (keeps k.0.kind k.0.key.name h.0, all-kept s t on keyed keeps h.1)

all-push : (t on : Descriptions) (keyed : List KeyedReading) (k : KeyedReading) → AllSame t on keyed → TellsSame t on k.0.kind k.0.key.name → AllSame t on (keyed ++ k ∷ [])
all-push t on [] k h g = (g, tt)
all-push t on (q ∷ keyed) k h g = (h.0, all-push t on keyed k h.1 g)

pub all-more : (s t on : Descriptions) (series : List SeriesRef) (i : ℕ) (r : SeriesRef) → i < length series → r ≡ get_or series i r → AllSame s on (all_read (take i series))
    → KeepsSame s t on → TellsSame t on (series_read r).0.kind (series_read r).0.key.name → AllSame t on (all_read (take (i + 1) series))
all-more s t on series i r small at all keeps same =
    subst (AllSame t on) (sym (map-more series_read series i r small ∙ ap (λ q. all_read (take i series) ++ series_read q ∷ []) (sym at))) (all-push t on (all_read (take i series)) (series_read r) (all-kept s t on (all_read (take i series)) keeps all) same)

-- ---- all

told-each : (told ds : Descriptions) (legend on : Legend) (keyed : List KeyedReading) → ((k : MetricKind) (n : List ℕ) → described_by told k n ≡ legend k n)
    → ((k : MetricKind) (n : List ℕ) → described_by ds k n ≡ on k n) → AllSame told ds keyed → AllByRecursion (λ k. legend k.0.kind k.0.key.name ≡ on k.0.kind k.0.key.name) keyed
told-each told ds legend on [] tells same h = tt
told-each told ds legend on (k ∷ keyed) tells same h =
    (sym (tells k.0.kind k.0.key.name) ∙ h.0 ∙ same k.0.kind k.0.key.name, told-each told ds legend on keyed tells same h.1)

-- a text of what was added to nothing is a state of what is held
pub state-made : (title text : List ℕ) (on : Exporter) (bounds : BoundsBy) (series xs ys : List SeriesRef) (start told ds : Descriptions) (a b c : Body) → MakesAt on bounds → xs ≡ series → ys ≡ series
    → AreReadings (held_cells on) (all_read series) → ((k : MetricKind) (n : List ℕ) → described_by start k n ≡ no_description) → string_bytes a.text ≡ [] → a.number ≡ 0
    → ((k : MetricKind) (n : List ℕ) → described_by ds k n ≡ described on k n) → AddsNotes start told a b → AllSame told ds (all_read xs) → AddsReadings bounds (all_read ys) b c
    → (c.number < 2 ^ 64) × (text ≡ title ++ 32 ∷ (decimal c.number ++ 32 ∷ (codes "lines\n" ++ string_bytes c.text))) → IsStateOf title on text
state-made title text on bounds series xs ys start told ds a b c at is-x is-y readings untold empty zero same (notes, first, silent, tells) all-same (own, later, make) (small, is) =
    (notes ++ own, (lines, are, omega (arith, small, count), whole, sym says), (bounds, all_read series, notes, own, at, readings, (silent, legend), made, refl))
  where
    both : Adds (notes ++ own) a c
    both = adds-both notes own a b c first later

    lines : List StateLine
    lines = both.0

    are : AllByRecursion IsLineOf lines
    are = both.1

    says : entries_of lines ≡ notes ++ own
    says = both.2

    count : c.number ≡ length lines
    count = omega (arith, both.4, zero)

    body : string_bytes c.text ≡ lines_text lines
    body = both.3 ∙ ap (λ z. z ++ lines_text lines) empty

    whole : text ≡ state_text title lines
    whole = is ∙ ap (λ n. title ++ 32 ∷ (decimal n ++ 32 ∷ (codes "lines\n" ++ string_bytes c.text))) count
        ∙ ap (λ z. title ++ 32 ∷ (decimal (length lines) ++ 32 ∷ (codes "lines\n" ++ z))) body

    made : MakeReadings bounds (all_read series) own
    made = let P : List SeriesRef → Type 0 = λ l. MakeReadings bounds (all_read l) own in subst P is-y make

    legend : AllByRecursion (λ k. legend_of notes no_legend k.0.kind k.0.key.name ≡ described on k.0.kind k.0.key.name) (all_read series)
    legend =
        let plain : described_by start ≡ no_legend = λ i k n. untold k n i in
        told-each told ds (legend_of notes no_legend) (described on) (all_read series) (λ k n. tells k n ∙ ap (λ l. legend_of notes l k n) plain) same
        (let P : List SeriesRef → Type 0 = λ l. AllSame told ds (all_read l) in subst P is-x all-same)
