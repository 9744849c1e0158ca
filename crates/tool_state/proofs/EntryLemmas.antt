-- What lines do, one after another.
use Rattle.std.proofs.Common.{◌≡◌, ◌∙◌, ℕ, ◌+◌, ◌<◌, ◌^◌, Bool, true, eqb, codes, decimal, Option, List, [], ◌∷◌, ◌++◌, length, Ok, refl, ap, sym, subst, arith, append_assoc, append-nil, length-append}
use Rattle.std.specs.Prelude.{replicate}
use Rattle.std.specs.List.{AllByRecursion}
use Rattle.std.proofs.lemmas.Bool.{eqb-true}
use Rattle.std.proofs.lemmas.Grind.{flat_map-append}
use Rattle.std.proofs.lemmas.List.{map-append, replicate-append-replicate}
use Rattle.metrics_names.specs.declared.common.Unit.{Unit as Measure}
use Rattle.metrics_names.specs.declared.kind.MetricKind.{MetricKind}
use Rattle.metrics_names.specs.Names.{KeyParts}
use Rattle.metrics.specs.declared.handles.Update.{Update}
use Rattle.metrics_exporter.specs.declared.exporter.Exporter.{Exporter}
use Rattle.metrics_exporter.specs.Exporting.{Setup, Log, updates_in}
use Rattle.metrics_descriptions.specs.Legends.{Legend, DescribesName}
use Rattle.metrics_exporter.specs.Kept.{IsAfter, described}
use Rattle.tool_requests.specs.declared.requests.Request.TheVariants.{Change, Describe}
use Rattle.tool_state.specs.State.{Entry, made_in, StateLine, IsLine, IsLineOf, lines_text, entries_of, calls_by, calls_of, legend_by, legend_of, DoesAll, ReadsState}

-- ---- an update so many times

pub made-none : (log : Log) (unit : Option Measure) (key : KeyParts) → log ≡ log ++ made_in unit key []
made-none log unit key = sym (append-nil log)

made-push : (unit : Option Measure) (key : KeyParts) (us : List Update) (u : Update) → made_in unit key (us ++ u ∷ []) ≡ made_in unit key us ++ updates_in unit key u (Ok tt) ∷ []
made-push unit key us u = map-append (λ w. updates_in unit key w (Ok tt)) us (u ∷ [])

pub made-more : (log : Log) (unit : Option Measure) (key : KeyParts) (by : Update) (n : ℕ)
    → (log ++ made_in unit key (replicate n by)) ++ updates_in unit key by (Ok tt) ∷ [] ≡ log ++ made_in unit key (replicate (n + 1) by)
made-more log unit key by n =
    append_assoc log (made_in unit key (replicate n by)) (updates_in unit key by (Ok tt) ∷ [])
    ∙ ap (λ l. log ++ l) (sym (made-push unit key (replicate n by) by))
    ∙ ap (λ l. log ++ made_in unit key l) (replicate-append-replicate n 1 by)

-- ---- entries

pub legend-append : (a b : List Entry) (legend : Legend) → legend_of (a ++ b) legend ≡ legend_of b (legend_of a legend)
legend-append [] b legend = refl
legend-append (e ∷ a) b legend = legend-append a b (legend_by e legend)

pub does-none : (on : Exporter) → DoesAll [] on on
does-none on = (
  λ setup log after. let P : Log → Type 0 = λ l. IsAfter setup l on in subst P (sym (append-nil log)) after,
  λ kind name. refl,
)

pub does-both : (xs ys : List Entry) (a b c : Exporter) → DoesAll xs a b → DoesAll ys b c → DoesAll (xs ++ ys) a c
does-both xs ys a b c (first, told) (later, tells) = (
  λ setup log after.
      let P : Log → Type 0 = λ l. IsAfter setup l c in
      subst P (append_assoc log (calls_of xs) (calls_of ys) ∙ ap (λ l. log ++ l) (sym (flat_map-append calls_by xs ys)))
      (later setup (log ++ calls_of xs) (first setup log after)),
  λ kind name.
      let on : described b ≡ legend_of xs (described a) = λ i k n. told k n i in
      tells kind name ∙ ap (λ l. legend_of ys l kind name) on ∙ ap (λ l. l kind name) (sym (legend-append xs ys (described a))),
)

pub does-update : (n : ℕ) (unit : Option Measure) (key : KeyParts) (by : Update) (a b : Exporter)
    → ((setup : Setup) (log : Log) → IsAfter setup log a → IsAfter setup (log ++ made_in unit key (replicate n by)) b) → described b ≡ described a → DoesAll ((n, unit, Change key by) ∷ []) a b
does-update n unit key by a b does same = (
  λ setup log after. let P : Log → Type 0 = λ l. IsAfter setup (log ++ l) b in subst P (sym (append-nil (made_in unit key (replicate n by)))) (does setup log after),
  λ k m. ap (λ l. l k m) same,
)

pub does-description : (n : ℕ) (made_in : Option Measure) (kind : MetricKind) (name : List ℕ) (unit : Option Measure) (note : List ℕ) (a b : Exporter)
    → ((setup : Setup) (log : Log) → IsAfter setup log a → IsAfter setup log b) → DescribesName kind name unit note (described a) (described b) → DoesAll ((n, made_in, Describe kind name unit note) ∷ []) a b
does-description n made_in kind name unit note a b same tells = (
  λ setup log after. let P : Log → Type 0 = λ l. IsAfter setup l b in subst P (sym (append-nil log)) (same setup log after),
  tells,
)

-- ---- lines

pub none-left : (xs : List ℕ) (b : Bool) → b ≡ eqb (length xs) 0 → b ≡ true → xs ≡ []
none-left [] b e f = refl
none-left (x ∷ xs) b e f = let none : length (x ∷ xs) ≡ 0 = eqb-true (length (x ∷ xs)) 0 (sym e ∙ f) in absurd (omega (arith, none))

pub shorter : (rest line others : List ℕ) → rest ≡ line ++ 10 ∷ others → length others < length rest
shorter rest line others is = let all : length rest ≡ length line + length (10 ∷ others) = ap length is ∙ length-append line (10 ∷ others) in omega (arith, all)

pub lines-append : (a b : List StateLine) → lines_text (a ++ b) ≡ lines_text a ++ lines_text b
lines-append [] b = refl
lines-append (l ∷ a) b = ap (λ z. l.0 ++ 10 ∷ z) (lines-append a b) ∙ sym (append_assoc l.0 (10 ∷ lines_text a) (lines_text b))

pub are-append : (a b : List StateLine) → AllByRecursion IsLineOf a → AllByRecursion IsLineOf b → AllByRecursion IsLineOf (a ++ b)
are-append [] b h g = g
are-append (l ∷ a) b h g = (h.0, are-append a b h.1 g)

-- so many lines were read, and done
pub record LinesSoFar (bytes rest : List ℕ) (number : ℕ) (old new : Exporter) : Type 0 where
  pub lines : List StateLine
  pub are : AllByRecursion IsLineOf lines
  pub count : number ≡ length lines
  pub whole : bytes ≡ lines_text lines ++ rest
  pub does : DoesAll (entries_of lines) old new

pub so-far-none : (bytes : List ℕ) (on : Exporter) → LinesSoFar bytes bytes 0 on on
so-far-none bytes on = record { lines = []; are = tt; count = refl; whole = refl; does = does-none on }

pub so-far-more : (bytes rest line others : List ℕ) (n m : ℕ) (old on new : Exporter) → LinesSoFar bytes rest n old on → rest ≡ line ++ 10 ∷ others → m ≡ n + 1
    → (e : Entry) × IsLine line e × DoesAll (e ∷ []) on new → LinesSoFar bytes others m old new
so-far-more bytes rest line others n m old on new so is one (e, says, done) = record {
  lines = so.lines ++ (line, e) ∷ [];
  are = are-append so.lines ((line, e) ∷ []) so.are (says, tt);
  count = omega (arith, one, so.count, length-append so.lines ((line, e) ∷ []));
  whole = so.whole ∙ ap (λ z. lines_text so.lines ++ z) (is ∙ sym (append_assoc line (10 ∷ []) others))
      ∙ sym (append_assoc (lines_text so.lines) (line ++ 10 ∷ []) others) ∙ ap (λ z. z ++ others) (sym (lines-append so.lines ((line, e) ∷ [])));
  does = let D : List Entry → Type 0 = λ l. DoesAll l old new in
      subst D (sym (map-append (λ (l : StateLine). l.1) so.lines ((line, e) ∷ []))) (does-both (entries_of so.lines) (e ∷ []) old on new so.does done);
}

-- all lines
pub so-far-end : (bytes rest : List ℕ) (n : ℕ) (old new : Exporter) → LinesSoFar bytes rest n old new → rest ≡ []
    → (lines : List StateLine) × AllByRecursion IsLineOf lines × (n ≡ length lines) × (bytes ≡ lines_text lines) × DoesAll (entries_of lines) old new
so-far-end bytes rest n old new so none =
    (so.lines, so.are, so.count, so.whole ∙ ap (λ z. lines_text so.lines ++ z) none ∙ append-nil (lines_text so.lines), so.does)

-- a state is its first line, and the others
pub state-read : (title bytes rest : List ℕ) (wanted number : ℕ) (old new : Exporter) → number < 2 ^ 64 → bytes ≡ title ++ 32 ∷ (decimal wanted ++ 32 ∷ (codes "lines\n" ++ rest)) → number ≡ wanted
    → (lines : List StateLine) × AllByRecursion IsLineOf lines × (number ≡ length lines) × (rest ≡ lines_text lines) × DoesAll (entries_of lines) old new → ReadsState title bytes old new
state-read title bytes rest wanted number old new small head same (lines, are, count, whole, does) = (
  entries_of lines,
  (
    lines,
    are,
    omega (arith, small, count),
    head ∙ ap (λ n. title ++ 32 ∷ (decimal n ++ 32 ∷ (codes "lines\n" ++ rest))) (sym same ∙ count) ∙ ap (λ r. title ++ 32 ∷ (decimal (length lines) ++ 32 ∷ (codes "lines\n" ++ r))) whole,
    refl,
  ),
  does,
)
