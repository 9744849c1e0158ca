-- A run that neither memory, the device nor the file ended wrote the text of its input.
use Rattle.std.proofs.Common.{if◌then◌else◌, ◌≡◌, ◌≢◌, ◌∙◌, ℕ, Bool, true, false, ◌&&◌, ◌||◌, List, [], ◌∷◌, ◌++◌, ◌⊎◌, inl, inr, refl, sym, ap, subst}
use Rattle.std.proofs.Common.{Option, None, Some, Result, Ok, Err, append_assoc, append-nil}
use Rattle.std.proofs.lemmas.List.{append_cancel_right}
use Rattle.std.proofs.lemmas.List.Concat.{flat_map-append}
use Rattle.metrics_exporter.specs.Exporting.{Setup, Log, updates_in, expires, steps, cells_after, series_of, HoldsSome}
use Rattle.metrics.specs.declared.error.Error.TheVariants as error
use Rattle.metrics_descriptions.specs.Legends.{SameLegend}
use Rattle.metrics_exporter.specs.Describing.{unit_told}
use Rattle.metrics_exporter.specs.Kept.{IsAfter, described}
use Rattle.metrics_exposition.specs.declared.naming.Naming.{Naming}
use Rattle.tool_grammar.specs.declared.error.RunError.{RunError}
use Rattle.tool_grammar.specs.declared.error.RunError.TheVariants.{Memory, BadLine, Device}
use Rattle.tool_stream.specs.Lines.{lines_of, ended_lines, unlines, ended}
use Rattle.tool_stream.specs.Answering.{Dialogue, lines_in as lines_said, texts_in, AreAnswered, AreFirst, IsRun, IsLeft}
use Rattle.tool_stream.proofs.LinesLemmas.{lines-cut, ended-cut, ended-left, cut-none, cut-some}
use Rattle.tool_prometheus.specs.Making.{setup_for}
use Rattle.tool_prometheus.specs.declared.commands.Options.{Options}
use Rattle.tool_prometheus.specs.declared.answering.Served.{Served}
use Rattle.tool_requests.specs.declared.requests.Request.{Request}
use Rattle.tool_requests.specs.declared.requests.Request.TheVariants.{Change, Describe, Scrape, Nothing}
use Rattle.tool_prometheus.specs.Asked.{Asked, nothing_asked, then_asked, Asks}
use Rattle.tool_requests.specs.Lines.{IsBad}
use Rattle.tool_requests.specs.Places.{kept_places, front_of}
use Rattle.tool_requests.specs.Names.{ruled_name, Requests}
use Rattle.tool_prometheus.specs.Names.{name_by}
use Rattle.tool_prometheus.specs.Exposed.{scrape_text, fault_text, KeepsRest, HandsOut, Shows, IsPlain, IsWant, IsAnswer, IsEnd, shows_at_end}
use Rattle.tool_prometheus.specs.Exposed.{AnswersEach, Takes, AnswersLine, own_of, UnlessTold}
use Rattle.tool_prometheus.specs.Own.{IsShown, with_line, with_bad_line}
use Rattle.tool_requests.specs.declared.dialect.Dialect.{Dialect}
use Rattle.tool_prometheus.specs.declared.timing.Timer.{Timer}
use Rattle.tool_prometheus.specs.Timing.{Starts}
use Rattle.tool_prometheus.specs.Serving.{Start, answers_since, Stops, EndsLines, IsFresh, own_status, or_left, left_noted}
use Rattle.tool_prometheus.specs.Limit.{IsWithin}
use Rattle.tool_prometheus.specs.Strict.{respells, leaves_out, noted}
use Rattle.tool_prometheus.specs.Output.{Done, begun, places_shown, own_done, lines_in, loses_line, PrintsExposition, Prints, PrintsEach, PrintsInTime, TakesLine, PrintLines}
use Rattle.tool_prometheus.specs.Output.{IsOutput, Runs}
use Rattle.tool_prometheus.proofs.AskedLemmas.{then-nothing, then-assoc}

-- ---- the lines of an input

-- the lines that begin what was read begin the whole
first-lines : (at_end : Type 0) (bytes read left : List ℕ) (ls : List (List ℕ)) (l : List ℕ) → (at_end → left ≡ [])
    → bytes ≡ read ++ left → AreFirst at_end read (ls ++ l ∷ []) → (more : List (List ℕ)) × (lines_of bytes ≡ ls ++ l ∷ more)
first-lines at_end bytes read left ls l ends whole (inr (end, are)) =
    ([], ap lines_of (whole ∙ ap (λ z. read ++ z) (ends end) ∙ append-nil read) ∙ are)
first-lines at_end bytes read left ls l ends whole (inl (rest, front, are)) =
    let x = unlines ls ++ l in
    let cut : (ys : List ℕ) → unlines (ls ++ l ∷ []) ++ ys ≡ x ++ 10 ∷ ys =
    λ ys. ap (λ z. z ++ ys) (flat_map-append ended ls (l ∷ []) ∙ ap (λ z. unlines ls ++ z) (append-nil (ended l))
    ∙ sym (append_assoc (unlines ls) l (10 ∷ []))) ∙ append_assoc x (10 ∷ []) ys in
    let read_lines : lines_of (x ++ 10 ∷ []) ++ lines_of rest ≡ (ls ++ l ∷ []) ++ lines_of rest =
    sym (lines-cut x rest) ∙ sym (ap lines_of (front ∙ cut rest)) ∙ are in
    let firsts : lines_of (x ++ 10 ∷ []) ≡ ls ++ l ∷ [] = append_cancel_right _ _ (lines_of rest) read_lines in
    let all : bytes ≡ x ++ 10 ∷ (rest ++ left) =
    whole ∙ ap (λ z. z ++ left) front ∙ append_assoc (unlines (ls ++ l ∷ [])) rest left ∙ cut (rest ++ left) in (
      lines_of (rest ++ left),
      ap lines_of all ∙ lines-cut x (rest ++ left) ∙ ap (λ z. z ++ lines_of (rest ++ left)) firsts
          ∙ append_assoc ls (l ∷ []) (lines_of (rest ++ left)),
    )

some-line : (ls : List (List ℕ)) (l : List ℕ) → [] ≡ ls ++ l ∷ [] → ⊥
some-line [] l e = absurd (cc)
some-line (k ∷ ls) l e = absurd (cc)

-- the same of a run that may leave a last line
first-taken : (takes : Bool) (at_end : Type 0) (bytes front half left : List ℕ) (ls : List (List ℕ)) (l : List ℕ) (k : ℕ)
    → (at_end → left ≡ []) → bytes ≡ (front ++ half) ++ left → IsLeft takes front half (Err (BadLine k))
    → AreFirst at_end front (ls ++ l ∷ []) → lines_of front ≡ ls ++ l ∷ [] → (more : List (List ℕ)) × (lines_in takes bytes ≡ ls ++ l ∷ more)
first-taken true at_end bytes front half left ls l k ends whole none first are =
    first-lines at_end bytes front left ls l ends (whole ∙ ap (λ z. (front ++ z) ++ left) none ∙ ap (λ z. z ++ left) (append-nil front)) first
first-taken false at_end bytes front half left ls l k ends whole (inl none) first are =
    absurd (some-line ls l (sym (ap lines_of none) ∙ are))
first-taken false at_end bytes front half left ls l k ends whole (inr (body, is)) first are =
    let all : bytes ≡ body ++ 10 ∷ (half ++ left) =
    whole ∙ ap (λ z. (z ++ half) ++ left) is ∙ append_assoc (ended body) half left ∙ append_assoc body (10 ∷ []) (half ++ left) in (
      ended_lines (half ++ left),
      ap ended_lines all ∙ ended-cut body (half ++ left) ∙ ap (λ z. z ++ ended_lines (half ++ left)) (ap lines_of (sym is) ∙ are)
          ∙ append_assoc ls (l ∷ []) (ended_lines (half ++ left)),
    )

-- the lines of a run up to the end
all-taken : (takes : Bool) (bytes front half : List ℕ) (n : ℕ) → bytes ≡ front ++ half → IsLeft takes front half (Ok n)
    → lines_in takes bytes ≡ lines_of front
all-taken true bytes front half n whole none = ap lines_of (whole ∙ ap (λ z. front ++ z) none ∙ append-nil front)
all-taken false bytes front half n whole (ends, line) = ap ended_lines whole ∙ ended-left front half ends line

-- and whether a last line is left
half-taken : (takes : Bool) (bytes front half : List ℕ) (n : ℕ) (has_bad : Bool) → bytes ≡ front ++ half
    → IsLeft takes front half (Ok n) → or_left half has_bad ≡ (if loses_line takes bytes then true else has_bad)
half-taken true bytes front half n has_bad whole none = ap (λ z. or_left z has_bad) none
half-taken false bytes front [] n has_bad whole (ends, line) =
    sym (ap (λ b. if b then true else has_bad) (ap (loses_line false) whole ∙ cut-none front [] ends refl))
half-taken false bytes front (x ∷ xs) n has_bad whole (ends, line) =
    sym (ap (λ b. if b then true else has_bad) (ap (loses_line false) whole ∙ cut-some front x xs ends line))

-- ---- what failed stays so

failed-plain : (setup : Setup) (log : Log) (old : Served) (request : Request) (made : Log) (new : Served) (asked : Asked) (text : List ℕ)
    → IsPlain setup log old request made new asked text → old.has_failed ≡ true → new.has_failed ≡ true
failed-plain setup log old (Change key by) made new asked text (told, none, at, inl (is, t, free, changed, failed, bad, within, counted)) f = failed ∙ f
failed-plain setup log old (Change key by) made new asked text (told, none, at, inr (inl (is, t, full, changed, failed, bad, counted))) f = failed
failed-plain setup log old (Change key by) made new asked text (told, none, at, inr (inr (is, t, beyond, changed, failed, bad, counted))) f = failed
failed-plain setup log old (Describe kind name unit note) made new asked text (told, none, is, t, changed, failed, bad, at, counted) f = failed ∙ f
failed-plain setup log old (Scrape moment) made new asked text
    (told, (now, at, checks, n, shown, true, is, ran, shows, t, out, changed, failed, bad, last, counted)) f = failed ∙ f
failed-plain setup log old (Scrape moment) made new asked text
    (told, (now, at, checks, n, shown, false, is, ran, shows, t, out, changed, failed, bad, last, counted)) f = failed
failed-plain setup log old Nothing made new asked text (same, none, is, t) f = ap (λ s. s.has_failed) same ∙ f

failed-want : (setup : Setup) (log : Log) (old : Served) (request : Request) (made : Log) (new : Served) (asked : Asked) (text : List ℕ)
    → IsWant setup log old request made new asked text → new.has_failed ≡ true
failed-want setup log old (Change key by) made new asked text (told, none, is, t, changed, failed, bad, absent, at, counted) = failed
failed-want setup log old (Describe kind name unit note) made new asked text (told, none, is, t, changed, failed, bad, at, counted) = failed
failed-want setup log old (Scrape moment) made new asked text (told, t, changed, failed, bad, counted, ran) = failed
failed-want setup log old Nothing made new asked text none = absurd none

failed-answer : (setup : Setup) (log : Log) (old : Served) (request : Request) (made : Log) (new : Served) (asked : Asked) (text : List ℕ)
    → IsAnswer setup log old request made new asked text → old.has_failed ≡ true → new.has_failed ≡ true
failed-answer setup log old request made new asked text (inl plain) f = failed-plain setup log old request made new asked text plain f
failed-answer setup log old request made new asked text (inr want) f = failed-want setup log old request made new asked text want

is-false : (b : Bool) → (b ≡ true → ⊥) → b ≡ false
is-false true h = absurd (h refl)
is-false false h = refl

or-true : (b : Bool) → (if b then true else true) ≡ true
or-true true = refl
or-true false = refl

or-false : (b : Bool) → (if b then true else false) ≡ b
or-false true = refl
or-false false = refl

or-more : (b : Bool) → true ≡ (b || true)
or-more true = refl
or-more false = refl

module _ (options : Options) (cut : Bool) where
  abbrev setup : Setup
  setup = setup_for options

  -- what is done where a run has come so far
  abbrev done_on : Log → Served → Done
  done_on log on = record {
    calls = log;
    legend = described on.exporter;
    is_changed = on.is_changed;
    has_bad = (if cut then true else on.has_bad);
    timer = on.timer;
    counts = on.counts;
    last = on.last;
  }

  -- what is served is as after these calls, by these options
  abbrev Stands : Log → Served → Type 0
  Stands log on = IsAfter setup log on.exporter × (on.naming ≡ options.naming) × (on.has_file ≡ options.has_file)
      × (on.dialect ≡ options.dialect) × (on.at_scrapes_only ≡ options.at_scrapes_only) × (ruled_name on.rules ≡ name_by options)
      × (on.front ≡ front_of options.prefix) × (on.max_series ≡ options.max_series)
      × (on.is_strict ≡ options.is_strict) × (on.tells_self ≡ options.tells_self)

  -- what a strict run notes, beside a last line that is not counted
  noted-cut : (is_strict odd bad : Bool) → (if cut then true else noted is_strict odd bad) ≡ noted is_strict odd (if cut then true else bad)
  noted-cut is_strict odd bad = go cut
    where
      go : (c : Bool) → (if c then true else noted is_strict odd bad) ≡ noted is_strict odd (if c then true else bad)
      go true = or-more (is_strict && odd)
      go false = refl

  done-same : (log : Log) (old : Done) (new : Served) (changed bad : Bool) (last : Option ℕ) → SameLegend (described new.exporter) old.legend
      → new.is_changed ≡ changed → (if cut then true else new.has_bad) ≡ bad → new.timer ≡ old.timer → new.counts ≡ old.counts
      → new.last ≡ last → done_on log new ≡ record old { calls = log; is_changed = changed; has_bad = bad; last = last }
  done-same log old new changed bad last same is noted_so timer counted at = λ i. record {
    calls = log;
    legend = λ kind name. same kind name i;
    is_changed = is i;
    has_bad = noted_so i;
    timer = timer i;
    counts = counted i;
    last = at i;
  }

  -- what is shown by what is served, by the options
  shows-so : (log : Log) (on : Served) (shown : List ℕ) → Stands log on → Shows setup log on shown
      → IsShown options.tells_self (own_done options (done_on log on)) options.naming (described on.exporter) (places_shown options)
      (cells_after setup (steps log)) shown
  shows-so log on shown stands shows =
      let cells = cells_after setup (steps log) in
      let legend = described on.exporter in
      let by : Bool → Naming → Dialect → ℕ → Type 0 =
      λ tells naming dialect front. IsShown tells (record { labels = dialect.labels; counts = on.counts; last = on.last }) naming legend
      (kept_places dialect.places front) cells shown in
      subst (λ front. by options.tells_self options.naming options.dialect front) stands.6
      (subst (λ dialect. by options.tells_self options.naming dialect on.front) stands.3
      (subst (λ naming. by options.tells_self naming on.dialect on.front) stands.1
      (subst (λ tells. by tells on.naming on.dialect on.front) stands.9 shows)))

  exposition : (log : Log) (on : Served) (has_file : Bool) (shown text : List ℕ) (files : List (List ℕ)) → Stands log on
      → has_file ≡ options.has_file → Shows setup log on shown → text ≡ scrape_text has_file shown → HandsOut has_file shown true files
      → PrintsExposition options (done_on log on) files shown text
  exposition log on has_file shown text files stands is shows t out = (
    shows-so log on shown stands shows,
    t ∙ ap (λ b. scrape_text b shown) is,
    subst (λ b. HandsOut b shown true files) is out,
  )

  -- ---- one request

  -- the request asked and printed this, and stands after some calls
  abbrev Printed : Log → Served → Request → Served → Asked → List ℕ → Type 0
  Printed log old request new asked text = (calls : Log) × Stands calls new
      × Prints options (done_on log old) request asked text (done_on calls new)

  keeps-stands : (log : Log) (old new : Served) → Stands log old → KeepsRest old new → (calls : Log)
      → IsAfter setup calls new.exporter → Stands calls new
  keeps-stands log old new (was, named, filed, labelled, ended_so, ruled, fronted, limit, strictly, told_so)
      (naming, file, strict, dialect, ends, rules, timer, front, most, tells) calls after = (
        after,
        naming ∙ named,
        file ∙ filed,
        dialect ∙ labelled,
        ends ∙ ended_so,
        ap ruled_name rules ∙ ruled,
        front ∙ fronted,
        most ∙ limit,
        strict ∙ strictly,
        tells ∙ told_so,
      )

  printed : (log : Log) (old new : Served) (request : Request) (made : Log) (asked : Asked) (text : List ℕ) → Stands log old
      → KeepsRest old new → IsAfter setup (log ++ made) new.exporter → (new.has_failed ≡ true → ⊥)
      → IsPlain setup log old request made new asked text → Printed log old request new asked text
  printed log old new (Change key by) made asked text stands keeps after fine (told, none, at, inl (is, t, free, changed, failed, bad, within, counted)) =
      let calls = log ++ updates_in (unit_told (described old.exporter) key by) key by (Ok tt) ∷ [] in (
        calls,
        keeps-stands log old new stands keeps calls (subst (λ m. IsAfter setup (log ++ m) new.exporter) is after),
        (none, free, t, subst (λ m. IsWithin m (cells_after setup (steps log)) (series_of key by)) stands.7 within, done-same calls (done_on log old) new true (done_on log old).has_bad old.last told changed (λ i. if cut then true else bad i) keeps.6 counted at),
      )
  printed log old new (Change key by) made asked text stands keeps after fine (told, none, at, inr (inl (is, t, full, changed, failed, bad, counted))) =
      absurd (fine failed)
  printed log old new (Change key by) made asked text stands keeps after fine (told, none, at, inr (inr (is, t, beyond, changed, failed, bad, counted))) =
      absurd (fine failed)
  printed log old new (Describe kind name unit note) made asked text stands keeps after fine (told, none, is, t, changed, failed, bad, at, counted) = (
    log,
    keeps-stands log old new stands keeps log (subst (λ l. IsAfter setup l new.exporter) (ap (λ m. log ++ m) is ∙ append-nil log) after),
    (
      none,
      t,
      λ i. record {
        calls = log;
        legend = λ k n. told k n i;
        is_changed = changed i;
        has_bad = (if cut then true else bad i);
        timer = keeps.6 i;
        counts = counted i;
        last = at i;
      },
    ),
  )
  printed log old new (Scrape moment) made asked text stands keeps after fine
      (told, (now, at, checks, n, shown, true, is, ran, shows, t, out, changed, failed, bad, last, counted)) =
      let calls = log ++ expires now checks (Ok n) ∷ [] in
      let now_stands : Stands calls new =
      keeps-stands log old new stands keeps calls (subst (λ m. IsAfter setup (log ++ m) new.exporter) is after) in (
        calls,
        now_stands,
        (
          now,
          at,
          checks,
          n,
          shown,
          ran,
          done-same calls (done_on log old) new false (noted options.is_strict (leaves_out shown) (done_on log old).has_bad) (Some now) told changed
              (ap (λ b. if cut then true else b) bad ∙ noted-cut old.is_strict (leaves_out shown) old.has_bad
              ∙ ap (λ s. noted s (leaves_out shown) (done_on log old).has_bad) stands.8) keeps.6 counted last,
          exposition calls new old.has_file shown text asked.files now_stands stands.2
              (subst (λ m. Shows setup (log ++ m) new shown) is shows) t out,
        ),
      )
  printed log old new (Scrape moment) made asked text stands keeps after fine
      (told, (now, at, checks, n, shown, false, is, ran, shows, t, out, changed, failed, bad, last, counted)) = absurd (fine failed)
  printed log old new Nothing made asked text stands keeps after fine (same, none, is, t) = (
    log,
    keeps-stands log old new stands keeps log (subst (λ l. IsAfter setup l new.exporter) (ap (λ m. log ++ m) is ∙ append-nil log) after),
    (none, t, ap (done_on log) same),
  )

  answered : (log : Log) (old new : Served) (request : Request) (made : Log) (asked : Asked) (text : List ℕ) → Stands log old
      → KeepsRest old new → IsAfter setup (log ++ made) new.exporter → (new.has_failed ≡ true → ⊥)
      → IsAnswer setup log old request made new asked text → Printed log old request new asked text
  answered log old new request made asked text stands keeps after fine (inl plain) =
      printed log old new request made asked text stands keeps after fine plain
  answered log old new request made asked text stands keeps after fine (inr want) =
      absurd (fine (failed-want setup log old request made new asked text want))

  -- ---- requests one after another

  -- what is served is after some calls, and what failed before stays so
  abbrev Goes_on : Served → Served → Type 0
  Goes_on old new = ((calls : Log) × IsAfter setup calls new.exporter) × (old.has_failed ≡ true → new.has_failed ≡ true)

  each-stays : (log : Log) (old : Served) (rs : List Request) (new : Served) (asked : Asked) (text : List ℕ)
      → IsAfter setup log old.exporter → AnswersEach old rs new asked text → Goes_on old new
  each-stays log old [] new asked text after (is, none, nothing) =
      ((log, subst (λ s. IsAfter setup log s.exporter) (sym is) after), λ f. ap (λ s. s.has_failed) is ∙ f)
  each-stays log old (r ∷ rs) new asked text after (between, own, later, part, rest, (keeps, made_so), each, deeds, all) =
      let (made, stood, answer) = made_so setup log after in
      let (stands, failed) = each-stays (log ++ made) between rs new later rest stood each in
      (stands, λ f. failed (failed-answer setup log old r made between own part answer f))

  each-printed : (log : Log) (old : Served) (rs : List Request) (new : Served) (asked : Asked) (text : List ℕ) → Stands log old
      → (new.has_failed ≡ true → ⊥) → AnswersEach old rs new asked text
      → (calls : Log) × Stands calls new × PrintsEach options (done_on log old) rs asked text (done_on calls new)
  each-printed log old [] new asked text stands fine (is, none, nothing) =
      (log, subst (Stands log) (sym is) stands, (ap (done_on log) is, none, nothing))
  each-printed log old (r ∷ rs) new asked text stands fine (between, own, later, part, rest, (keeps, made_so), each, deeds, all) =
      let (made, stood, answer) = made_so setup log stands.0 in
      let (onward, failed) = each-stays (log ++ made) between rs new later rest stood each in
      let (calls, now, prints) = answered log old between r made own part stands keeps stood (λ f. fine (failed f)) answer in
      let (ended, there, more) = each-printed calls between rs new later rest now fine each in
      (ended, there, (done_on calls between, own, later, part, rest, prints, more, deeds, all))

  -- ---- lines

  -- nothing but what was counted and whether a line was bad changes before a line's request
  taken-stays : (log : Log) (old : Served) (line : List ℕ) (request : Request) (taken : Served)
      → Takes options.skips_bad old line request taken → IsAfter setup log old.exporter
      → IsAfter setup log taken.exporter × (old.has_failed ≡ true → taken.has_failed ≡ true)
  taken-stays log old line request taken (inl (spells, is)) after =
      (subst (λ s. IsAfter setup log s.exporter) (sym is) after, λ f. ap (λ s. s.has_failed) is ∙ f)
  taken-stays log old line request taken (inr (skips, bad, none, is)) after =
      (subst (λ s. IsAfter setup log s.exporter) (sym is) after, λ f. ap (λ s. s.has_failed) is ∙ f)

  line-stays : (log : Log) (old : Served) (line : List ℕ) (asked : Asked) (text : List ℕ) (new : Served)
      → IsAfter setup log old.exporter → AnswersLine options.skips_bad old line asked text new → Goes_on old new
  line-stays log old line asked text new after (request, taken, takes, (first, later, requests, timer, timed, each, deeds)) =
      let (stood, failed) = taken-stays log old line request taken takes after in
      let (stands, failing) = each-stays log (record taken { timer = timer }) requests new later text stood each in
      (stands, λ f. failing (failed f))

  taken-stands : (log : Log) (old : Served) (line : List ℕ) (request : Request) (taken : Served)
      → Takes options.skips_bad old line request taken → Stands log old
      → Stands log taken × TakesLine options (done_on log old) line request (done_on log taken)
  taken-stands log old line request taken (inl (spells, is)) stands = (
    subst (Stands log) (sym is) stands,
    inl (
      subst (λ new. Requests options.dialect new line request) stands.5 (subst (λ ds. Requests ds (ruled_name old.rules) line request) stands.3 spells),
      ap (done_on log) is
          ∙ (λ i. record (done_on log old) { counts = with_line old.counts; has_bad = noted-cut old.is_strict (respells old.front request) old.has_bad i })
          ∙ (λ i. record (done_on log old) {
            counts = with_line old.counts;
            has_bad = noted (stands.8 i) (respells (stands.6 i) request) (done_on log old).has_bad;
          }),
    ),
  )
  taken-stands log old line request taken (inr (skips, bad, none, is)) stands =
      let noted : done_on log taken ≡ record (done_on log old) { counts = with_bad_line old.counts; has_bad = true } =
      ap (done_on log) is ∙ (λ i. record (done_on log old) { counts = with_bad_line old.counts; has_bad = or-true cut i }) in
      (subst (Stands log) (sym is) stands, inr (skips, subst (λ ds. IsBad ds line) stands.3 bad, none, noted))

  -- a line asked and printed this, and what is served is after some calls
  abbrev Line_printed : Log → Served → List ℕ → Asked → List ℕ → Served → Type 0
  Line_printed log old line asked text new = (calls : Log) × Stands calls new × (request : Request) × (taken : Done)
      × TakesLine options (done_on log old) line request taken × PrintsInTime options taken request asked text (done_on calls new)

  line-printed : (log : Log) (old : Served) (line : List ℕ) (asked : Asked) (text : List ℕ) (new : Served) → Stands log old
      → (new.has_failed ≡ true → ⊥) → AnswersLine options.skips_bad old line asked text new → Line_printed log old line asked text new
  line-printed log old line asked text new stands fine (request, taken, takes, (first, later, requests, timer, timed, each, deeds)) =
      let (stood, takes_so) = taken-stands log old line request taken takes stands in
      let (calls, now, prints) = each-printed log (record taken { timer = timer }) requests new later text stood fine each in
      (calls, now, request, done_on log taken, takes_so, (first, later, requests, timer, timed, prints, deeds))

  stays : (log : Log) (p q : (Served × Asked) × Unit {0}) (es : Dialogue) → IsAfter setup log p.0.0.exporter
      → AreAnswered (answers_since options.skips_bad) p es q → Goes_on p.0.0 q.0.0
  stays log p q [] after h =
      ((log, subst (λ z. IsAfter setup log z.0.0.exporter) h after), λ f. subst (λ z. z.0.0.has_failed ≡ true) h f)
  stays log p q (e ∷ es) after (j, (asked, line, is), h) =
      let ((calls, there), failed) = line-stays log p.0.0 e.0 asked e.1 j.0.0 after line in
      let (stands, failing) = stays calls j q es there h in
      (stands, λ f. failing (failed f))

  -- the lines to come ask and print this, and the run ends with this status
  abbrev Goes : Log → Served → List (List ℕ) → Asked → List ℕ → ℕ → Type 0
  Goes log on ls asked text status = PrintLines options (done_on log on) ls asked text status

  dialogue : (log : Log) (p q : (Served × Asked) × Unit {0}) (es : Dialogue) (rest : List (List ℕ)) (after : Asked) (last : List ℕ) (s : ℕ)
      → Stands log p.0.0 → AreAnswered (answers_since options.skips_bad) p es q → (q.0.0.has_failed ≡ true → ⊥)
      → ((calls : Log) → Stands calls q.0.0 → Goes calls q.0.0 rest after last s)
      → (asked : Asked) × (q.0.1 ≡ then_asked p.0.1 asked)
      × Goes log p.0.0 (lines_said es ++ rest) (then_asked asked after) (texts_in es ++ last) s
  dialogue log p q [] rest after last s stands h fine goes = (
    nothing_asked,
    ap (λ z. z.0.1) (sym h) ∙ sym (then-nothing p.0.1),
    subst (λ z. Goes log z.0.0 rest after last s) (sym h) (goes log (subst (λ z. Stands log z.0.0) h stands)),
  )
  dialogue log p q (e ∷ es) rest after last s stands (j, (asked, line, is), h) fine goes =
      let ((so_far, there), onward) = line-stays log p.0.0 e.0 asked e.1 j.0.0 stands.0 line in
      let failed = (stays so_far j q es there h).1 in
      let (calls, now, request, taken, takes, prints) = line-printed log p.0.0 e.0 asked e.1 j.0.0 stands (λ f. fine (failed f)) line in
      let (later, total, more) = dialogue calls j q es rest after last s now h fine goes in (
        then_asked asked later,
        total ∙ ap (λ z. then_asked z later) is ∙ then-assoc p.0.1 asked later,
        inl (request, taken, done_on calls j.0.0, asked, then_asked later after, e.1, texts_in es ++ last, takes, prints, more, then-assoc asked later after, append_assoc e.1 (texts_in es) last),
      )

  -- ---- ends

  end-failed : (calls : Log) (old new : Served) (asked : Asked) (last : List ℕ) → IsAfter setup calls old.exporter
      → IsEnd old new asked last → old.has_failed ≡ true → new.has_failed ≡ true
  end-failed calls old new asked last after (clock, inr (kept, none, failed, bad, empty)) f = failed ∙ f
  end-failed calls old new asked last after (clock, inl (changed, ends)) f = shown_so (ends setup calls after)
    where
      shown_so : ((shown : List ℕ) × (done : Bool) × Shows setup calls old shown × (last ≡ scrape_text old.has_file shown)
          × HandsOut old.has_file shown done asked.files × (new.has_failed ≡ (if done then old.has_failed else true))
          × (new.has_bad ≡ noted old.is_strict (leaves_out shown) old.has_bad))
          ⊎ ((last ≡ fault_text old.has_file error.Memory) × (new.has_failed ≡ true) × (new.has_bad ≡ old.has_bad)
          × UnlessTold old.tells_self (HoldsSome (cells_after setup (steps calls))))
          → new.has_failed ≡ true
      shown_so (inl (shown, true, shows, t, out, failed, bad)) = failed ∙ f
      shown_so (inl (shown, false, shows, t, out, failed, bad)) = failed
      shown_so (inr (want, failed, bad, held)) = failed

  at-end : (calls : Log) (old new : Served) (asked : Asked) (last : List ℕ) (s : ℕ) → Stands calls old → (new.has_failed ≡ true → ⊥)
      → (bad : Bool) → bad ≡ (if cut then true else old.has_bad) → IsEnd (record old { has_bad = bad }) new asked last
      → s ≡ (if new.has_bad then 3 else 0) → Goes calls old [] asked last s
  at-end calls old new asked last s stands fine bad is (clock, inr (kept, none, failed, same, empty)) st =
      (new.has_bad, (clock, inr (sym (ap (λ b. shows_at_end b old.is_changed) stands.4) ∙ kept, none, empty, same ∙ is)), st)
  at-end calls old new asked last s stands fine bad is (clock, inl (changed, ends)) st = shown_so (ends setup calls stands.0)
    where
      shown_so : ((shown : List ℕ) × (done : Bool) × Shows setup calls old shown × (last ≡ scrape_text old.has_file shown)
          × HandsOut old.has_file shown done asked.files × (new.has_failed ≡ (if done then old.has_failed else true))
          × (new.has_bad ≡ noted old.is_strict (leaves_out shown) bad))
          ⊎ ((last ≡ fault_text old.has_file error.Memory) × (new.has_failed ≡ true) × (new.has_bad ≡ bad)
          × UnlessTold old.tells_self (HoldsSome (cells_after setup (steps calls))))
          → Goes calls old [] asked last s
      shown_so (inl (shown, true, shows, t, out, failed, worse)) = (
        new.has_bad,
        (
          clock,
          inl (
            sym (ap (λ b. shows_at_end b old.is_changed) stands.4) ∙ changed,
            (
              shown,
              exposition calls old old.has_file shown last asked.files stands stands.2 shows t out,
              worse ∙ (λ i. noted (stands.8 i) (leaves_out shown) (is i)),
            ),
          ),
        ),
        st,
      )
      shown_so (inl (shown, false, shows, t, out, failed, worse)) = absurd (fine failed)
      shown_so (inr (want, failed, worse, held)) = absurd (fine failed)

  module _ (log : Log) (at_end : Type 0) (bytes front half left : List ℕ) (ends : at_end → left ≡ []) (whole : bytes ≡ (front ++ half) ++ left)
      (is_cut : cut ≡ loses_line options.accepts_partial bytes) (start served new : Served) (before after : Asked) (lines last text : List ℕ) (status : ℕ) (prints : text ≡ lines ++ last)
      (stands : Stands log start) where
    -- what a run over the lines wrote, if they are these and then others
    over : (es : Dialogue) (rest : List (List ℕ)) → lines_in options.accepts_partial bytes ≡ lines_said es ++ rest → lines ≡ texts_in es
        → (notes : Unit {0}) → AreAnswered (answers_since options.skips_bad) ((start, nothing_asked), tt) es ((served, before), notes)
        → (served.has_failed ≡ true → ⊥) → ((calls : Log) → Stands calls served → Goes calls served rest after last status)
        → Goes log start (lines_in options.accepts_partial bytes) (then_asked before after) text status
    over es rest are is notes h fine goes =
        let whole_text : text ≡ texts_in es ++ last = prints ∙ ap (λ z. z ++ last) is in
        let (asked, total, more) = dialogue log ((start, nothing_asked), tt) ((served, before), notes) es rest after last status stands h fine goes in
        subst (λ z. PrintLines options (done_on log start) z (then_asked before after) text status) (sym are)
        (subst (λ z. PrintLines options (done_on log start) (lines_said es ++ rest) (then_asked before after) z status) (sym whole_text)
        (subst (λ z. PrintLines options (done_on log start) (lines_said es ++ rest) (then_asked z after) (texts_in es ++ last) status) (sym total) more))

    ended_so : (q r : Result ℕ RunError) → (new.has_failed ≡ true → ⊥) → status ≡ own_status r new.has_bad → status ≢ 1
        → IsRun (answers_since options.skips_bad) (λ on. Stops options.skips_bad on.0) at_end 1 ((start, nothing_asked), tt) (served, before) front lines q
        → EndsLines (left_noted q half served) new after last q r → IsLeft options.accepts_partial front half q
        → Goes log start (lines_in options.accepts_partial bytes) (then_asked before after) text status
    ended_so (Ok n) (Ok m) fine st ok (es, end, are, (notes, h), is, count) (shows, same) is_left =
        let all = whole ∙ ap (λ z. (front ++ half) ++ z) (ends end) ∙ append-nil (front ++ half) in
        let bad : or_left half served.has_bad ≡ (if cut then true else served.has_bad) =
        half-taken options.accepts_partial bytes front half n served.has_bad all is_left ∙ sym (ap (λ b. if b then true else served.has_bad) is_cut) in
        let ((calls, stood), failed) = stays log ((start, nothing_asked), tt) ((served, before), notes) es stands.0 h in
        over es [] (all-taken options.accepts_partial bytes front half n all is_left ∙ are ∙ sym (append-nil (lines_said es))) is
        notes h (λ f. fine (end-failed calls (record served { has_bad = or_left half served.has_bad }) new after last stood shows f))
        (λ calls now. at-end calls served new after last status now fine (or_left half served.has_bad) bad shows st)
    ended_so (Ok n) (Err (BadLine k)) fine st ok run none is_left = absurd none
    ended_so (Ok n) (Err (Memory at)) fine st ok run ending is_left = absurd (ok st)
    ended_so (Ok n) (Err Device) fine st ok run ending is_left = absurd (ok st)
    ended_so (Err (BadLine k)) r fine st ok (es, line, first, are, (stops, bad), (notes, h), is, count) (none, nothing, kept, same) is_left =
        let bad_status : status ≡ 2 = st ∙ ap (λ x. own_status x new.has_bad) same in
        let (more, all) = first-taken options.accepts_partial at_end bytes front half left (lines_said es) line k ends whole is_left first are in
        over es (line ∷ more) all is notes h (λ f. fine (kept ∙ f)) (λ calls now. inr (stops, subst (λ ds. IsBad ds line) now.3 bad, nothing, none, bad_status))
    ended_so (Err (Memory at)) r fine st ok run (none, nothing, kept, same) is_left =
        absurd (ok (st ∙ ap (λ x. own_status x new.has_bad) same))
    ended_so (Err Device) r fine st ok run (none, nothing, kept, same) is_left =
        absurd (ok (st ∙ ap (λ x. own_status x new.has_bad) same))

  fresh : (begin : Start) (start : Served) → IsFresh options begin start → done_on begin.calls start ≡ begun begin cut start.timer
  fresh begin start (after, told, naming, file, changed, bad, dialect, ends, failed, front, most, strict, counted, last, tells, named) =
      let none : (if cut then true else start.has_bad) ≡ cut = ap (λ b. if cut then true else b) bad ∙ or-false cut in
      λ i. record {
        calls = begin.calls;
        legend = λ kind name. told kind name i;
        is_changed = changed i;
        has_bad = none i;
        timer = start.timer;
        counts = counted i;
        last = last i;
      }

  -- what was asked since nothing was
  since_nothing : (asked all : Asked) → Asks (Some nothing_asked) (Some asked) all → asked ≡ all
  since_nothing asked all e = cc

  -- as the output of the options, if a last line is not counted or is
  abbrev Cut : Start → List ℕ → Asked → List ℕ → ℕ → Type 0
  Cut begin bytes asked text status = (first later : Asked) × (timer : Option Timer) × Starts options.every first timer
      × PrintLines options (begun begin cut timer) (lines_in options.accepts_partial bytes) later text status × (asked ≡ then_asked first later)

  output-cut : (begin : Start) (bytes text : List ℕ) (asked : Asked) (status : ℕ) → cut ≡ loses_line options.accepts_partial bytes
      → Runs options begin bytes asked text status → status ≢ 1 → Cut begin bytes asked text status
  output-cut begin bytes text asked status is_cut (None, (read, wrote, all, took, writes, asks, serves)) ok = absurd took
  output-cut begin bytes text asked status is_cut (Some left, (read, wrote, all, took, writes, asks, inr (nothing, none, nor, one))) ok =
      absurd (ok one)
  output-cut begin bytes text asked status is_cut
      (Some left, (read, wrote, all, took, writes, asks, inl (start, end, first, later, r, is_fresh, starts, (served, lines, last, before, after, q, front, half, parts, is_left, run, ends, prints, asked_so), st, total))) ok =
      let (stood, told, naming, file, changed, bad, dialect, ending, failed, fronted, most, strict, counted, at, tells, named) = is_fresh in
      let fine : (end.has_failed ≡ true → ⊥) = λ f. ok (st ∙ ap (λ b. if b then 1 else own_status r end.has_bad) f) in
      let own : status ≡ own_status r end.has_bad =
      st ∙ ap (λ b. if b then 1 else own_status r end.has_bad) (is-false end.has_failed fine) in
      let goes = ended_so begin.calls (left ≡ []) bytes front half left (λ e. e) (took ∙ ap (λ z. z ++ left) parts) is_cut start served end before after lines last text status (writes ∙ prints)
      (stood, naming, file, dialect, ending, (λ i kind name. named kind name i), fronted, most, strict, tells) q r fine own ok run ends is_left in
      let printed = subst (λ a. PrintLines options (begun begin cut start.timer) (lines_in options.accepts_partial bytes) a text status) (sym asked_so)
      (subst (λ d. PrintLines options d (lines_in options.accepts_partial bytes) (then_asked before after) text status) (fresh begin start is_fresh) goes) in
      (first, later, start.timer, starts, printed, since_nothing asked all asks ∙ total)

pub run-output : (options : Options) (begin : Start) (bytes text : List ℕ) (asked : Asked) (status : ℕ) → Runs options begin bytes asked text status → status ≢ 1
    → IsOutput options begin bytes asked text status
run-output options begin bytes text asked status runs ok =
    output-cut options (loses_line options.accepts_partial bytes) begin bytes text asked status refl runs ok
