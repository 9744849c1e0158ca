-- The answers to requests.
use Rattle.std.specs.Prelude.{if◌then◌else◌, ◌≡◌, ℕ, Bool, true, false, List, [], ◌∷◌, ◌++◌, codes, ◌⊎◌, Result, Ok, Err, MatchResult, Option, None, Some}
use Rattle.metrics.specs.declared.error.Error.{Error}
use Rattle.metrics.specs.declared.error.Error.TheVariants.{Memory, CountFull}
use Rattle.metrics_registry.specs.Idleness.{Answered}
use Rattle.metrics_names.specs.Names.{KeyParts}
use Rattle.metrics_exporter.specs.Exporting.{Setup, updates_in, expires, Log, steps, Cells, cells_after, series_of}
use Rattle.metrics_exporter.specs.Exporting.{IsExpiry, IsFull, HoldsSome}
use Rattle.metrics_descriptions.specs.Legends.{SameLegend, DescribesName}
use Rattle.metrics_exporter.specs.Describing.{unit_told}
use Rattle.metrics_exporter.specs.Kept.{IsAfter, described}
use Rattle.tool_export.specs.Exported.{HoldsAtRefusal, report_text}
use Rattle.tool_prometheus.specs.declared.answering.Served.{Served}
use Rattle.tool_requests.specs.declared.requests.Request.{Request}
use Rattle.tool_requests.specs.declared.requests.Request.TheVariants.{Change, Describe, Scrape, Nothing}
use Rattle.tool_prometheus.specs.Asked.{Asked, nothing_asked, then_asked}
use Rattle.tool_requests.specs.Lines.{IsBad}
use Rattle.tool_requests.specs.Places.{kept_places}
use Rattle.tool_requests.specs.Names.{ruled_name, Requests}
use Rattle.tool_prometheus.specs.declared.timing.Timer.{Timer}
use Rattle.tool_prometheus.specs.Timing.{Timed}
use Rattle.tool_prometheus.specs.Limit.{IsBeyond, IsWithin}
use Rattle.tool_prometheus.specs.Strict.{respells, leaves_out, noted}
use Rattle.tool_prometheus.specs.Own.{Own, IsShown, with_line, with_bad_line, with_refusal}

-- ---- texts

-- an exposition and an empty line, unless it goes to a file
abbrev pub scrape_text : Bool → List ℕ → List ℕ
scrape_text has_file shown = if has_file then [] else shown ++ 10 ∷ []

-- the report of a failure, as a comment; with a file the output has nothing
abbrev pub fault_text : Bool → Error → List ℕ
fault_text has_file e = if has_file then [] else codes "# " ++ report_text (Err e)

-- a call that succeeded prints nothing
abbrev pub refusal_text : Bool → Result (Unit {0}) Error → List ℕ
refusal_text has_file (Ok done) = []
refusal_text has_file (Err e) = fault_text has_file e

-- the report that there would be too many series
abbrev pub limit_text : Bool → List ℕ
limit_text has_file = if has_file then [] else codes "# refused too many series\n"

-- what a scrape prints that showed this, or failed
abbrev pub shown_text : {T : Type 0} → (T → List ℕ) → Bool → Result T Error → List ℕ
shown_text bytes has_file (Ok shown) = scrape_text has_file (bytes shown)
shown_text bytes has_file (Err e) = fault_text has_file e

-- ---- the file

-- a scrape's text is put into the file, if there is one; whether that succeeded
abbrev pub HandsOut : Bool → List ℕ → Bool → List (List ℕ) → Type 0
HandsOut true shown done files = files ≡ (if done then shown ∷ [] else [])
HandsOut false shown done files = (done ≡ true) × (files ≡ [])

-- the moment of a scrape is its own, or else one that the clock gave
abbrev pub HasMoment : Option ℕ → List ℕ → ℕ → Type 0
HasMoment (Some now) clock moment = (clock ≡ []) × (moment ≡ now)
HasMoment None clock moment = clock ≡ moment ∷ []

-- ---- one request

-- what the program's own series are made of
abbrev pub own_of : Served → Own
own_of on = record { labels = on.dialect.labels; counts = on.counts; last = on.last }

-- an exposition of these cells, with the descriptions of names, the decimal places of their numbers, and the program's own series,
-- if those are shown
abbrev pub Exposes : Served → Cells → List ℕ → Type 0
Exposes on cells text =
    IsShown on.tells_self (own_of on) on.naming (described on.exporter) (kept_places on.dialect.places on.front) cells text

-- only the exporter, what a scrape owes, what was counted, and whether something failed or was bad changed
abbrev pub KeepsRest : Served → Served → Type 0
KeepsRest old new = (new.naming ≡ old.naming) × (new.has_file ≡ old.has_file) × (new.is_strict ≡ old.is_strict)
    × (new.dialect ≡ old.dialect)
    × (new.at_scrapes_only ≡ old.at_scrapes_only) × (new.rules ≡ old.rules) × (new.timer ≡ old.timer) × (new.front ≡ old.front)
    × (new.max_series ≡ old.max_series) × (new.tells_self ≡ old.tells_self)

-- an exposition of what is held after the calls, with the descriptions of names
abbrev pub Shows : Setup → Log → Served → List ℕ → Type 0
Shows setup log on shown = Exposes on (cells_after setup (steps log)) shown

-- this is known, unless the program's own series are shown: a text then lacks memory whatever is held
abbrev pub UnlessTold : Bool → Type 0 → Type 0
UnlessTold true Known = Unit {0}
UnlessTold false Known = Known

-- What a scrape showed at a moment: idle series were removed, and the rest is shown; or memory ran out.
abbrev pub ShowsAt : {T : Type 0} → (T → List ℕ) → Served → Served → ℕ → Result T Error → Type 0
ShowsAt bytes old new now result = (setup : Setup) (log : Log) → IsAfter setup log old.exporter → (checks : List (Answered KeyParts))
    × (answer : Result ℕ Error) × IsExpiry setup (steps log) now checks answer
    × IsAfter setup (log ++ expires now checks answer ∷ []) new.exporter × MatchResult result
    (λ shown. (n : ℕ) × (answer ≡ Ok n) × Shows setup (log ++ expires now checks answer ∷ []) new (bytes shown))
    (λ e. (e ≡ Memory) × UnlessTold old.tells_self (HoldsAtRefusal setup log (expires now checks answer) answer))

-- the descriptions of names stay
abbrev pub KeepsTold : Served → Served → Type 0
KeepsTold old new = SameLegend (described new.exporter) (described old.exporter)

-- The expected answer to a request after a list of calls: the calls that it made, as they are added to the list with
-- their answers, what it asked of the surroundings, and its text. An update is made in the unit that its name has, or fails if
-- the count of its samples is full; or it isn't called, since there would be too many series. A scrape is an expiry, and then
-- an exposition. Afterwards something has changed since the last scrape, or nothing; something has failed, or nothing; and one
-- more call was refused, or none.
abbrev pub IsPlain : Setup → Log → Served → Request → Log → Served → Asked → List ℕ → Type 0
IsPlain setup log old (Change key by) made new asked text = KeepsTold old new × (asked ≡ nothing_asked) × (new.last ≡ old.last) ×
    (((made ≡ updates_in (unit_told (described old.exporter) key by) key by (Ok tt) ∷ []) × (text ≡ [])
    × (IsFull (steps log) key by → ⊥) × (new.is_changed ≡ true)
    × (new.has_failed ≡ old.has_failed) × (new.has_bad ≡ old.has_bad)
    × IsWithin old.max_series (cells_after setup (steps log)) (series_of key by) × (new.counts ≡ old.counts))
    ⊎ ((made ≡ updates_in (unit_told (described old.exporter) key by) key by (Err CountFull) ∷ [])
    × (text ≡ fault_text old.has_file CountFull) × IsFull (steps log) key by
    × (new.is_changed ≡ old.is_changed) × (new.has_failed ≡ true) × (new.has_bad ≡ old.has_bad)
    × (new.counts ≡ with_refusal old.counts))
    ⊎ ((made ≡ []) × (text ≡ limit_text old.has_file) × IsBeyond old.max_series (cells_after setup (steps log)) (series_of key by)
    × (new.is_changed ≡ old.is_changed) × (new.has_failed ≡ true) × (new.has_bad ≡ old.has_bad)
    × (new.counts ≡ with_refusal old.counts)))
IsPlain setup log old (Describe kind name unit note) made new asked text =
    DescribesName kind name unit note (described old.exporter) (described new.exporter) × (asked ≡ nothing_asked)
    × (made ≡ []) × (text ≡ []) × (new.is_changed ≡ true) × (new.has_failed ≡ old.has_failed) × (new.has_bad ≡ old.has_bad)
    × (new.last ≡ old.last) × (new.counts ≡ old.counts)
IsPlain setup log old (Scrape moment) made new asked text = KeepsTold old new ×
    ((now : ℕ) × HasMoment moment asked.clock now × (checks : List (Answered KeyParts)) × (n : ℕ) × (shown : List ℕ) × (done : Bool)
    × (made ≡ expires now checks (Ok n) ∷ []) × IsExpiry setup (steps log) now checks (Ok n)
    × Shows setup (log ++ made) new shown × (text ≡ scrape_text old.has_file shown) × HandsOut old.has_file shown done asked.files
    × (new.is_changed ≡ false) × (new.has_failed ≡ (if done then old.has_failed else true))
    × (new.has_bad ≡ noted old.is_strict (leaves_out shown) old.has_bad) × (new.last ≡ Some now) × (new.counts ≡ old.counts))
IsPlain setup log old Nothing made new asked text = (new ≡ old) × (asked ≡ nothing_asked) × (made ≡ []) × (text ≡ [])

-- Out of memory: an update that would make its series and changes nothing, a description that changes nothing, or a
-- scrape that found some series, unless the program's own ones are shown. Its expiry made all its checks or the first n of them.
abbrev pub IsWant : Setup → Log → Served → Request → Log → Served → Asked → List ℕ → Type 0
IsWant setup log old (Change key by) made new asked text = KeepsTold old new × (asked ≡ nothing_asked)
    × (made ≡ updates_in (unit_told (described old.exporter) key by) key by (Err Memory) ∷ [])
    × (text ≡ fault_text old.has_file Memory) × (new.is_changed ≡ old.is_changed) × (new.has_failed ≡ true)
    × (new.has_bad ≡ old.has_bad) × (cells_after setup (steps log) (series_of key by) ≡ None)
    × (new.last ≡ old.last) × (new.counts ≡ with_refusal old.counts)
IsWant setup log old (Describe kind name unit note) made new asked text = KeepsTold old new × (asked ≡ nothing_asked)
    × (made ≡ []) × (text ≡ fault_text old.has_file Memory) × (new.is_changed ≡ old.is_changed) × (new.has_failed ≡ true)
    × (new.has_bad ≡ old.has_bad) × (new.last ≡ old.last) × (new.counts ≡ with_refusal old.counts)
IsWant setup log old (Scrape moment) made new asked text = KeepsTold old new
    × (text ≡ fault_text old.has_file Memory) × (new.is_changed ≡ old.is_changed) × (new.has_failed ≡ true)
    × (new.has_bad ≡ old.has_bad) × (new.counts ≡ with_refusal old.counts)
    × ((now : ℕ) × HasMoment moment asked.clock now × (asked.files ≡ []) × (new.last ≡ Some now)
    × (checks : List (Answered KeyParts)) × (r : Result ℕ Error)
    × (made ≡ expires now checks r ∷ []) × IsExpiry setup (steps log) now checks r
    × UnlessTold old.tells_self (HoldsAtRefusal setup log (expires now checks r) r))
IsWant setup log old Nothing made new asked text = ⊥

abbrev pub IsAnswer : Setup → Log → Served → Request → Log → Served → Asked → List ℕ → Type 0
IsAnswer setup log old request made new asked text =
    IsPlain setup log old request made new asked text ⊎ IsWant setup log old request made new asked text

-- what a request did and asked of the surroundings, and its text: after each list of calls some more, each with its answer
abbrev pub Answers : Served → Served → Request → Asked → List ℕ → Type 0
Answers old new request asked text = KeepsRest old new × ((setup : Setup) (log : Log) → IsAfter setup log old.exporter →
    (made : Log) × IsAfter setup (log ++ made) new.exporter × IsAnswer setup log old request made new asked text)

-- ---- lines

-- requests are answered one after another
abbrev pub AnswersEach : Served → List Request → Served → Asked → List ℕ → Type 0
AnswersEach old [] new asked text = (new ≡ old) × (asked ≡ nothing_asked) × (text ≡ [])
AnswersEach old (request ∷ requests) new asked text = (between : Served) × (own later : Asked) × (part rest : List ℕ)
    × Answers old between request own part × AnswersEach between requests new later rest
    × (asked ≡ then_asked own later) × (text ≡ part ++ rest)

-- a line's request is answered, and then a scrape, if the timer wants one
abbrev pub AnswersInTime : Served → Request → Asked → List ℕ → Served → Type 0
AnswersInTime old request asked text new = (first later : Asked) × (requests : List Request) × (after : Option Timer)
    × Timed old.timer request first requests after × AnswersEach (record old { timer = after }) requests new later text
    × (asked ≡ then_asked first later)

-- a line asks for this, and a strict run notes what the text has otherwise; one that is bad asks for nothing and is noted, if bad
-- lines are skipped; either counts
abbrev pub Takes : Bool → Served → List ℕ → Request → Served → Type 0
Takes skips old line request new = (Requests old.dialect (ruled_name old.rules) line request
    × (new ≡ record old {
      counts = with_line old.counts;
      has_bad = noted old.is_strict (respells old.front request) old.has_bad;
    }))
    ⊎ ((skips ≡ true) × IsBad old.dialect line × (request ≡ Nothing)
    × (new ≡ record old { counts = with_bad_line old.counts; has_bad = true }))

-- what a line asks for was answered
abbrev pub AnswersLine : Bool → Served → List ℕ → Asked → List ℕ → Served → Type 0
AnswersLine skips old line asked text new = (request : Request) × (taken : Served) × Takes skips old line request taken
    × AnswersInTime taken request asked text new

-- ---- handing out

-- What was done with what a scrape shows, or with its failure: it was handed out, or nothing was.
abbrev pub HandsOutShown : {T : Type 0} → (T → List ℕ) → Served → Result T Error → Served → List (List ℕ) → Type 0
HandsOutShown bytes old (Ok shown) new files = (done : Bool) × HandsOut old.has_file (bytes shown) done files
    × (new ≡ record old {
      is_changed = false;
      has_failed = (if done then old.has_failed else true);
      has_bad = noted old.is_strict (leaves_out (bytes shown)) old.has_bad;
    })
HandsOutShown bytes old (Err e) new files = (files ≡ [])
    × (new ≡ record old { counts = with_refusal old.counts; has_failed = true })

-- ---- the end of the input

-- the end shows what is held if something changed since the last scrape, unless only scrapes do
abbrev pub shows_at_end : Bool → Bool → Bool
shows_at_end at_scrapes_only is_changed = if at_scrapes_only then false else is_changed

-- What is held at the end is shown; or memory ran out, and some series is held, unless the program's own ones are shown.
abbrev pub ShowsEnd : Served → Served → Asked → List ℕ → Type 0
ShowsEnd old new asked text = (setup : Setup) (log : Log) → IsAfter setup log old.exporter →
    ((shown : List ℕ) × (done : Bool) × Shows setup log old shown × (text ≡ scrape_text old.has_file shown)
    × HandsOut old.has_file shown done asked.files × (new.has_failed ≡ (if done then old.has_failed else true))
    × (new.has_bad ≡ noted old.is_strict (leaves_out shown) old.has_bad))
    ⊎ ((text ≡ fault_text old.has_file Memory) × (new.has_failed ≡ true) × (new.has_bad ≡ old.has_bad)
    × UnlessTold old.tells_self (HoldsSome (cells_after setup (steps log))))

abbrev pub IsEnd : Served → Served → Asked → List ℕ → Type 0
IsEnd old new asked text = (asked.clock ≡ []) × (((shows_at_end old.at_scrapes_only old.is_changed ≡ true) × ShowsEnd old new asked text)
    ⊎ ((shows_at_end old.at_scrapes_only old.is_changed ≡ false) × (asked.files ≡ []) × (new.has_failed ≡ old.has_failed)
    × (new.has_bad ≡ old.has_bad) × (text ≡ [])))
