-- What a whole run writes, if nothing fails.
use Rattle.std.specs.Prelude.{if◌then◌else◌, ◌≡◌, ℕ, Bool, true, false, List, [], ◌∷◌, ◌++◌, ◌⊎◌, Ok, Option, None, Some, OnSome}
use Rattle.std.specs.List.{AllByRecursion}
use Rattle.std.specs.Io.KnownBytes.{Consumes, Appends, IsAtEnd}
use Rattle.metrics_names.specs.Names.{KeyParts}
use Rattle.metrics_registry.specs.Idleness.{Answered}
use Rattle.metrics_exporter.specs.Exporting.{Log, updates_in, expires, steps, cells_after, series_of, IsExpiry, IsFull}
use Rattle.metrics_descriptions.specs.Legends.{Legend, legend_described}
use Rattle.metrics_exporter.specs.Describing.{unit_told}
use Rattle.tool_stream.specs.Lines.{lines_of, ended_lines, is_cut}
use Rattle.tool_prometheus.specs.Making.{setup_for}
use Rattle.tool_prometheus.specs.declared.commands.Options.{Options}
use Rattle.tool_requests.specs.declared.requests.Request.{Request}
use Rattle.tool_requests.specs.declared.requests.Request.TheVariants.{Change, Describe, Scrape, Nothing}
use Rattle.tool_requests.specs.Lines.{Spells, IsBad}
use Rattle.tool_requests.specs.Places.{kept_places, front_of}
use Rattle.tool_requests.specs.Names.{Requests}
use Rattle.tool_prometheus.specs.Names.{name_by}
use Rattle.tool_prometheus.specs.Asked.{Asked, Asks, nothing_asked, then_asked}
use Rattle.tool_prometheus.specs.Exposed.{scrape_text, HasMoment, HandsOut, shows_at_end}
use Rattle.tool_prometheus.specs.declared.timing.Timer.{Timer}
use Rattle.tool_prometheus.specs.Timing.{Timed, Starts}
use Rattle.tool_prometheus.specs.Limit.{IsWithin}
use Rattle.tool_prometheus.specs.Strict.{respells, leaves_out, noted}
use Rattle.tool_prometheus.specs.declared.counts.Counts.{Counts}
use Rattle.tool_prometheus.specs.Own.{Own, IsShown, nothing_counted, with_line, with_bad_line}
use Rattle.tool_prometheus.specs.Serving.{Start, Ends}

-- ---- one request

-- what was done so far
pub record Done : Type 0 where
  -- the calls, in order
  pub calls : Log
  -- the descriptions of names
  pub legend : Legend
  -- something changed since the last scrape
  pub is_changed : Bool
  -- a bad line was skipped, the last line isn't counted, or something else was bad in a strict run
  pub has_bad : Bool
  -- the timer for scrapes
  pub timer : Option Timer
  -- what was counted
  pub counts : Counts
  -- the moment of the last scrape
  pub last : Option ℕ

-- the decimal places of the names that are kept
abbrev pub places_shown : Options → List ℕ → ℕ
places_shown options = kept_places options.dialect.places (front_of options.prefix)

-- what the program's own series are made of
abbrev pub own_done : Options → Done → Own
own_done options done = record { labels = options.dialect.labels; counts = done.counts; last = done.last }

-- an exposition of what is held, with the program's own series if those are shown, in the file or on the output
abbrev pub PrintsExposition : Options → Done → List (List ℕ) → List ℕ → List ℕ → Type 0
PrintsExposition options done files shown text =
    IsShown options.tells_self (own_done options done) options.naming done.legend (places_shown options)
    (cells_after (setup_for options) (steps done.calls)) shown
    × (text ≡ scrape_text options.has_file shown) × HandsOut options.has_file shown true files

-- What a request prints, what it asks of the surroundings, and what is done then. An update is made in the unit that its name
-- has; it fails only if the count of its samples is full, or there would be too many series. A scrape removes what is idle. In a
-- strict run a series that it leaves out is bad.
abbrev pub Prints : Options → Done → Request → Asked → List ℕ → Done → Type 0
Prints options old (Change key by) asked text new = (asked ≡ nothing_asked) × (IsFull (steps old.calls) key by → ⊥) × (text ≡ [])
    × IsWithin options.max_series (cells_after (setup_for options) (steps old.calls)) (series_of key by)
    × (new ≡ record old { calls = old.calls ++ updates_in (unit_told old.legend key by) key by (Ok tt) ∷ []; is_changed = true })
Prints options old (Describe kind name unit note) asked text new = (asked ≡ nothing_asked) × (text ≡ [])
    × (new ≡ record old { legend = legend_described kind name unit note old.legend; is_changed = true })
Prints options old (Scrape moment) asked text new = (now : ℕ) × HasMoment moment asked.clock now
    × (checks : List (Answered KeyParts)) × (n : ℕ) × (shown : List ℕ)
    × IsExpiry (setup_for options) (steps old.calls) now checks (Ok n)
    × (new ≡ record old {
      calls = old.calls ++ expires now checks (Ok n) ∷ [];
      is_changed = false;
      has_bad = noted options.is_strict (leaves_out shown) old.has_bad;
      last = Some now;
    })
    × PrintsExposition options new asked.files shown text
Prints options old Nothing asked text new = (asked ≡ nothing_asked) × (text ≡ []) × (new ≡ old)

-- ---- a run

-- at the end of the input what is held is shown, if something changed since the last scrape, unless only scrapes show it; and
-- whether something was bad
abbrev pub PrintsEnd : Options → Done → Asked → List ℕ → Bool → Type 0
PrintsEnd options done asked text has_bad = (asked.clock ≡ [])
    × (((shows_at_end options.at_scrapes_only done.is_changed ≡ true) × ((shown : List ℕ)
    × PrintsExposition options done asked.files shown text × (has_bad ≡ noted options.is_strict (leaves_out shown) done.has_bad)))
    ⊎ ((shows_at_end options.at_scrapes_only done.is_changed ≡ false) × (asked.files ≡ []) × (text ≡ [])
    × (has_bad ≡ done.has_bad)))

-- the lines of an input: a last one that lacks its line feed is none, unless it is accepted
abbrev pub lines_in : Bool → List ℕ → List (List ℕ)
lines_in accepts_partial bytes = if accepts_partial then lines_of bytes else ended_lines bytes

-- a last line is not counted
abbrev pub loses_line : Bool → List ℕ → Bool
loses_line accepts_partial bytes = if accepts_partial then false else is_cut bytes

-- before the first line
abbrev pub begun : Start → Bool → Option Timer → Done
begun start loses timer = record {
  calls = start.calls;
  legend = start.legend;
  is_changed = false;
  has_bad = loses;
  timer = timer;
  counts = nothing_counted;
  last = None;
}

-- requests print one after another
abbrev pub PrintsEach : Options → Done → List Request → Asked → List ℕ → Done → Type 0
PrintsEach options old [] asked text new = (new ≡ old) × (asked ≡ nothing_asked) × (text ≡ [])
PrintsEach options old (request ∷ requests) asked text new = (between : Done) × (own later : Asked) × (part rest : List ℕ)
    × Prints options old request own part between × PrintsEach options between requests later rest new
    × (asked ≡ then_asked own later) × (text ≡ part ++ rest)

-- what a line's request prints, and then a scrape, if the timer wants one
abbrev pub PrintsInTime : Options → Done → Request → Asked → List ℕ → Done → Type 0
PrintsInTime options old request asked text new = (first later : Asked) × (requests : List Request) × (after : Option Timer)
    × Timed old.timer request first requests after × PrintsEach options (record old { timer = after }) requests later text new
    × (asked ≡ then_asked first later)

-- a line asks for this, and it is bad in a strict run if the text has its name or a label otherwise; one that is bad by itself
-- asks for nothing, if bad lines are skipped; either counts
abbrev pub TakesLine : Options → Done → List ℕ → Request → Done → Type 0
TakesLine options old line request new = (Requests options.dialect (name_by options) line request
    × (new ≡ record old {
      counts = with_line old.counts;
      has_bad = noted options.is_strict (respells (front_of options.prefix) request) old.has_bad;
    }))
    ⊎ ((options.skips_bad ≡ true) × IsBad options.dialect line × (request ≡ Nothing)
    × (new ≡ record old { counts = with_bad_line old.counts; has_bad = true }))

-- Lines print one after another, and then the end of the input does. A bad line is skipped, or ends the run. The status is 2
-- at a bad line, 3 if bad lines were skipped or the last one is not counted, or something else was bad in a strict run, and
-- otherwise 0.
abbrev pub PrintLines : Options → Done → List (List ℕ) → Asked → List ℕ → ℕ → Type 0
PrintLines options done [] asked text status =
    (has_bad : Bool) × PrintsEnd options done asked text has_bad × (status ≡ (if has_bad then 3 else 0))
PrintLines options done (l ∷ ls) asked text status =
    ((request : Request) × (taken new : Done) × (own later : Asked) × (part others : List ℕ) × TakesLine options done l request taken
    × PrintsInTime options taken request own part new × PrintLines options new ls later others status
    × (asked ≡ then_asked own later) × (text ≡ part ++ others))
    ⊎ ((options.skips_bad ≡ false) × IsBad options.dialect l × (asked ≡ nothing_asked) × (text ≡ []) × (status ≡ 2))

-- The text and the status of a run with these options from this start over these bytes, and what it asks of the surroundings: a
-- moment for each scrape without its own, or one at the start and for each line if scrapes have a period; and to put each scrape's
-- text into the file.
abbrev pub IsOutput : Options → Start → List ℕ → Asked → List ℕ → ℕ → Type 0
IsOutput options start bytes asked text status = (first later : Asked) × (timer : Option Timer) × Starts options.every first timer
    × PrintLines options (begun start (loses_line options.accepts_partial bytes) timer) (lines_in options.accepts_partial bytes) later text status
    × (asked ≡ then_asked first later)

-- ---- what `command` says of a run

-- A run over these bytes asked this, wrote this text and ended with this status, by the contract of `command_on`.
abbrev pub Runs : Options → Start → List ℕ → Asked → List ℕ → ℕ → Type 0
Runs options start bytes asked text status = (left : Option (List ℕ)) × Ends options start (OnSome (Some bytes) (IsAtEnd left))
    (Consumes (Some bytes) left) (Appends (Some []) (Some text)) (Asks (Some nothing_asked) (Some asked)) status

-- the same, but for the number of shards
abbrev pub with_shards : ℕ → Options → Options
with_shards n options = record options { plan = record options.plan { shards = n } }

-- each scrape is a line with its own moment
abbrev pub NamesMoments : Options → List ℕ → Type 0
NamesMoments options bytes = (options.every ≡ None) × AllByRecursion (λ line. Spells options.dialect line (Scrape None) → ⊥)
    (lines_in options.accepts_partial bytes)
