-- What the program did with the lines that it read.
use Rattle.std.specs.Prelude.{if◌then◌else◌, ◌≡◌, ℕ, Bool, true, false, List, [], ◌∷◌, ◌++◌, ◌⊎◌, Result, Ok, Err, Option, None}
use Rattle.tool_grammar.specs.declared.error.RunError.{RunError}
use Rattle.tool_grammar.specs.declared.error.RunError.TheVariants.{Memory, BadLine, Device}
use Rattle.tool_stream.specs.declared.machine.Unanswered.{Unanswered}
use Rattle.tool_stream.specs.declared.machine.Unanswered.TheVariants as unanswered
use Rattle.tool_stream.specs.Answering.{Answering, IsRun, IsLeft, status_number}
use Rattle.metrics_names.specs.declared.kind.MetricKind.{MetricKind}
use Rattle.metrics_exporter.specs.Kept.{IsAfter, described}
use Rattle.metrics_exporter.specs.declared.exporter.Exporter.{Exporter}
use Rattle.metrics_exporter.specs.Exporting.{Log}
use Rattle.metrics_descriptions.specs.Legends.{Legend, SameLegend, no_legend}
use Rattle.tool_prometheus.specs.Making.{setup_for}
use Rattle.tool_prometheus.specs.declared.answering.Served.{Served}
use Rattle.tool_prometheus.specs.declared.commands.Options.{Options}
use Rattle.tool_prometheus.specs.Asked.{Asked, Asks, nothing_asked, then_asked}
use Rattle.tool_requests.specs.Lines.{IsBad}
use Rattle.tool_requests.specs.Places.{front_of}
use Rattle.tool_requests.specs.Names.{ruled_name}
use Rattle.tool_prometheus.specs.Names.{name_by}
use Rattle.tool_prometheus.specs.Timing.{Starts}
use Rattle.tool_prometheus.specs.Exposed.{AnswersLine, IsEnd}
use Rattle.tool_prometheus.specs.Own.{nothing_counted}

-- what answers lines, by surroundings that say what was asked of them; whatever is noted of the run
abbrev pub answers : {Around Notes : Type 0} → (Around → Option Asked) → Bool → Answering ((Served × Around) × Notes)
answers asked_of skips p line text q = (asked : Asked) × AnswersLine skips p.0.0 line asked text q.0.0
    × Asks (asked_of p.0.1) (asked_of q.0.1) asked

-- the same, by any surroundings, with what was asked of them since the beginning
abbrev pub answers_since : Bool → Answering ((Served × Asked) × Unit {0})
answers_since skips p line text q = (asked : Asked) × AnswersLine skips p.0.0 line asked text q.0.0
    × (q.0.1 ≡ then_asked p.0.1 asked)

-- a bad line ends a run that doesn't skip it
abbrev pub Stops : Bool → Served → List ℕ → Type 0
Stops skips on line = (skips ≡ false) × IsBad on.dialect line

-- why a line asks for nothing: it ends the run, or memory ran out
abbrev pub IsUntaken : Bool → Served → List ℕ → Unanswered → Type 0
IsUntaken skips on line unanswered.Bad = Stops skips on line
IsUntaken skips on line unanswered.Memory = Unit {0}
IsUntaken skips on line unanswered.Lost = ⊥

-- after the last line what is held may be shown; memory or the device may fail then, and what was shown may be cut short
abbrev pub EndsLines : Served → Served → Asked → List ℕ → Result ℕ RunError → Result ℕ RunError → Type 0
EndsLines old new asked text (Ok n) (Ok m) = IsEnd old new asked text × (m ≡ n)
EndsLines old new asked text (Ok n) (Err (BadLine k)) = ⊥
EndsLines old new asked text (Ok n) (Err (Memory at)) = (at ≡ None) × (text ≡ []) × ((whole : List ℕ) × IsEnd old new asked whole)
EndsLines old new asked text (Ok n) (Err Device) = (whole more : List ℕ) × IsEnd old new asked whole × (whole ≡ text ++ more)
EndsLines old new asked text (Err e) r = (text ≡ []) × (asked ≡ nothing_asked) × (new.has_failed ≡ old.has_failed) × (r ≡ Err e)

-- a line that was left counts as a bad one
abbrev pub or_left : List ℕ → Bool → Bool
or_left [] has_bad = has_bad
or_left (x ∷ xs) has_bad = true

-- what is served after the lines; if the run went on to its end, a line that was left is noted
abbrev pub left_noted : Result ℕ RunError → List ℕ → Served → Served
left_noted (Ok n) left on = record on { has_bad = or_left left on.has_bad }
left_noted (Err e) left on = on

-- what a run over lines did and wrote, what it asked of the surroundings, which last line it left, and what it did and wrote at the
-- end
abbrev pub IsPrometheusRun : Bool → Bool → Type 0 → Served → List ℕ → List ℕ → Asked → Result ℕ RunError → Served → Type 0
IsPrometheusRun skips takes at_end old read text asked r new = (served : Served) × (lines last : List ℕ) × (before after : Asked)
    × (q : Result ℕ RunError) × (front left : List ℕ) × (read ≡ front ++ left) × IsLeft takes front left q
    × IsRun (answers_since skips) (λ on. Stops skips on.0) at_end 1 ((old, nothing_asked), tt) (served, before) front lines q
    × EndsLines (left_noted q left served) new after last q r × (text ≡ lines ++ last) × (asked ≡ then_asked before after)

-- how a run begins: the calls that made what its exporter holds, and the descriptions of names
pub record Start : Type 0 where
  pub calls : Log
  pub legend : Legend

-- nothing was called or described
abbrev pub new_start : Start
new_start = record { calls = []; legend = no_legend }

-- an exporter of the options holds what the start says
abbrev pub Begins : Options → Start → Exporter → Type 0
Begins options start on = IsAfter (setup_for options) start.calls on × SameLegend (described on) start.legend

-- what the lines act on, before the first one
abbrev pub IsFresh : Options → Start → Served → Type 0
IsFresh options start on = IsAfter (setup_for options) start.calls on.exporter × SameLegend (described on.exporter) start.legend
    × (on.naming ≡ options.naming) × (on.has_file ≡ options.has_file) × (on.is_changed ≡ false) × (on.has_bad ≡ false)
    × (on.dialect ≡ options.dialect) × (on.at_scrapes_only ≡ options.at_scrapes_only) × (on.has_failed ≡ false)
    × (on.front ≡ front_of options.prefix) × (on.max_series ≡ options.max_series) × (on.is_strict ≡ options.is_strict)
    × (on.counts ≡ nothing_counted) × (on.last ≡ None) × (on.tells_self ≡ options.tells_self)
    × ((kind : MetricKind) (name : List ℕ) → ruled_name on.rules kind name ≡ name_by options kind name)

-- the status of a run in which no call was refused, and the file was written
abbrev pub own_status : Result ℕ RunError → Bool → ℕ
own_status (Ok n) has_bad = if has_bad then 3 else 0
own_status (Err e) has_bad = status_number e

-- The status at the end: 1 if memory or the device ended the run, a call was refused, or the file could not be written; otherwise
-- 2 at a bad line, 3 if bad lines were skipped or a last one was left, and 0.
abbrev pub IsStatus : Result ℕ RunError → Bool → Bool → ℕ → Type 0
IsStatus r has_bad has_failed status = status ≡ (if has_failed then 1 else own_status r has_bad)

-- The lines were answered from the start on, and the status reports how that ended; or memory ran out before, and nothing was
-- read, written or asked.
abbrev pub Serves : Options → Start → Type 0 → List ℕ → List ℕ → Asked → ℕ → Type 0
Serves options start at_end read text asked status =
    ((begun end : Served) × (first later : Asked) × (r : Result ℕ RunError) × IsFresh options start begun × Starts options.every first begun.timer
    × IsPrometheusRun options.skips_bad options.accepts_partial at_end begun read text later r end × IsStatus r end.has_bad end.has_failed status
    × (asked ≡ then_asked first later))
    ⊎ ((read ≡ []) × (text ≡ []) × (asked ≡ nothing_asked) × (status ≡ 1))

-- the lines were answered, and the status reports how that ended
abbrev pub Ends : Options → Start → Type 0 → (List ℕ → Type 0) → (List ℕ → Type 0) → (Asked → Type 0) → ℕ → Type 0
Ends options start at_end Reads Writes Asks status = (read text : List ℕ) × (asked : Asked)
    × Reads read × Writes text × Asks asked × Serves options start at_end read text asked status
