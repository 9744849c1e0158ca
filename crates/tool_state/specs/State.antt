-- A state: calls as lines of the program's language, each with how many times it is made.
use Rattle.std.specs.Prelude.{◌≡◌, ℕ, ◌<◌, ◌^◌, List, [], ◌∷◌, ◌++◌, Option, codes, decimal, Ok, map, length, replicate}
use Rattle.std.specs.List.{AllByRecursion, flat_map}
use Rattle.metrics_names.specs.declared.common.Unit.{Unit as Measure}
use Rattle.metrics_names.specs.Names.{KeyParts}
use Rattle.metrics.specs.declared.handles.Update.{Update}
use Rattle.metrics_exporter.specs.declared.exporter.Exporter.{Exporter}
use Rattle.metrics_exporter.specs.Exporting.{Setup, Log, updates_in}
use Rattle.metrics_descriptions.specs.Legends.{Legend, SameLegend, no_legend, legend_described}
use Rattle.metrics_exporter.specs.Kept.{IsAfter, described}
use Rattle.tool_grammar.specs.Cuts.{Lacks}
use Rattle.tool_grammar.specs.Grammar.{unit_word}
use Rattle.tool_requests.specs.declared.requests.Request.{Request}
use Rattle.tool_requests.specs.declared.requests.Request.TheVariants.{Change, Describe, Scrape, Nothing}
use Rattle.tool_requests.specs.declared.dialect.Dialect.{Dialect}
use Rattle.tool_prometheus.specs.declared.commands.Options.{Options}
use Rattle.tool_prometheus.specs.Serving.{Start, new_start, Begins}
use Rattle.tool_requests.specs.Lines.{Spells}

-- ---- lines

-- how many times a request is made, the unit that a histogram of it is made in, if any, and the request
abbrev pub Entry : Type 0
Entry = ℕ × Option Measure × Request

-- no common labels, and whole numbers
abbrev pub plain : Dialect
plain = record { labels = []; places = [] }

-- the number, the unit's word, and a line of the program's language that spells the request, with spaces between; no line feed
abbrev pub IsLine : List ℕ → Entry → Type 0
IsLine line e = Lacks 10 line × (e.0 < 2 ^ 64)
    × ((rest : List ℕ) × (line ≡ decimal e.0 ++ 32 ∷ (unit_word e.1 ++ 32 ∷ rest)) × Spells plain rest e.2)

-- a line, and what it says
abbrev pub StateLine : Type 0
StateLine = List ℕ × Entry

abbrev pub IsLineOf : StateLine → Type 0
IsLineOf l = IsLine l.0 l.1

-- each line ends in a line feed
abbrev pub lines_text : List StateLine → List ℕ
lines_text [] = []
lines_text (l ∷ lines) = l.0 ++ 10 ∷ lines_text lines

-- a first line of the title and the number of the others, and those
abbrev pub state_text : List ℕ → List StateLine → List ℕ
state_text title lines = title ++ 32 ∷ (decimal (length lines) ++ 32 ∷ (codes "lines\n" ++ lines_text lines))

abbrev pub entries_of : List StateLine → List Entry
entries_of lines = map (λ l. l.1) lines

-- the bytes are a state of this title that says this
abbrev pub IsState : List ℕ → List ℕ → List Entry → Type 0
IsState title bytes entries = (lines : List StateLine) × AllByRecursion IsLineOf lines × (length lines < 2 ^ 64)
    × (bytes ≡ state_text title lines) × (entries ≡ entries_of lines)

-- ---- what it means

-- these updates of a key, each in this unit and answered Ok
abbrev pub made_in : Option Measure → KeyParts → List Update → Log
made_in unit key us = map (λ u. updates_in unit key u (Ok tt)) us

-- the updates of an entry
abbrev pub calls_by : Entry → Log
calls_by (n, unit, Change key by) = made_in unit key (replicate n by)
calls_by (n, unit, Describe kind name measure note) = []
calls_by (n, unit, Scrape moment) = []
calls_by (n, unit, Nothing) = []

abbrev pub calls_of : List Entry → Log
calls_of entries = flat_map calls_by entries

-- the descriptions after an entry, and after all
abbrev pub legend_by : Entry → Legend → Legend
legend_by (n, unit, Change key by) legend = legend
legend_by (n, unit, Describe kind name measure note) legend = legend_described kind name measure note legend
legend_by (n, unit, Scrape moment) legend = legend
legend_by (n, unit, Nothing) legend = legend

abbrev pub legend_of : List Entry → Legend → Legend
legend_of [] legend = legend
legend_of (e ∷ entries) legend = legend_of entries (legend_by e legend)

-- the calls of entries were made, and the names described
abbrev pub DoesAll : List Entry → Exporter → Exporter → Type 0
DoesAll entries old new = ((setup : Setup) (log : Log) → IsAfter setup log old → IsAfter setup (log ++ calls_of entries) new)
    × SameLegend (described new) (legend_of entries (described old))

-- the bytes are a state of this title, and what it says was done
abbrev pub ReadsState : List ℕ → List ℕ → Exporter → Exporter → Type 0
ReadsState title bytes old new = (entries : List Entry) × IsState title bytes entries × DoesAll entries old new

-- a run begins with what this says
abbrev pub start_of : List Entry → Start
start_of entries = record { calls = calls_of entries; legend = legend_of entries no_legend }

-- ---- laws

-- a new exporter of the options that reads a state is one that a run begins with, where it begins with what the state says
abbrev pub ReadingBegins : Type 0
ReadingBegins = (options : Options) (title bytes : List ℕ) (entries : List Entry) (fresh new : Exporter) → Begins options new_start fresh
    → IsState title bytes entries → ReadsState title bytes fresh new → Begins options (start_of entries) new

-- bytes are a state of one list of entries at most
abbrev pub AtMostOneState : Type 0
AtMostOneState = (title bytes : List ℕ) (a b : List Entry) → IsState title bytes a → IsState title bytes b → a ≡ b
