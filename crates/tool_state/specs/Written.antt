-- What is added to a state.
use Rattle.std.specs.Prelude.{◌≡◌, ℕ, ◌+◌, List, [], ◌++◌, ◌⊎◌, length, string_bytes, Option, Some}
use Rattle.std.specs.List.{AllByRecursion}
use Rattle.metrics_names.specs.declared.kind.MetricKind.{MetricKind}
use Rattle.metrics_names.specs.declared.common.Unit.{Unit as Measure}
use Rattle.metrics_descriptions.specs.declared.descriptions.Descriptions.{Descriptions}
use Rattle.metrics_descriptions.specs.Legends.{SameLegend, described_by}
use Rattle.metrics_exporter.specs.Readings.{KeyedReading}
use Rattle.tool_state.specs.declared.body.Body.{Body}
use Rattle.tool_state.specs.State.{Entry, StateLine, IsLineOf, lines_text, entries_of, calls_of, legend_of}
use Rattle.tool_state.specs.Held.{BoundsBy, MakeReadings}

-- lines that say this were added
abbrev pub Adds : List Entry → Body → Body → Type 0
Adds entries old new = (lines : List StateLine) × AllByRecursion IsLineOf lines × (entries_of lines ≡ entries)
    × (string_bytes new.text ≡ string_bytes old.text ++ lines_text lines) × (new.number ≡ old.number + length lines)

-- the name has the same description in both
abbrev pub TellsSame : Descriptions → Descriptions → MetricKind → List ℕ → Type 0
TellsSame a b kind name = described_by a kind name ≡ described_by b kind name

-- the name has this description
abbrev pub TellsSo : Descriptions → MetricKind → List ℕ → Option Measure → List ℕ → Type 0
TellsSo a kind name unit text = described_by a kind name ≡ record { unit = unit; text = Some text }

-- lines were added that describe names as `after` does where `before` doesn't, and call nothing
abbrev pub AddsNotes : Descriptions → Descriptions → Body → Body → Type 0
AddsNotes before after old new = (notes : List Entry) × Adds notes old new × (calls_of notes ≡ [])
    × SameLegend (described_by after) (legend_of notes (described_by before))

-- each other name keeps its description, or this name has the one that it had
abbrev pub KeepsSo : Descriptions → Descriptions → MetricKind → List ℕ → Type 0
KeepsSo before after kind name = (k : MetricKind) (n : List ℕ) → (described_by after k n ≡ described_by before k n) ⊎ ((k ≡ kind) × (n ≡ name))

-- a name that had the description of `on` has it still
abbrev pub KeepsSame : Descriptions → Descriptions → Descriptions → Type 0
KeepsSame before after on = (kind : MetricKind) (name : List ℕ) → TellsSame before on kind name → TellsSame after on kind name

-- lines were added that make what the series have, by the bounds of each unit and name
abbrev pub AddsReadings : BoundsBy → List KeyedReading → Body → Body → Type 0
AddsReadings bounds keyed old new = (entries : List Entry) × Adds entries old new × MakeReadings bounds keyed entries
