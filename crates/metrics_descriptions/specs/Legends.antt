-- The descriptions of names.
use Rattle.std.specs.Prelude.{if◌then◌else◌, ◌≡◌, ◌&&◌, ℕ, List, Option, None, Some, bytes_eq}
use Rattle.indexmap.specs.IndexMap.{get_by_text}
use Rattle.metrics_names.specs.declared.common.Unit.{Unit as Measure}
use Rattle.metrics_names.specs.declared.kind.MetricKind.{MetricKind}
use Rattle.metrics_names.specs.Names.{kind_eq}
use Rattle.metrics.specs.Book.{Description, no_description, described_again}
use Rattle.metrics.specs.Kinds.{of_kind}
use Rattle.metrics_descriptions.specs.declared.descriptions.Described.{Described}
use Rattle.metrics_descriptions.specs.declared.descriptions.Descriptions.{Descriptions}

-- the unit and the text of a description
abbrev pub unit_in : Described → Option Measure
unit_in d = d.unit

abbrev pub text_in : Described → List ℕ
text_in d = d.text

-- what is found of a name, as a description
abbrev pub description_of : Option Described → Description
description_of None = no_description
description_of (Some d) = record { unit = unit_in d; text = Some (text_in d) }

-- the description of each kind and name
abbrev pub Legend : Type 0
Legend = MetricKind → List ℕ → Description

-- the description that is kept for a name
abbrev pub described_by : Descriptions → Legend
described_by ds kind name = description_of (get_by_text (of_kind kind ds.names) name)

-- nothing was described
abbrev pub no_legend : Legend
no_legend kind name = no_description

-- the same of each kind and name
abbrev pub SameLegend : Legend → Legend → Type 0
SameLegend a b = (kind : MetricKind) (name : List ℕ) → a kind name ≡ b kind name

-- a name is described again: a text replaces the old one, and a unit only if there is a new one
abbrev pub legend_described : MetricKind → List ℕ → Option Measure → List ℕ → Legend → Legend
legend_described kind name unit text keyed k n = if kind_eq kind k && bytes_eq name n then described_again unit text (keyed k n) else keyed k n

abbrev pub DescribesName : MetricKind → List ℕ → Option Measure → List ℕ → Legend → Legend → Type 0
DescribesName kind name unit text old new = SameLegend new (legend_described kind name unit text old)
