-- A book in memory.
use Rattle.std.specs.Prelude.{◌≡◌, if◌then◌else◌, ℕ, Bool, List, [], ◌∷◌}
use Rattle.std.specs.List.{list_any}
use Rattle.metrics_names.specs.declared.kind.MetricKind.{MetricKind}
use Rattle.metrics_names.specs.Names.{SeriesKey}
use Rattle.metrics.specs.Book.{Content, Series, content_at, is_of, new_book}
use Rattle.metrics.specs.Meaning.{Meaning}
use Rattle.metrics_descriptions.specs.declared.descriptions.Descriptions.{Descriptions}
use Rattle.metrics_descriptions.specs.Legends.{described_by}

-- one new book, which has each name as it is
pub record IsNewBook (m : Meaning) : Type 0 where
  pub contents : m.contents ≡ new_book ∷ []
  pub targets : (kind : MetricKind) (name : List ℕ) → m.targets kind name ≡ (0, name) ∷ []

-- the content of a book, from its series, which of them are active, and its descriptions
abbrev pub content_of : List Series → List Bool → Descriptions → Content
content_of xs marks ds = record { series = xs; active = marks; described = described_by ds }

-- 1 if the first book holds the series, and else 0
abbrev pub one_if_held : SeriesKey → Meaning → ℕ
one_if_held k m = if list_any (is_of k) (content_at 0 m.contents).series then 1 else 0
