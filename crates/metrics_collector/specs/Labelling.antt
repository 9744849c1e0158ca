-- The labels of a series as a collector keeps it.
use Rattle.std.specs.Prelude.{◌≡◌, not, bytes_eq, List, ◌++◌}
use Rattle.std.specs.List.{filter, list_any}
use Rattle.metrics_names.specs.Names.{LabelParts, KeyParts, AreOrdered}

-- those whose names no own label has
abbrev pub new_among : List LabelParts → List LabelParts → List LabelParts
new_among own more = filter (λ l. not (list_any (λ m. bytes_eq m.0 l.0) own)) more

-- a key as it is kept: its own labels, and of the collector's those whose names it lacks, in order
pub record IsKept (more : List LabelParts) (asked kept : KeyParts) : Type 0 where
  pub name : kept.name ≡ asked.name
  pub labels : AreOrdered (asked.labels ++ new_among asked.labels more) kept.labels
