-- What a strict run takes for bad: names, labels and series that the text doesn't have as they were given.
use Rattle.std.specs.Prelude.{ℕ, Bool, true, false, not, ◌&&◌, ◌||◌, ◌==◌, List, [], bytes_eq}
use Rattle.std.specs.List.{list_any, slice_split}
use Rattle.metrics_names.specs.Names.{LabelParts}
use Rattle.metrics_prometheus.specs.LeftOut.{says_left_out}
use Rattle.tool_requests.specs.declared.requests.Request.{Request}
use Rattle.tool_requests.specs.declared.requests.Request.TheVariants.{Change, Describe, Scrape, Nothing}
use Rattle.tool_requests.specs.Spelled.{stays}

-- a label is shown by another name; one without a value isn't shown
abbrev pub respells_label : LabelParts → Bool
respells_label l = not (stays false 0 l.0) && not (bytes_eq l.1 [])

-- the text has the name of a request, or one of its labels, otherwise; so many bytes of the name are not of its line
abbrev pub respells : ℕ → Request → Bool
respells front (Change key by) = not (stays true front key.name) || list_any respells_label key.labels
respells front (Describe kind name unit note) = not (stays true front name)
respells front (Scrape moment) = false
respells front Nothing = false

-- a line of the text says that a series is left out
abbrev pub leaves_out : List ℕ → Bool
leaves_out text = list_any says_left_out (slice_split (λ c. c == 10) text)

-- in a strict run this counts as bad, and what was bad before stays so
abbrev pub noted : Bool → Bool → Bool → Bool
noted is_strict odd has_bad = (is_strict && odd) || has_bad
