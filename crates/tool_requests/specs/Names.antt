-- The names that series get: rules give a name another one, or drop it.
use Rattle.std.specs.Prelude.{◌≡◌, ℕ, List, [], ◌∷◌, Option, None, Some, option_map}
use Rattle.metrics_names.specs.Names.{KeyParts, LabelParts}
use Rattle.metrics_names.specs.declared.kind.MetricKind.{MetricKind}
use Rattle.metrics_names.specs.declared.common.Unit.{Unit as Measure}
use Rattle.metrics.specs.declared.handles.Update.{Update}
use Rattle.metrics.specs.Book.{kind_of}
use Rattle.metrics_rules.specs.Meanings.{rules_meaning}
use Rattle.metrics_rules.specs.declared.rules.Rules.{Rules}
use Rattle.tool_requests.specs.declared.dialect.Dialect.{Dialect}
use Rattle.tool_requests.specs.declared.requests.Request.{Request}
use Rattle.tool_requests.specs.declared.requests.Request.TheVariants.{Change, Describe, Scrape, Nothing}
use Rattle.tool_requests.specs.Lines.{Spells}

-- the name that a series of a kind gets in place of one, or none if it is dropped
abbrev pub Renaming : Type 0
Renaming = MetricKind → List ℕ → Option (List ℕ)

-- ---- by rules

-- the name at the first target
abbrev pub first_name : List (ℕ × List ℕ) → Option (List ℕ)
first_name [] = None
first_name (t ∷ ts) = Some t.1

-- the name at the first target that rules have for it
abbrev pub ruled_name : Option Rules → Renaming
ruled_name None kind name = Some name
ruled_name (Some rules) kind name = first_name ((rules_meaning rules).targets kind name)

-- ---- requests

abbrev pub named_key : List LabelParts → List ℕ → KeyParts
named_key labels name = record { name = name; labels = labels }

-- an update of a key, or nothing
abbrev pub change_if : Update → Option KeyParts → Request
change_if by None = Nothing
change_if by (Some key) = Change key by

-- a description of a name, or nothing
abbrev pub describe_if : MetricKind → Option Measure → List ℕ → Option (List ℕ) → Request
describe_if kind unit note None = Nothing
describe_if kind unit note (Some name) = Describe kind name unit note

-- the request with the new name; of a dropped name nothing is asked
abbrev pub renamed : Renaming → Request → Request
renamed new (Change key by) = change_if by (option_map (named_key key.labels) (new (kind_of by) key.name))
renamed new (Describe kind name unit note) = describe_if kind unit note (new kind name)
renamed new (Scrape moment) = Scrape moment
renamed new Nothing = Nothing

-- the line asks for this: it spells a request, which has its name by the renaming
abbrev pub Requests : Dialect → Renaming → List ℕ → Request → Type 0
Requests dialect new line request = (spelled : Request) × Spells dialect line spelled × (request ≡ renamed new spelled)
