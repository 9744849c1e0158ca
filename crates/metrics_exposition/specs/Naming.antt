-- The names and the numbers that series are shown with.
use Rattle.std.specs.Prelude.{if◌then◌else◌, ◌≡◌, ◌⊎◌, ℕ, zero, suc, ◌+◌, ◌-◌, false, List, [], ◌++◌, take, length, codes, nat_eq, flat_map, Contains, Option, None, Some}
use Rattle.std.specs.List.{ends_with, AllByRecursion}
use Rattle.metrics_names.specs.declared.common.Unit.{Unit as Measure}
use Rattle.metrics_names.specs.declared.common.Unit.TheVariants.{Count, Percent, Seconds, Milliseconds, Microseconds, Nanoseconds, Bytes}
use Rattle.metrics_names.specs.declared.kind.MetricKind.{MetricKind}
use Rattle.metrics_names.specs.declared.kind.MetricKind.TheVariants.{Counter, Gauge, Histogram}
use Rattle.metrics_descriptions.specs.Legends.{Legend}
use Rattle.metrics_exposition.specs.declared.naming.Naming.{Naming}
use Rattle.metrics_exposition.specs.declared.naming.Naming.TheVariants.{AsGiven, Recommended}
use Rattle.metrics_exposition.specs.Names.{metric_name}

-- what a kind and name are shown with: a name, a description, and how many decimal places each number has
pub record Shown : Type 0 where
  pub name : List ℕ
  pub help : Option (List ℕ)
  pub places : ℕ

abbrev pub Display : Type 0
Display = MetricKind → List ℕ → Shown

-- ---- base units

-- the suffix of a name whose numbers are of the base unit
abbrev pub unit_end : Option Measure → List ℕ
unit_end None = []
unit_end (Some Count) = []
unit_end (Some Percent) = codes "_ratio"
unit_end (Some Seconds) = codes "_seconds"
unit_end (Some Milliseconds) = codes "_seconds"
unit_end (Some Microseconds) = codes "_seconds"
unit_end (Some Nanoseconds) = codes "_seconds"
unit_end (Some Bytes) = codes "_bytes"

-- the unit is this power of ten of the base unit's parts
abbrev pub unit_places : Option Measure → ℕ
unit_places None = 0
unit_places (Some Count) = 0
unit_places (Some Percent) = 2
unit_places (Some Seconds) = 0
unit_places (Some Milliseconds) = 3
unit_places (Some Microseconds) = 6
unit_places (Some Nanoseconds) = 9
unit_places (Some Bytes) = 0

-- ---- names

-- the end of a counter's name
abbrev pub total_end : MetricKind → List ℕ
total_end Counter = codes "_total"
total_end Gauge = []
total_end Histogram = []

-- the name without that end
abbrev pub without_end : List ℕ → List ℕ → List ℕ
without_end name end = if ends_with nat_eq name end then take (length name - length end) name else name

-- the name without these ends of its unit and kind, taken off so many times at most
abbrev pub bare_within : ℕ → List ℕ → List ℕ → List ℕ → List ℕ
bare_within zero unit total name = name
bare_within (suc n) unit total name = bare_within n unit total (without_end (without_end name total) unit)

-- the name without any of them
abbrev pub bare_name : List ℕ → List ℕ → List ℕ → List ℕ
bare_name unit total name = bare_within (length name) unit total name

-- the name without the ends of its unit and kind, and then each of them once
abbrev pub recommended_name : MetricKind → Option Measure → List ℕ → List ℕ
recommended_name kind unit name = bare_name (unit_end unit) (total_end kind) name ++ (unit_end unit ++ total_end kind)

-- a shown name has these ends once: the name is another, which has none of them at its end, and then some of them; shown are that
-- and each of these
pub record HasEndsOnce (ends : List (List ℕ)) (name shown : List ℕ) : Type 0 where
  pub bare : List ℕ
  pub more : List (List ℕ)
  pub name_is : name ≡ bare ++ flat_map (λ e. e) more
  pub more_are : AllByRecursion (Contains ends) more
  pub none : AllByRecursion (λ e. (e ≡ []) ⊎ (ends_with nat_eq bare e ≡ false)) ends
  pub shown_is : shown ≡ bare ++ flat_map (λ e. e) ends

abbrev pub shown_name : Naming → MetricKind → Option Measure → List ℕ → List ℕ
shown_name AsGiven kind unit name = metric_name name
shown_name Recommended kind unit name = recommended_name kind unit (metric_name name)

abbrev pub shown_places : Naming → Option Measure → ℕ
shown_places AsGiven unit = 0
shown_places Recommended unit = unit_places unit

-- the numbers of all names are whole
abbrev pub no_places : List ℕ → ℕ
no_places name = 0

-- what is shown of names that are described so, and whose numbers have these decimal places beside those of the unit
abbrev pub display_by : Naming → Legend → (List ℕ → ℕ) → Display
display_by naming legend places kind name = record {
  name = shown_name naming kind (legend kind name).unit name;
  help = (legend kind name).text;
  places = places name + shown_places naming (legend kind name).unit;
}
