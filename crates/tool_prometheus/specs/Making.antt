-- What the exporter of the options is made with.
use Rattle.std.specs.Prelude.{if◌then◌else◌, ℕ, ℤ, List, [], ◌∷◌, Option, None, Some, bytes_eq}
use Rattle.std.specs.Option.{option_or, unwrap_or}
use Rattle.metrics_names.specs.declared.common.Unit.{Unit as Measure}
use Rattle.metrics_exporter.specs.Exporting.{Setup}
use Rattle.metrics_exporter.specs.Prefixes.{at_longest}
use Rattle.metrics_exporter.specs.Units.{unit_eq}
use Rattle.tool_export.specs.Plans.{setup_of}
use Rattle.tool_prometheus.specs.declared.making.PrefixBounds.{PrefixBounds}
use Rattle.tool_prometheus.specs.declared.making.UnitBounds.{UnitBounds}
use Rattle.tool_prometheus.specs.declared.commands.Options.{Options}

-- the bounds that the list sets for exactly this prefix, the last ones if it comes again
abbrev pub set_by : List PrefixBounds → List ℕ → Option (List ℤ)
set_by [] prefix = None
set_by (one ∷ rest) prefix = option_or (set_by rest prefix) (if bytes_eq prefix one.prefix then Some one.bounds else None)

-- the bounds that the list sets for a unit, the last ones if it comes again
abbrev pub set_in : List UnitBounds → Measure → Option (List ℤ)
set_in [] unit = None
set_in (one ∷ rest) unit = option_or (set_in rest unit) (if unit_eq one.unit unit then Some one.bounds else None)

-- the bounds of histograms that are made in this unit, if any: those set for it, or else the default ones
abbrev pub or_set_in : List UnitBounds → List ℤ → Option Measure → List ℤ
or_set_in units default None = default
or_set_in units default (Some unit) = unwrap_or (set_in units unit) default

-- a histogram has the bounds of the longest prefix of its name, or else those of the unit that it is made in
abbrev pub setup_for : Options → Setup
setup_for options = record {
  bounds = λ unit name. at_longest (or_set_in options.units options.plan.bounds unit) (set_by options.prefixes) name;
  rules = (setup_of options.plan).rules;
}
