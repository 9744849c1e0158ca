-- Units, compared.
use Rattle.std.specs.Prelude.{Bool}
use denote.Enum.Bare.{sameb}
use Rattle.metrics_names.specs.contracts.common.Unit.{the_type}
use Rattle.metrics_names.specs.declared.common.Unit.{Unit as Measure}

-- whether two units are the same
abbrev pub unit_eq : Measure → Measure → Bool
unit_eq a b = sameb the_type a b
