use Rattle.std.proofs.Common.{◌≡◌, Bool, ◌&&◌, cond, Some, refl, ap, subst}
use Rattle.std.specs.HashMap.{get}
use denote.Enum.Bare.{sameb}
use mathlib.Core.Path.{fun_ext}
use Rattle.metrics_names.specs.contracts.kind.MetricKind.{the_type}
use Rattle.metrics_names.specs.declared.kind.MetricKind.{MetricKind}
use Rattle.metrics_names.specs.declared.kind.MetricKind.TheVariants.{Counter, Gauge, Histogram}
use Rattle.metrics_names.specs.Names.{SeriesKey, kind_eq, key_eq, series_key_eq}
use Rattle.metrics.proofs.debugging.put.Goals as goal

-- the derived test of kinds is the test of their numbers
kind_same : (j k : MetricKind) → sameb the_type j k ≡ kind_eq j k
kind_same Counter Counter = refl
kind_same Counter Gauge = refl
kind_same Counter Histogram = refl
kind_same Gauge Counter = refl
kind_same Gauge Gauge = refl
kind_same Gauge Histogram = refl
kind_same Histogram Counter = refl
kind_same Histogram Gauge = refl
kind_same Histogram Histogram = refl

abbrev derived_eq : SeriesKey → SeriesKey → Bool
derived_eq a b = sameb the_type a.kind b.kind && key_eq a.key b.key

same_test : derived_eq ≡ series_key_eq
same_test = fun_ext (λ a. fun_ext (λ b. ap (λ x. x && key_eq a.key b.key) (kind_same a.kind b.kind)))

pub returns-clause-rows : goal.returns-clause-rows
returns-clause-rows c = λ k.
    subst (λ (test : SeriesKey → SeriesKey → Bool). get test c.insert.new.self k ≡ cond (test c.args.key k) (Some c.args.value) (get test c.args.map.now k)) same_test (c.in-Ok.ensures.updates.0 k)
