-- The value of a cell, and what an update does to it.
use Rattle.std.specs.Prelude.{◌≡◌, true, false, Result, Ok, Err}
use Rattle.metrics_names.specs.declared.kind.MetricKind.{MetricKind}
use Rattle.metrics_names.specs.declared.kind.MetricKind.TheVariants.{Counter, Gauge, Histogram}
use Rattle.metrics_names.specs.declared.refused.Refused.{Refused}
use Rattle.metrics_names.specs.declared.refused.Refused.TheVariants.{Memory, NoSuchAddress, NoSuchBook, BadHandle}
use Rattle.metrics_names.specs.Names.{kind_eq}
use Rattle.metrics.specs.declared.debugging.DebugValue.{DebugValue}
use Rattle.metrics.specs.declared.debugging.DebugValue.TheVariants.{Counter as CounterValue, Gauge as GaugeValue, Histogram as HistogramValue}
use Rattle.metrics.specs.declared.handles.Update.{Update}
use Rattle.metrics.specs.Book.{kind_of, updated}
use Rattle.metrics.specs.Meaning.{TakesMemory}
use Rattle.metrics_debugging.specs.declared.debugging.cells.Cell.{Cell}
use Rattle.metrics_debugging.specs.declared.debugging.cells.Cell.TheVariants.{Counter as CounterCell, Gauge as GaugeCell, Histogram as HistogramCell}

abbrev pub value_of : Cell → DebugValue
value_of (CounterCell n) = CounterValue n
value_of (GaugeCell n) = GaugeValue n
value_of (HistogramCell xs) = HistogramValue xs

-- the kind that a value is of
abbrev pub kind_of_value : DebugValue → MetricKind
kind_of_value (CounterValue n) = Counter
kind_of_value (GaugeValue n) = Gauge
kind_of_value (HistogramValue xs) = Histogram

-- a value accepts an update of its kind, and no other
abbrev pub UpdatesValue : {A : Type 0} → DebugValue → DebugValue → Update → Result A Refused → Type 0
UpdatesValue old new by (Ok done) = (kind_eq (kind_of by) (kind_of_value old) ≡ true) × (new ≡ updated by old)
UpdatesValue old new by (Err (Memory acted)) = (kind_eq (kind_of by) (kind_of_value old) ≡ true) × TakesMemory by × (acted ≡ 0) × (new ≡ old)
UpdatesValue old new by (Err NoSuchAddress) = (kind_eq (kind_of by) (kind_of_value old) ≡ false) × (new ≡ old)
UpdatesValue old new by (Err NoSuchBook) = ⊥
UpdatesValue old new by (Err BadHandle) = ⊥
