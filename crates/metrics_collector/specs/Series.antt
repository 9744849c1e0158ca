-- The key of a handle's series: the one for which its cell was made. All handles of a cell have the same.
use Rattle.std.specs.Arc.{arc_value}
use Rattle.metrics_names.specs.Names.{KeyParts}
use Rattle.metrics_counts.specs.Keys.{key_of}
use Rattle.metrics_collector.specs.declared.cells.CounterHandle.{CounterHandle}
use Rattle.metrics_collector.specs.declared.cells.GaugeHandle.{GaugeHandle}
use Rattle.metrics_collector.specs.declared.cells.HistogramHandle.{HistogramHandle}

abbrev pub counter_key : CounterHandle → KeyParts
counter_key handle = key_of (arc_value handle.cell)

abbrev pub gauge_key : GaugeHandle → KeyParts
gauge_key handle = (arc_value handle.cell).key.key

abbrev pub histogram_key : HistogramHandle → KeyParts
histogram_key handle = (arc_value handle.cell).key.key
