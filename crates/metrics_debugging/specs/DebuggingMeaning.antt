-- What a recorder of one book means.
use Rattle.metrics.specs.Meaning.{Meaning, one_book}
use Rattle.metrics_debugging.specs.declared.debugging.DebuggingRecorder.{DebuggingRecorder}
use Rattle.metrics_debugging.specs.Debugging.{content_of}
use Rattle.metrics_debugging.specs.DebuggingOrder.{series_of, activity_of}

abbrev pub meaning_of : DebuggingRecorder → Meaning
meaning_of r = one_book (content_of (series_of r.series) (activity_of r.series) r.descriptions)
