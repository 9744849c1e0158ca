use Rattle.std.proofs.Common.{None}
use Rattle.std.proofs.lemmas.List.Elements.{All-from_recursion}
use Rattle.metrics_prometheus.specs.Written.{written, samples_written}
use Rattle.metrics_exposition.specs.Reading.{HasNames, CanBeRead, Ascend, NamesOnce}
use Rattle.metrics_exposition.proofs.BackLemmas.{read-back}
use Rattle.metrics_prometheus.proofs.OneReadingLemmas.{one-reading}
use Rattle.metrics_prometheus.proofs.ReadingLemmas.{rows-read, rows-of-kind}
use Rattle.metrics_prometheus.proofs.DistinctLemmas.{texts-distinct}
use Rattle.metrics_prometheus.proofs.SampleLabelLemmas.{samples-named, samples-read, labels-ascend, samples-once}
use Rattle.metrics_exposition.proofs.NumeralLemmas.{number-shifted, number-injective, unsigned-same}
use Rattle.metrics_exposition.specs.Naming.{unit_end, total_end}
use Rattle.metrics_exposition.proofs.NamingLemmas.{ends-once}
use Rattle.metrics_prometheus.proofs.laws.exposition_text_law.Goals as goal

pub returns-clause-names : goal.returns-clause-names
returns-clause-names c = λ naming legend places cells text e. All-from_recursion HasNames (samples_written cells e.rows) (samples-named cells text e)

pub returns-clause-read_back : goal.returns-clause-read_back
returns-clause-read_back c = read-back

pub returns-clause-readable : goal.returns-clause-readable
returns-clause-readable c = λ naming legend places cells text kinds e. All-from_recursion CanBeRead (samples_written cells e.rows) (samples-read cells (rows-read cells kinds) text e)

pub returns-clause-one_reading : goal.returns-clause-one_reading
returns-clause-one_reading c = one-reading

pub returns-clause-distinct : goal.returns-clause-distinct
returns-clause-distinct c = λ naming legend places cells text kinds e. texts-distinct cells (rows-read cells kinds) text e

pub returns-clause-numbers : goal.returns-clause-numbers
returns-clause-numbers c = number-shifted

pub returns-clause-labels : goal.returns-clause-labels
returns-clause-labels c = λ naming legend places cells text e. All-from_recursion (λ r. Ascend r.labels) (written e.rows None e.rows) (labels-ascend cells text e)

pub returns-clause-once : goal.returns-clause-once
returns-clause-once c = λ naming legend places cells text kinds e. All-from_recursion NamesOnce (samples_written cells e.rows) (samples-once cells (rows-of-kind cells kinds) text e)

pub returns-clause-ends : goal.returns-clause-ends
returns-clause-ends c = λ kind unit name. ends-once (unit_end unit) (total_end kind) name

pub returns-clause-one_number : goal.returns-clause-one_number
returns-clause-one_number c = unsigned-same

pub returns-clause-other_numbers : goal.returns-clause-other_numbers
returns-clause-other_numbers c = number-injective
