use Rattle.std.proofs.Common.{None}
use Rattle.metrics_prometheus.specs.Written.{written, AreApart}
use Rattle.metrics_exposition.proofs.PairLemmas.{pairs-map, pairs-places}
use Rattle.metrics_prometheus.proofs.WrittenLemmas.{IsBefore, before-apart, written-ascend}
use Rattle.metrics_prometheus.proofs.ReadingLemmas.{rows-read, rows-buckets, kinds-after}
use Rattle.metrics_prometheus.proofs.DistinctLemmas.{samples-distinct}
use Rattle.metrics_prometheus.proofs.ToldLemmas.{series-keyed, series-written}
use Rattle.metrics_prometheus.proofs.TextLineLemmas.{text-has}
use Rattle.metrics_prometheus.proofs.OneTextLemmas.{one-text}
use Rattle.metrics_prometheus.proofs.TypeLemmas.{text-tells}
use Rattle.metrics_prometheus.proofs.HelpLemmas.{text-describes}
use Rattle.metrics_prometheus.proofs.UsingLemmas.{names-written}
use Rattle.metrics_prometheus.proofs.laws.exposition_law.Goals as goal

pub returns-clause-distinct : goal.returns-clause-distinct
returns-clause-distinct c = λ naming legend places cells text kinds e. samples-distinct cells e.rows e.all.ordered (rows-read cells kinds)

pub returns-clause-apart : goal.returns-clause-apart
returns-clause-apart c = λ naming legend places cells text e.
    let rows = written e.rows None e.rows in
    pairs-places AreApart rows (pairs-map IsBefore AreApart before-apart rows (written-ascend e.rows e.all.ordered))

pub returns-clause-keyed : goal.returns-clause-keyed
returns-clause-keyed c = series-keyed

pub returns-clause-samples : goal.returns-clause-samples
returns-clause-samples c = λ naming legend places cells text e. text-has cells text e

pub returns-clause-written : goal.returns-clause-written
returns-clause-written c = series-written

pub returns-clause-buckets : goal.returns-clause-buckets
returns-clause-buckets c = rows-buckets

pub returns-clause-kinds : goal.returns-clause-kinds
returns-clause-kinds c = kinds-after

pub returns-clause-types : goal.returns-clause-types
returns-clause-types c = λ naming legend places cells text kinds e. text-tells cells text kinds e

pub returns-clause-one : goal.returns-clause-one
returns-clause-one c = λ naming legend places cells a b e f. one-text cells a b e f

pub returns-clause-helps : goal.returns-clause-helps
returns-clause-helps c = λ naming legend places cells text kinds e. text-describes cells text kinds e

pub returns-clause-used : goal.returns-clause-used
returns-clause-used c = λ naming legend places cells text e name. names-written e.rows e.all.ordered name
