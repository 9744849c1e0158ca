use Rattle.std.proofs.Common.{◌∙◌, sym}
use Rattle.tool_prometheus.specs.Output.{with_shards}
use Rattle.tool_prometheus.proofs.OutputLemmas.{output-same, output-silent}
use Rattle.tool_prometheus.proofs.RunLemmas.{run-output}
use Rattle.tool_prometheus.proofs.laws.output_law.Goals as goal

pub returns-clause-one : goal.returns-clause-one
returns-clause-one c = λ options start bytes a b p q s t h g e.
    output-same c.exposition_law.ensures.one c.exporter_law.ensures.expiry options start bytes p q a b s t h g e

pub returns-clause-written : goal.returns-clause-written
returns-clause-written c = λ options start bytes text asked status runs ok. run-output options start bytes text asked status runs ok

pub returns-clause-same : goal.returns-clause-same
returns-clause-same c = λ options start shards bytes a b p q s t own runs ran ok all.
    let h = run-output options start bytes a p s runs ok in
    let g = run-output (with_shards shards options) start bytes b q t ran all in
    output-same c.exposition_law.ensures.one c.exporter_law.ensures.expiry options start bytes p q a b s t h g
    (output-silent options start bytes p a s own h ∙ sym (output-silent options start bytes q b t own g))
