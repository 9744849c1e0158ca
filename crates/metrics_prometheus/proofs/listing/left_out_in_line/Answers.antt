use Rattle.std.proofs.Common.{codes}
use Rattle.metrics_prometheus.proofs.LeftOutLemmas.{keyed-line, strips}
use Rattle.metrics_prometheus.proofs.listing.left_out_in_line.Goals as goal

pub returns : goal.returns
returns c = keyed-line c.args.line.now c.strip_prefix.result (strips (codes "# left out: ") c.args.line.now c.strip_prefix.result c.strip_prefix.ensures.cases)
