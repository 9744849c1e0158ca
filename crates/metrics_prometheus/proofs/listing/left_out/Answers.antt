use Rattle.std.proofs.Common.{rules}
use Rattle.metrics_prometheus.proofs.LeftOutLemmas.{left-more, left-none, cut-here, cut-nowhere}
use Rattle.metrics_prometheus.proofs.listing.left_out.Goals as goal

pub loop-line-preserved : goal.loop-line-preserved
loop-line-preserved c = (
  search rules,
  λ lines is readable.
      let rest = c.loop-line.rest.now in
      let line = c.in-Some.line.now in
      let later = c.in-Some.later.now in
      let cut = cut-here rest line later c.in-Some.ensures.cases in
      left-more lines c.loop-line.found.items c.push_left_out.new.found.items rest line later cut.0 cut.1 c.in_ok-push_left_out.ensures (c.loop-line.invariant.1 lines is readable),
)

pub returns-clause-found : goal.returns-clause-found
returns-clause-found c = λ lines is readable.
    let rest = c.loop-line.rest.now in
    left-none lines c.loop-line.found.items rest (cut-nowhere rest (rw c.in_default.is at c.split_once.ensures.cases)) (c.loop-line.invariant.1 lines is readable)
