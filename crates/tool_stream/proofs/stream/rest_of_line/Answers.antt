use Rattle.tool_stream.specs.declared.stream.Fault.TheVariants.{Device}
use Rattle.tool_stream.proofs.Reading.{rest_feed, rest_more, rest_refused, rest_stop}
use Rattle.tool_stream.proofs.stream.rest_of_line.Goals as goal

pub loop-preserved : goal.loop-preserved
loop-preserved g c =
    let took = rw c.in-More.is at c.in_ok-take_part.ensures in
    rest_more _ _ _ _ _ _ c.loop.invariant took

pub returns-in-Feed : goal.returns-in-Feed
returns-in-Feed g c =
    let took = rw c.in-Feed.is at c.in_ok-take_part.ensures in
    rest_feed _ _ _ _ _ _ c.loop.invariant took

pub returns-in_err-take_part : goal.returns-in_err-take_part
returns-in_err-take_part g c = rest_refused _ _ _ _ _ _ c.loop.invariant c.in_err-take_part.field-0.0 _ c.in_err-take_part.ensures c.from_residual.ensures.0

pub returns : goal.returns
returns g c = rest_stop _ _ _ _ Device c.loop.invariant
