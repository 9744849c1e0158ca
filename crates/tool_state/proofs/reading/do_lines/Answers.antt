use Rattle.tool_state.proofs.EntryLemmas.{so-far-none, so-far-more, so-far-end, none-left, shorter}
use Rattle.tool_state.proofs.reading.do_lines.Goals as goal

pub loop-rest-init : goal.loop-rest-init
loop-rest-init c = so-far-none c.args.bytes.now c.args.on.now

pub loop-rest-preserved : goal.loop-rest-preserved
loop-rest-preserved c = so-far-more _ _ _ _ _ _ _ _ _ c.loop-rest.invariant c.in-Some.ensures.0 c.in-Some-checked_add.ensures.1 c.in_ok-do_line.ensures

pub loop-rest-smaller : goal.loop-rest-smaller
loop-rest-smaller c = shorter _ _ _ c.in-Some.ensures.0

pub returns : goal.returns
returns c = so-far-end _ _ _ _ _ c.loop-rest.invariant (none-left _ _ c.is_empty.ensures c.loop-rest-test.false)
