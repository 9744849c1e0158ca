use Rattle.std.proofs.Common.{Err}
use Rattle.tool_grammar.specs.declared.error.RunError.TheVariants.{Device}
use Rattle.tool_stream.proofs.Loop.{written, broken, flushed}
use Rattle.tool_stream.proofs.machine.run_lines_leaving.Goals as goal

pub returns-in-Ok : goal.returns-in-Ok
returns-in-Ok g c =
    let R = g.M.LineMachine.answers in
    let B = g.M.LineMachine.is_bad in
    let T = c.args.takes_partial in
    let run = written R B T _ _ _ _ _ _ _ _ _ _ _ _ c.answer_lines-answered.ensures c.write_out.ensures.waiting c.in-Ok.ensures.bytes in
    flushed R B T _ _ _ _ _ _ _ _ c.args.first c.answer_lines-answered.result c.flush.result c.flush.ensures.flushed run c.flush.ensures.bytes

pub returns : goal.returns
returns g c =
    let R = g.M.LineMachine.answers in
    let B = g.M.LineMachine.is_bad in
    let T = c.args.takes_partial in
    let run = broken R B T _ _ _ _ _ _ _ _ _ _ _ _ c.answer_lines-answered.ensures c.in-Err.ensures.bytes in
    flushed R B T _ _ _ _ _ _ _ _ c.args.first (Err Device) c.flush-in-Err.result c.flush-in-Err.ensures.flushed run c.flush-in-Err.ensures.bytes
