use Rattle.std.proofs.Common.{Err, subst, arith}
use Rattle.std.proofs.lemmas.Result.{err_from_is_err_and}
use Rattle.tool_stream.specs.Answering.{AnswersLine}
use Rattle.tool_stream.specs.declared.stream.Found.{Found}
use Rattle.tool_stream.proofs.Loop.{begin, waited, more, at_end, at_half, at_last, unread, failed_line, failed_last, given_up}
use Rattle.tool_stream.proofs.machine.answer_lines.Goals as goal

pub loop-init : goal.loop-init
loop-init g c = begin g.M.LineMachine.answers g.M.LineMachine.is_bad c.args.takes_partial _ _ _ _ _ c.requires (omega (arith, c.ranges.first.fits))

pub loop-preserved : goal.loop-preserved
loop-preserved g c =
    let R = g.M.LineMachine.answers in
    let B = g.M.LineMachine.is_bad in
    let T = c.args.takes_partial in
    let found = rw c.in-Ok-Line.field-0-is at c.in-Ok-Line.ensures.line in
    let so = waited R B T _ _ _ _ _ _ _ _ _ _ _ _ c.loop.invariant c.in-Ok-Line.ensures.waiting in
    let line = rw c.deref.ensures.value at c.in_ok-answer_line-in-Ok-Line.ensures in
    rw (c.saturating_add-count.ensures, c.saturating_add-number.ensures)
    (more R B T _ _ _ _ _ _ _ _ _ _ _ _ _ _ _ so found.0 found.1 line)

pub returns-in-Ok-Last : goal.returns-in-Ok-Last
returns-in-Ok-Last g c =
    let R = g.M.LineMachine.answers in
    let B = g.M.LineMachine.is_bad in
    let T = c.args.takes_partial in
    let found = rw c.in-Ok-Last.field-0-is at c.in-Ok-Last.ensures.line in
    let so = waited R B T _ _ _ _ _ _ _ _ _ _ _ _ c.loop.invariant c.in-Ok-Last.ensures.waiting in
    let line = rw c.deref-in-Ok-Last.ensures.value at c.in_ok-answer_line-in-Ok-Last.ensures in
    rw c.saturating_add.ensures (at_last R B T _ _ _ _ _ _ _ _ _ _ _ _ _ _ _ so c.clear.new.self.items c.if-not-takes_partial.false found.0 found.1 found.2 found.3 line c.clear.ensures.items)

pub returns-in-Ok-End : goal.returns-in-Ok-End
returns-in-Ok-End g c =
    let found = rw c.in-Ok-End.field-0-is at c.in-Ok-End.ensures.line in
    at_end g.M.LineMachine.answers g.M.LineMachine.is_bad c.args.takes_partial _ _ _ _ _ _ _ c.read_line.new.waiting.items _ _ (c.loop.on, c.loop.notes) _ _ _ c.read_line.new.line.items c.loop.invariant c.in-Ok-End.ensures.waiting found.0 found.1 found.2

pub returns-in-Err : goal.returns-in-Err
returns-in-Err g c =
    rw c.at_line.ensures
    (unread g.M.LineMachine.answers g.M.LineMachine.is_bad c.args.takes_partial _ _ _ _ _ _ _ c.read_line.new.waiting.items _ _ (c.loop.on, c.loop.notes) _ _ _ c.read_line.new.line.items c.loop.invariant Found c.in-Err.fault c.in-Err.ensures.line.1 c.in-Err.ensures.waiting)

pub returns : goal.returns
returns g c = given_up g.M.LineMachine.answers g.M.LineMachine.is_bad c.args.takes_partial _ _ _ _ _ c.loop.line.items _ _ _ _ _ c.loop.invariant

pub returns-in_err-answer_line-in-Ok-Line : goal.returns-in_err-answer_line-in-Ok-Line
returns-in_err-answer_line-in-Ok-Line g c =
    let R = g.M.LineMachine.answers in
    let B = g.M.LineMachine.is_bad in
    let T = c.args.takes_partial in
    let p = err_from_is_err_and c.from_residual.result c.from_residual.ensures.1 in
    let found = rw c.in-Ok-Line.field-0-is at c.in-Ok-Line.ensures.line in
    let so = waited R B T _ _ _ _ _ _ _ _ _ _ _ _ c.loop.invariant c.in-Ok-Line.ensures.waiting in
    let line = subst (λ l. AnswersLine R B (c.loop.on, c.loop.notes) (c.answer_line.new.on, c.answer_line.new.notes) l (g.O.Write.contents c.read_line.new.output) (g.O.Write.contents c.answer_line.new.output) c.read_line.new.waiting.items c.answer_line.new.waiting.items c.loop.number (Err c.in_err-answer_line-in-Ok-Line.field-0.0)) c.deref.ensures.value c.in_err-answer_line-in-Ok-Line.ensures in
    rw (p.1, p.2) (failed_line R B T _ _ _ _ _ _ _ _ _ _ _ _ _ _ _ so found.0 found.1 _ line)

pub returns-in_err-answer_line-in-Ok-Last : goal.returns-in_err-answer_line-in-Ok-Last
returns-in_err-answer_line-in-Ok-Last g c =
    let R = g.M.LineMachine.answers in
    let B = g.M.LineMachine.is_bad in
    let T = c.args.takes_partial in
    let p = err_from_is_err_and c.from_residual-in_err-answer_line-in-Ok-Last.result c.from_residual-in_err-answer_line-in-Ok-Last.ensures.1 in
    let found = rw c.in-Ok-Last.field-0-is at c.in-Ok-Last.ensures.line in
    let so = waited R B T _ _ _ _ _ _ _ _ _ _ _ _ c.loop.invariant c.in-Ok-Last.ensures.waiting in
    let line = subst (λ l. AnswersLine R B (c.loop.on, c.loop.notes) (c.answer_line-in-Ok-Last.new.on, c.answer_line-in-Ok-Last.new.notes) l (g.O.Write.contents c.read_line.new.output) (g.O.Write.contents c.answer_line-in-Ok-Last.new.output) c.read_line.new.waiting.items c.answer_line-in-Ok-Last.new.waiting.items c.loop.number (Err c.in_err-answer_line-in-Ok-Last.field-0.0)) c.deref-in-Ok-Last.ensures.value c.in_err-answer_line-in-Ok-Last.ensures in
    rw (p.1, p.2) (failed_last R B T _ _ _ _ _ _ _ _ _ _ _ _ _ _ _ so c.if-not-takes_partial.false found.0 found.1 found.2 found.3 _ line)

pub returns-then-not-takes_partial : goal.returns-then-not-takes_partial
returns-then-not-takes_partial g c =
    let found = rw c.in-Ok-Last.field-0-is at c.in-Ok-Last.ensures.line in
    at_half g.M.LineMachine.answers g.M.LineMachine.is_bad c.args.takes_partial _ _ _ _ _ _ _ c.read_line.new.waiting.items _ _ (c.loop.on, c.loop.notes) _ _ _ c.read_line.new.line.items c.loop.invariant c.if-not-takes_partial.true c.in-Ok-Last.ensures.waiting found.0 found.2 found.3
