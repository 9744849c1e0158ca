use Rattle.std.proofs.Common.{◌<◌, ◌^◌, arith}
use Rattle.tool_state.proofs.EntryLemmas.{state-read}
use Rattle.tool_state.proofs.reading.read_state.Goals as goal

pub returns-then-number-wanted : goal.returns-then-number-wanted
returns-then-number-wanted c =
    let small : c.in_ok-number.number < 2 ^ 64 = omega arith in
    state-read c.args.title.now c.args.bytes.now c.in_ok-wanted.lines.now c.in_ok-wanted.wanted c.in_ok-number.number c.args.on.now c.do_lines.new.on small c.in_ok-wanted.ensures c.if-number-wanted.true c.in_ok-number.ensures
