use Rattle.tool_state.proofs.reading.do_line.Goals as goal

pub returns : goal.returns
returns c = ((c.in_ok-times.times, c.in_ok-times.unit, c.in_ok-times.request), c.in_ok-times.ensures, c.in_ok-do_entry.ensures)
