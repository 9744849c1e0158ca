use Rattle.tool_state.proofs.entries.do_entry.Goals as goal

pub returns-in-Change : goal.returns-in-Change
returns-in-Change c = rw c.in-Change.is c.do_update.ensures

pub returns-in-Describe : goal.returns-in-Describe
returns-in-Describe c = rw c.in-Describe.is (rw (c.as_str.ensures, c.as_str-in-Describe.ensures) at c.do_description.ensures)
