use Rattle.tool_state.proofs.EntryLemmas.{does-description}
use Rattle.tool_state.proofs.entries.do_description.Goals as goal

pub returns : goal.returns
returns c = does-description c.args.times c.args.measure c.args.kind c.args.name.now c.args.unit c.args.note.now c.args.on.now c.describe.new.self c.in_ok-describe.ensures.calls c.in_ok-describe.ensures.ok
