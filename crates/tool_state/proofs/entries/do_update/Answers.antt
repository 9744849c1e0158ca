use Rattle.tool_state.proofs.EntryLemmas.{does-update}
use Rattle.tool_state.proofs.entries.do_update.Goals as goal

pub returns : goal.returns
returns c = does-update c.args.times c.args.unit c.args.key.now c.args.by c.args.on.now c.update_times.new.on c.in_ok-update_times.ensures.calls c.in_ok-update_times.ensures.descriptions
