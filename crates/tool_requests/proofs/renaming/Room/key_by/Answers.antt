use Rattle.tool_requests.proofs.NamesLemmas.{first-found}
use Rattle.tool_requests.proofs.renaming.Room.key_by.Goals as goal

pub returns-in-Ok : goal.returns-in-Ok
returns-in-Ok c = first-found c.args.key.now.labels _ _ _ c.in-Ok.ensures.1
