use Rattle.tool_requests.proofs.ReadLemmas.{no-unit}
use Rattle.tool_requests.proofs.requests.unit_and_rest.Goals as goal

pub returns-in-None : goal.returns-in-None
returns-in-None c = no-unit c.args.bytes.now c.in_ok-word.word.now c.in_ok-word.rest.now c.in_ok-word.ensures.0
    c.in_ok-word.ensures.1 c.in_ok-word.ensures.2 c.in-None.ensures
