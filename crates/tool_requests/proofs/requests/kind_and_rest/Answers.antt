use Rattle.tool_requests.proofs.ReadLemmas.{no-kind}
use Rattle.tool_requests.proofs.requests.kind_and_rest.Goals as goal

pub returns-in-None : goal.returns-in-None
returns-in-None c = no-kind c.args.bytes.now c.in_ok-word.word.now c.in_ok-word.rest.now c.in_ok-word.ensures.0
    c.in_ok-word.ensures.1 c.in_ok-word.ensures.2 c.in-None.ensures
