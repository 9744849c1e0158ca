use Rattle.tool_export.proofs.RequestLemmas.{no_amount, no_key}
use Rattle.tool_export.proofs.requests.change_of.Goals as goal

pub returns-in_default-update_of : goal.returns-in_default-update_of
returns-in_default-update_of c = no_amount c.args.word.now c.args.bytes.now c.in-Some.amount.now c.in-Some.rest.now
    c.in-Some.ensures.0 c.in-Some.ensures.1 c.in_default-update_of.ensures

pub returns-in-None : goal.returns-in-None
returns-in-None c = no_key c.args.word.now c.args.bytes.now c.in-Some.amount.now c.in-Some.rest.now c.in-Some.ensures.0
    c.in-Some.ensures.1 (rw c.in-None.is at c.in_ok-key.ensures)
