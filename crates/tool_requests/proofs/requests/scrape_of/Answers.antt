use Rattle.std.proofs.Common.{arith}
use Rattle.tool_requests.proofs.ReadLemmas.{scrape-read}
use Rattle.tool_requests.proofs.requests.scrape_of.Goals as goal

pub returns-in-Some-number_of : goal.returns-in-Some-number_of
returns-in-Some-number_of c = λ dialect. scrape-read dialect c.args.bytes.now c.in-Some.digits.now c.in-Some-number_of.now c.in-Some.ensures
    c.in-Some-number_of.ensures (omega arith)
