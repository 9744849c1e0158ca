use Rattle.tool_requests.proofs.CommonLemmas.{labels-value}
use Rattle.tool_requests.proofs.laws.label_law.Goals as goal

pub returns : goal.returns
returns c = labels-value
