use Rattle.tool_requests.proofs.OneLemmas.{request_same}
use Rattle.tool_requests.proofs.laws.line_law.Goals as goal

pub returns : goal.returns
returns c = record { one = request_same; apart = λ dialect line q (s, can, is, asks) none. none s can is }
