use Rattle.tool_requests.proofs.ReadLemmas.{note-read}
use Rattle.tool_requests.proofs.requests.note_of.Goals as goal

pub returns : goal.returns
returns c = note-read c.args.bytes.now c.in-Some.text.now (λ t. t.now) c.text_of.result c.in-Some.ensures c.text_of.ensures
