use Rattle.tool_prometheus.specs.Exposed.{refusal_text}
use Rattle.tool_prometheus.proofs.AnswerLemmas.{described_told}
use Rattle.tool_prometheus.proofs.answering.answer_describe.Goals as goal

pub returns : goal.returns
returns c =
    let r = c.describe-answered.result in
    let done = described_told c.args.on.now c.describe-answered.new.self c.args.kind c.args.name.now c.args.unit c.args.note.now
    c.describe-answered.ensures.calls r c.describe-answered.ensures.ok c.describe-answered.ensures.err c.describe-answered.ensures.memory in
    (refusal_text c.args.on.now.has_file r, rw (c.write_refusal.ensures.noted, c.is_ok.ensures.value) done, c.write_refusal.ensures.text)
