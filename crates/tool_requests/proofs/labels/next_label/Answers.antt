use Rattle.tool_requests.proofs.ReadLemmas.{label-read}
use Rattle.tool_requests.proofs.labels.next_label.Goals as goal

pub returns : goal.returns
returns c = label-read c.args.bytes.now c.in-Some.bytes.now c.in_ok-key.key.now c.in_ok-key.value.now c.in-Some.ensures
    c.in_ok-key.ensures.3 c.in_ok-key.ensures.0 c.in_ok-key.ensures.1 c.in_ok-key.ensures.2 (λ b. b.now) c.label_from.result c.label_from.ensures
