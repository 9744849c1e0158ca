use Rattle.tool_requests.proofs.WordLemmas.{passed-on, no-text}
use Rattle.tool_requests.proofs.words.text_before.Goals as goal

pub returns-in_err-text : goal.returns-in_err-text
returns-in_err-text c =
    passed-on _ c.from_residual.result c.in_err-text.field-0.0 c.from_residual.ensures.1
    (no-text c.args.end c.args.bytes.now c.split_before.result.0.now c.split_before.result.1.now
    c.split_before.ensures.whole c.split_before.ensures.before c.split_before.ensures.others) c.in_err-text.ensures
