use Rattle.std.proofs.Common.{[], sym, ◌∙◌}
use Rattle.std.proofs.KnownBytes.{Appends-nil, Appends-kept}
use Rattle.tool_prometheus.proofs.ServingLemmas.{ends-shown, ends-broken, ends-memory, end-text}
use Rattle.tool_prometheus.proofs.serving.end.Goals as goal

pub returns-in-Ok : goal.returns-in-Ok
returns-in-Ok g c =
    let (more, whole, end, asks, ok) = c.answer_end.ensures in
    let (done, rest, is, wrote, all) = c.in-Ok.ensures in
    let text = end-text c.answer_end.result _ _ whole (sym c.is_err.ensures.value ∙ c.if-is_err.false) ok c.new-text.ensures.bytes in
    (more, done, Appends-kept _ _ _ done wrote c.flush-in-Ok.ensures.bytes, asks, ends-shown c.args.on.now.0 c.answer_end.new.on more c.args.count whole done rest c.flush-in-Ok.result end (sym text ∙ sym c.as_bytes.ensures.value ∙ is) all c.flush-in-Ok.ensures.flushed)

pub returns : goal.returns
returns g c =
    let (more, whole, end, asks, ok) = c.answer_end.ensures in
    let (done, rest, is, wrote, nothing) = c.in-Err.ensures in
    let text = end-text c.answer_end.result _ _ whole (sym c.is_err.ensures.value ∙ c.if-is_err.false) ok c.new-text.ensures.bytes in
    (more, done, Appends-kept _ _ _ done wrote c.flush-in-Err.ensures.bytes, asks, ends-broken c.args.on.now.0 c.answer_end.new.on more c.args.count whole done rest c.flush-in-Err.result end (sym text ∙ sym c.as_bytes.ensures.value ∙ is) c.flush-in-Err.ensures.flushed)

pub returns-then-is_err : goal.returns-then-is_err
returns-then-is_err g c =
    let (more, whole, end, asks, ok) = c.answer_end.ensures in
    (more, [], Appends-kept _ _ _ [] (Appends-nil _) c.flush.ensures.bytes, asks, ends-memory c.args.on.now.0 c.answer_end.new.on more c.args.count whole c.flush.result end c.flush.ensures.flushed)
