use Rattle.std.proofs.Common.{Some}
use Rattle.metrics_prometheus.specs.Counted.{counted_bytes}
use Rattle.metrics_prometheus.specs.declared.counted.CountedText.{CountedText}
use Rattle.tool_prometheus.proofs.AnswerLemmas.{shown-after, none-after}
use Rattle.tool_prometheus.proofs.showing.shown_at.Goals as goal

pub returns-in-Ok-clause-shown : goal.returns-in-Ok-clause-shown
returns-in-Ok-clause-shown c =
    shown-after counted_bytes c.args.on.now (record c.args.on.now { exporter = c.expire.new.self; last = Some c.args.now }) c.args.now
    c.in-Ok.field-0 c.text_of.result c.in-Ok.ensures.expired c.text_of.ensures.text c.text_of.ensures.refused

pub returns-in-Err-clause-shown : goal.returns-in-Err-clause-shown
returns-in-Err-clause-shown c =
    none-after {T = CountedText} counted_bytes c.args.on.now (record c.args.on.now { exporter = c.expire.new.self; last = Some c.args.now }) c.args.now
    _ c.in-Err.ensures.expired
