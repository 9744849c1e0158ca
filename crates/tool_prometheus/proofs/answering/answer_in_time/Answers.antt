use Rattle.std.proofs.Common.{sym, ◌∙◌, ◌++◌}
use Rattle.tool_prometheus.specs.Asked.{then_asked, clock_gave}
use Rattle.tool_prometheus.proofs.AskedLemmas.{asks_then}
use Rattle.tool_prometheus.proofs.TimingLemmas.{untimed, timed_alone, timed_both, in_code, texts_both}
use Rattle.tool_prometheus.proofs.answering.answer_in_time.Goals as goal

pub returns-in_default : goal.returns-in_default
returns-in_default g c =
    let (more, whole, answers, asks, ok) = c.answer_request.ensures in
    (more, whole, untimed c.args.on.now c.answer_request.new.on c.args.request more whole c.in_default.is answers, asks, ok)

pub returns-then-is_due : goal.returns-then-is_due
returns-then-is_due g c =
    let (own, part, answers, asks, first) = c.answer_request-answered.ensures in
    let (later, rest, scraped, asked, second) = c.answer_request-scraped.ensures in
    let now = c.seconds-now.result in
    let there = in_code c.args.on.now c.in-Some.timer c.args.request now c.restarted.result c.at_moment-request.result c.answer_request-answered.new.on own part
    c.restarted.ensures c.at_moment-request.ensures answers in (
      then_asked (clock_gave now) (then_asked own later),
      part ++ rest,
      timed_both c.args.on.now c.in-Some.timer c.args.request now c.in-Some.is c.answer_request-answered.new.on c.answer_request-scraped.new.on own later part rest
          (sym c.is_due-is_due.ensures ∙ c.if-is_due.true) there scraped,
      asks_then _ _ _ (clock_gave now) (then_asked own later) c.seconds-now.ensures (asks_then _ _ _ own later asks asked),
      texts_both c.answer_request-answered.result c.answer_request-scraped.result c.both.result _ _ _ part rest c.both.ensures first second,
    )

pub returns : goal.returns
returns g c =
    let (own, part, answers, asks, ok) = c.answer_request-answered.ensures in
    let now = c.seconds-now.result in
    let there = in_code c.args.on.now c.in-Some.timer c.args.request now c.restarted.result c.at_moment-request.result c.answer_request-answered.new.on own part
    c.restarted.ensures c.at_moment-request.ensures answers in (
      then_asked (clock_gave now) own,
      part,
      timed_alone c.args.on.now c.in-Some.timer c.args.request now c.in-Some.is c.answer_request-answered.new.on own part
          (sym c.is_due-is_due.ensures ∙ c.if-is_due.false) there,
      asks_then _ _ _ (clock_gave now) own c.seconds-now.ensures asks,
      ok,
    )
