use Rattle.tool_prometheus.proofs.AskedLemmas.{asks_later}
use Rattle.tool_prometheus.proofs.serving.PrometheusLinesLineMachine.answer.Goals as goal

pub returns-in-Ok-answer_in_time : goal.returns-in-Ok-answer_in_time
returns-in-Ok-answer_in_time g c =
    let (more, whole, answers, asks, ok) = c.in-Ok-answer_in_time.ensures in
    (whole, ok, (more, (c.in-Ok.request, c.take_line.new.on.0, c.in-Ok.ensures.taken, answers), asks_later _ _ _ more c.take_line.ensures.asked asks))

pub returns-in-Err-answer_in_time : goal.returns-in-Err-answer_in_time
returns-in-Err-answer_in_time g c =
    let (more, whole, answers, asks, ok) = c.in-Err-answer_in_time.ensures in
    (whole, (more, (c.in-Ok.request, c.take_line.new.on.0, c.in-Ok.ensures.taken, answers), asks_later _ _ _ more c.take_line.ensures.asked asks))
