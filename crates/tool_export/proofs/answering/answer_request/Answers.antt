use Rattle.std.proofs.Common.{rules, string_bytes, Err}
use Rattle.tool_export.specs.Exported.{scrape_text, report_text}
use Rattle.tool_export.proofs.AnswerLemmas.{told, scrape_shown, scrape_wants}
use Rattle.tool_export.proofs.answering.answer_request.Goals as goal

pub returns-in-Change : goal.returns-in-Change
returns-in-Change c =
    let done = told c.args.on.now c.update.new.self c.in-Change.key c.in-Change.by c.update.result (search rules)
    c.update.ensures.calls c.update.ensures.full c.update.ensures.absent in
    (report_text c.update.result, rw c.in-Change.is done, search rules)

pub returns-in-Ok : goal.returns-in-Ok
returns-in-Ok c =
    let done = scrape_shown c.args.on.now c.shown_at.new.on c.in-Scrape.now string_bytes c.in-Ok.series c.as_str.result.now
    (search rules) c.in-Ok.ensures.shown in
    (scrape_text c.in-Scrape.now c.as_str.result.now, rw c.in-Scrape.is done, search rules)

pub returns-in-Err : goal.returns-in-Err
returns-in-Err c =
    let done = scrape_wants c.args.on.now c.shown_at.new.on c.in-Scrape.now c.in-Err.e c.in-Err.ensures.shown in
    (report_text (Err c.in-Err.e), rw c.in-Scrape.is done, search rules)
