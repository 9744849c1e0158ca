use Rattle.std.proofs.Common.{string_bytes}
use Rattle.tool_export.proofs.AnswerLemmas.{shown_after, none_shown}
use Rattle.tool_export.proofs.pages.shown_at.Goals as goal

pub returns-in-Ok-clause-shown : goal.returns-in-Ok-clause-shown
returns-in-Ok-clause-shown g c = shown_after (λ cells text. g.P.Page.shows c.args.page.now c.expire.new.self cells (string_bytes text))
    _ _ c.args.now c.in-Ok.field-0 c.text.result c.in-Ok.ensures.expired c.text.ensures.text c.text.ensures.refused

pub returns-in-Err-clause-shown : goal.returns-in-Err-clause-shown
returns-in-Err-clause-shown g c = none_shown _ _ c.args.now _ c.in-Err.ensures.expired
