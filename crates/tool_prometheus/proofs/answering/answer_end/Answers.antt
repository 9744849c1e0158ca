use Rattle.std.proofs.Common.{[], refl, sym, ◌∙◌, append-nil, inl, inr}
use Rattle.metrics_prometheus.specs.Counted.{counted_bytes}
use Rattle.tool_prometheus.specs.Asked.{nothing_asked}
use Rattle.tool_prometheus.specs.Exposed.{shown_text}
use Rattle.tool_prometheus.proofs.AnswerLemmas.{end_shown}
use Rattle.tool_prometheus.proofs.AskedLemmas.{asks_none}
use Rattle.tool_prometheus.proofs.answering.answer_end.Goals as goal

pub returns-then-shows_at_end : goal.returns-then-shows_at_end
returns-then-shows_at_end g c =
    let r = c.text_of-shown.result in
    let (files, out, asked) = c.hand_out_shown.ensures.done in
    let on = c.args.on.now in
    let done = end_shown on c.hand_out_shown.new.on files counted_bytes r c.text_of-shown.ensures.text c.text_of-shown.ensures.refused out in
    (record { clock = []; files = files }, shown_text counted_bytes on.has_file r, (refl, inl (sym c.shows_at_end.ensures ∙ c.if-shows_at_end.true, done)), asked, c.hand_out_shown.ensures.text)

pub returns-else-shows_at_end : goal.returns-else-shows_at_end
returns-else-shows_at_end g c =
    (nothing_asked, [], (refl, inr (sym c.shows_at_end.ensures ∙ c.if-shows_at_end.false, refl, refl, refl, refl)), asks_none _, sym (append-nil _))
