use Rattle.std.proofs.Common.{◌≡◌, ◌++◌, OnOk, string_bytes, subst}
use Rattle.metrics_prometheus.specs.Counted.{counted_bytes}
use Rattle.tool_prometheus.specs.declared.answering.Served.{Served}
use Rattle.tool_prometheus.specs.Exposed.{shown_text, ShowsAt, HandsOutShown}
use Rattle.tool_prometheus.proofs.AnswerLemmas.{scraped, scraped_on}
use Rattle.tool_prometheus.proofs.AskedLemmas.{asks_both, asks_later}
use Rattle.tool_prometheus.proofs.answering.answer_scrape.Goals as goal

pub returns : goal.returns
returns g c =
    let r = c.shown_at-shown.result in
    let old = c.args.on.now in
    let on = c.shown_at-shown.new.on in
    let now = c.moment_of-now.result in
    let (clock, at, gave) = c.moment_of-now.ensures in
    let (files, out, handed) = c.hand_out_shown.ensures.done in
    let shown = subst (λ (s : Served). ShowsAt counted_bytes old s now r) c.shown_at-shown.ensures.others c.shown_at-shown.ensures.shown in
    let handed_so = subst (λ (s : Served). HandsOutShown counted_bytes s r c.hand_out_shown.new.on files) c.shown_at-shown.ensures.others out in
    let done = scraped old on.exporter counted_bytes c.args.moment now clock files c.hand_out_shown.new.on r c.shown_at-shown.ensures.legend at shown handed_so in (
      record { clock = clock; files = files },
      shown_text counted_bytes old.has_file r,
      done,
      asks_later _ _ _ _ c.tell_bad.ensures (asks_both _ _ _ clock files gave handed),
      subst (λ (s : Served). OnOk c.hand_out_shown.result (string_bytes c.hand_out_shown.new.text
          ≡ string_bytes c.args.text.now ++ shown_text counted_bytes s.has_file r)) c.shown_at-shown.ensures.others c.hand_out_shown.ensures.text,
    )
