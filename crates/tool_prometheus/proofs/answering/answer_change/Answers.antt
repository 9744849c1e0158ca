use Rattle.std.proofs.Common.{rules, ◌≡◌, true, false, Bool, subst}
use Rattle.std.specs.Prelude.{MatchBool}
use Rattle.metrics_exporter.specs.Exporting.{Setup, Log, steps, cells_after, series_of}
use Rattle.metrics_exporter.specs.Kept.{IsAfter}
use Rattle.tool_prometheus.specs.Exposed.{refusal_text, limit_text}
use Rattle.tool_prometheus.specs.Limit.{IsBeyond, IsWithin}
use Rattle.tool_prometheus.proofs.AnswerLemmas.{told, told_limit}
use Rattle.tool_prometheus.proofs.answering.answer_change.Goals as goal

pub returns-then-is_beyond : goal.returns-then-is_beyond
returns-then-is_beyond c =
    let on = c.args.on.now in
    let key = c.args.key.now in
    let P : Bool → Type 0 = λ b. (setup : Setup) (log : Log) → IsAfter setup log on.exporter
    → MatchBool b (IsBeyond on.max_series (cells_after setup (steps log)) (series_of key c.args.by)) (IsWithin on.max_series (cells_after setup (steps log)) (series_of key c.args.by)) in
    let test : c.is_beyond.result ≡ true = search rules in
    (limit_text on.has_file, rw c.write_limit.ensures.noted (told_limit on key c.args.by (subst P test c.is_beyond.ensures)), c.write_limit.ensures.text)

pub returns : goal.returns
returns c =
    let on = c.args.on.now in
    let r = c.update_described-answered.result in
    let key = c.args.key.now in
    let P : Bool → Type 0 = λ b. (setup : Setup) (log : Log) → IsAfter setup log on.exporter
    → MatchBool b (IsBeyond on.max_series (cells_after setup (steps log)) (series_of key c.args.by)) (IsWithin on.max_series (cells_after setup (steps log)) (series_of key c.args.by)) in
    let test : c.is_beyond.result ≡ false = search rules in
    let done = told on c.update_described-answered.new.self key c.args.by c.update_described-answered.ensures.descriptions r (search rules)
    (subst P test c.is_beyond.ensures) c.update_described-answered.ensures.calls c.update_described-answered.ensures.full c.update_described-answered.ensures.absent in
    (refusal_text on.has_file r, rw (c.write_refusal.ensures.noted, c.is_ok.ensures.value) done, c.write_refusal.ensures.text)
