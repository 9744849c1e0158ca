use Rattle.std.proofs.Common.{◌≡◌, sym, ◌∙◌, ap, subst, option_map, rules}
use Rattle.metrics.specs.Answering.{handle_named, IsHeld, Answers}
use Rattle.metrics_replay.specs.Replaying.{handle_seen, answers_of, handle_at, register_named}
use Rattle.metrics_replay.proofs.JournaledLemmas.{journal_held, journal_more}
use Rattle.metrics_replay.proofs.ReplayLemmas.{named-registers}
use Rattle.metrics_replay.proofs.journaled.Journaled.make.Goals as goal

pub invariant_of-self-2 : goal.invariant_of-self-2
invariant_of-self-2 g c =
    let M = g.R.Recorder.meaning in
    let old = M c.self.inside.on in
    let new = M c.answer_of-answer.new.on in
    let log = c.self.inside.journal.items in
    let registers = c.self.inside.registers.items in
    let call = c.args.call in
    let named : option_map handle_seen c.named_handle-handle.result ≡ handle_named call log =
    c.named_handle-handle.ensures
    ∙ ap (λ log. handle_at (answers_of log) (register_named call c.as_slice-2.result.now)) (c.as_slice.ensures.value ∙ c.reserve.ensures.items)
    ∙ named-registers call log c.as_slice-2.result.now (c.as_slice-2.ensures.value ∙ c.reserve-2.ensures.items ∙ c.self.invariant.places) in
    let held : IsHeld (option_map handle_seen c.named_handle-handle.result) old.contents =
    subst (λ h. IsHeld h old.contents) (sym named) (journal_held old log registers call c.self.invariant) in
    let r : Answers old new (handle_named call log) call c.answer_of-answer.result =
    subst (λ h. Answers old new h call c.answer_of-answer.result) named (c.answer_of-answer.ensures.answers held) in
    rw (c.push_reserved.ensures.items, c.reserve.ensures.items)
    (journal_more old new log registers c.note_register.new.registers.items call c.answer_of-answer.result c.self.invariant c.answer_of-answer.ensures.keeps r (search rules))
