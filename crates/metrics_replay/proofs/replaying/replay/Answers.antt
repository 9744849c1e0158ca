use Rattle.std.proofs.Common.{◌≡◌, ◌+◌, ◌++◌, ◌∷◌, [], length, sym, ◌∙◌, ap, arith, take, subst, length-take-le, map, option_map}
use Rattle.std.proofs.lemmas.List.{take_more}
use Rattle.metrics.specs.Answering.{IsHeld, Answers, handle_named}
use Rattle.metrics_replay.specs.Replaying.{log_of, handle_seen, handle_at, register_named, with_register, registers_from}
use Rattle.metrics_replay.proofs.ReplayLemmas.{map-same, replayed_more, named_held, named-calls, registers-push}
use Rattle.metrics_replay.proofs.replaying.replay.Goals as goal

pub loop-i-preserved : goal.loop-i-preserved
loop-i-preserved g c =
    let M = g.R.Recorder.meaning in
    let calls = c.args.calls.now in
    let i = c.loop-i.i in
    let call = c.index-calls-i.result in
    let more : take (i + 1) calls ≡ take i calls ++ call ∷ [] =
    take_more calls i call c.loop-i-test.true ∙ ap (λ x. take i calls ++ x ∷ []) (sym c.index-calls-i.is) in
    let told = c.loop-i.answers.items in
    let log = log_of (take i calls) told in
    let named : option_map handle_seen c.named_handle-handle.result ≡ handle_named call log =
    c.named_handle-handle.ensures
    ∙ ap (λ as'. handle_at (map (λ a. a) as') (register_named call c.as_slice-in-loop-i.result.now)) c.as_slice.ensures.value
    ∙ ap (λ as'. handle_at as' (register_named call c.as_slice-in-loop-i.result.now)) (map-same told)
    ∙ named-calls call (take i calls) told c.as_slice-in-loop-i.result.now c.loop-i.invariant.replayed.number (c.as_slice-in-loop-i.ensures.value ∙ c.loop-i.invariant.places) in
    let held = subst (λ h. IsHeld h (M c.loop-i.on).contents) (sym named)
    (named_held (M c.args.on.now) (M c.loop-i.on) (take i calls) told call c.loop-i.invariant.replayed) in
    let r = subst (λ h. Answers (M c.loop-i.on) (M c.answer_of-answer.new.on) h call c.answer_of-answer.result) named (c.answer_of-answer.ensures.answers held) in
    let so_far : length (take i calls) ≡ i = length-take-le i calls (omega (arith, c.loop-i-test.true)) in
    let zero_more : 0 + length (take i calls) ≡ i = omega (arith, so_far) in
    record {
      room = omega (arith, c.push_reserved.ensures.capacity, c.loop-i.invariant.room);
      len = omega (arith, c.push_reserved.ensures.len, c.loop-i.invariant.len);
      register_room = omega (arith, c.note_register.ensures.capacity, c.loop-i.invariant.register_room);
      register_len = omega (arith, c.note_register.ensures.len, c.loop-i.invariant.register_len);
      places =
          c.note_register.ensures.items
          ∙ ap (λ is. is ++ with_register call i []) c.loop-i.invariant.places
          ∙ ap (λ n. registers_from 0 (take i calls) ++ with_register call n []) (sym zero_more)
          ∙ sym (registers-push 0 (take i calls) call)
          ∙ ap (registers_from 0) (sym more);
      replayed = rw (more, c.push_reserved.ensures.items)
          (replayed_more (M c.args.on.now) (M c.loop-i.on) (M c.answer_of-answer.new.on) (take i calls) told call c.answer_of-answer.result
          c.loop-i.invariant.replayed c.answer_of-answer.ensures.keeps r);
    }
