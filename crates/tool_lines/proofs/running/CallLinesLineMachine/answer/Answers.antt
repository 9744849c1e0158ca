use Rattle.std.proofs.Common.{◌≡◌, [], ◌∷◌, ◌++◌, None, MatchResult, length, string_bytes, sym, subst, ap, ◌∙◌, arith, append-nil}
use Rattle.metrics.specs.declared.calls.Call.TheVariants as call
use Rattle.metrics.specs.Answering.{handle_given}
use Rattle.tool_grammar.specs.Printing.{text_of}
use Rattle.tool_stream.specs.declared.machine.Unanswered.TheVariants.{Lost}
use Rattle.tool_lines.specs.Handles.{entries, entry_named, entries_by}
use Rattle.tool_lines.specs.Running.{addresses_in}
use Rattle.tool_lines.proofs.LogLemmas.{entries_by-one, neither}
use Rattle.tool_lines.proofs.Loop.{replied}
use Rattle.tool_lines.proofs.running.CallLinesLineMachine.answer.Goals as goal

pub returns-else-is_err : goal.returns-else-is_err
returns-else-is_err g c =
    let line_call = c.in_ok-call.call in
    let answer = c.answer_of-answer.result in
    let handles = entries c.args.notes.now in
    let is = c.in-Register.is in
    let same = c.reserve.ensures.entries in
    let long : c.len.result ≡ length handles = omega (arith, c.len.ensures, ap length same) in
    let said = subst (λ n. MatchResult c.say-said.result (λ u. string_bytes c.say-said.new.said ≡ string_bytes c.args.text.now ++ text_of n line_call answer) (λ e. e ≡ Lost)) long c.say-said.ensures in
    let noted = c.push.ensures ∙ ap (λ h. h ++ handle_given c.in-Register.kind answer ∷ []) same ∙ ap (λ es. handles ++ es) (entries_by-one (call.Register c.in-Register.kind c.in-Register.field-1) answer) ∙ ap (λ k. handles ++ entries_by k (addresses_in answer)) (sym is) in
    replied g.R.Recorder.meaning entries (c.args.on.now, c.args.notes.now) (c.answer_of-answer.new.on, c.push.new.self) c.args.line.now _ _ line_call answer c.say-said.result None
    c.in_ok-call.ensures c.answer_of-answer.ensures.keeps (sym (ap (λ k. entry_named k handles) is)) c.answer_of-answer.ensures.answers noted said

pub returns-in-Update : goal.returns-in-Update
returns-in-Update g c =
    let line_call = c.in_ok-call.call in
    let answer = c.answer_of-answer-in-Update.result in
    let handles = entries c.args.notes.now in
    let is = c.in-Update.is in
    let said = subst (λ n. MatchResult c.say-said-in-Update.result (λ u. string_bytes c.say-said-in-Update.new.said ≡ string_bytes c.args.text.now ++ text_of n line_call answer) (λ e. e ≡ Lost)) c.len-in-Update.ensures c.say-said-in-Update.ensures in
    let noted = sym (append-nil handles) ∙ ap (λ k. handles ++ entries_by k (addresses_in answer)) (sym is) in
    replied g.R.Recorder.meaning entries (c.args.on.now, c.args.notes.now) (c.answer_of-answer-in-Update.new.on, c.args.notes.now) c.args.line.now _ _ line_call answer c.say-said-in-Update.result _
    c.in_ok-call.ensures c.answer_of-answer-in-Update.ensures.keeps (c.entry.ensures ∙ sym (ap (λ k. entry_named k handles) is)) c.answer_of-answer-in-Update.ensures.answers noted said

pub returns-in_default : goal.returns-in_default
returns-in_default g c =
    let line_call = c.in_ok-call.call in
    let answer = c.answer_of-answer-in_default.result in
    let handles = entries c.args.notes.now in
    let plain = neither line_call c.in_default.not-Register c.in_default.not-Update handles (addresses_in answer) in
    let said = subst (λ n. MatchResult c.say-said-in_default.result (λ u. string_bytes c.say-said-in_default.new.said ≡ string_bytes c.args.text.now ++ text_of n line_call answer) (λ e. e ≡ Lost)) c.len-in_default.ensures c.say-said-in_default.ensures in
    let noted = sym (append-nil handles) ∙ ap (λ es. handles ++ es) (sym plain.1) in
    replied g.R.Recorder.meaning entries (c.args.on.now, c.args.notes.now) (c.answer_of-answer-in_default.new.on, c.args.notes.now) c.args.line.now _ _ line_call answer c.say-said-in_default.result None
    c.in_ok-call.ensures c.answer_of-answer-in_default.ensures.keeps (sym plain.0) c.answer_of-answer-in_default.ensures.answers noted said
