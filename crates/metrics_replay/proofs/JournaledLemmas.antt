-- A journal with one call more.
use Rattle.std.proofs.Common.{◌≡◌, suc, ◌+◌, List, [], ◌∷◌, ◌++◌, length, refl, ap, sym, ◌∙◌, subst, arith}
use Rattle.metrics.specs.declared.calls.Call.{Call}
use Rattle.metrics.specs.declared.calls.Call.TheVariants.{Describe, Register, Update as Change, Snapshot as Take, SnapshotWith as TakeWith}
use Rattle.metrics.specs.declared.calls.Answer.{Answer}
use Rattle.metrics.specs.Meaning.{Meaning, Targets, KeepsTargets}
use Rattle.metrics.specs.History.{Log, ArePlain}
use Rattle.metrics.specs.Answering.{handle_named, IsHeld, Answers}
use Rattle.metrics.proofs.ContentLemmas.{map-push}
use Rattle.metrics.proofs.HistoryLemmas.{Kept, plain-push}
use Rattle.metrics.proofs.AnsweringLemmas.{call_kept, length_answers, handle_held}
use Rattle.metrics_replay.specs.Replaying.{Place, calls_of, with_register, registers_from}
use Rattle.metrics_replay.specs.Journaled.{IsKeptOf}
use Rattle.metrics_replay.proofs.ReplayLemmas.{registers-push}

length-calls_of : (log : Log) → length (calls_of log) ≡ length log
length-calls_of [] = refl
length-calls_of (e ∷ log) = ap suc (length-calls_of log)

-- the handle that a call names is held
pub journal_held : (m : Meaning) (log : Log) (registers : List Place) (c : Call) → IsKeptOf m log registers → IsHeld (handle_named c log) m.contents
journal_held m log registers (Change n u) h = handle_held m log n h.kept
journal_held m log registers (Describe kind name unit text) h = tt
journal_held m log registers (Register kind key) h = tt
journal_held m log registers (Take b) h = tt
journal_held m log registers (TakeWith b reset) h = tt

-- one call more, noted with its answer
pub journal_more : (old new : Meaning) (log : Log) (registers now : List Place) (c : Call) (a : Answer) → IsKeptOf old log registers → KeepsTargets old new →
    Answers old new (handle_named c log) c a → now ≡ registers ++ with_register c (length log) [] → IsKeptOf new (log ++ (c, a) ∷ []) now
journal_more old new log registers now c a h k r at =
    let both = call_kept old new log c a h.kept r in
    let plain : ArePlain old.targets (length old.contents) (log ++ (c, a) ∷ []) = plain-push old.targets (length old.contents) [] log (c, a) h.plain (both.1 tt) in
    let len : 0 + length (calls_of log) ≡ length log = omega (arith, length-calls_of log) in
    record {
      plain = subst (λ n. ArePlain new.targets n (log ++ (c, a) ∷ [])) (sym (length_answers old new (handle_named c log) c a r))
          (subst (λ (t : Targets). ArePlain t (length old.contents) (log ++ (c, a) ∷ [])) (sym k) plain);
      kept = subst (λ (t : Targets). Kept (Unit {0}) t (log ++ (c, a) ∷ []) new.contents) (sym k) both.0;
      places = at
          ∙ ap (λ is. is ++ with_register c (length log) []) h.places
          ∙ ap (λ n. registers_from 0 (calls_of log) ++ with_register c n []) (sym len)
          ∙ sym (registers-push 0 (calls_of log) c)
          ∙ ap (registers_from 0) (sym (map-push (λ (e : Call × Answer). e.0) log (c, a)));
    }
