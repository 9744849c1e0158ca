-- What a run over call lines did, from what the loop over lines says of the machine.
use Rattle.std.proofs.Common.{◌≡◌, ℕ, ◌+◌, List, [], ◌∷◌, ◌++◌, length, Option, Some, None, IfSome, OnSome, OnOk, Result, Ok, Err, MatchResult, refl, sym, ap, subst, ◌∙◌, append_assoc, append-nil}
use Rattle.std.specs.Io.KnownBytes.{Consumes, Appends, IsAtEnd}
use Rattle.std.proofs.lemmas.List.{length-map}
use Rattle.metrics.specs.declared.calls.Call.{Call}
use Rattle.metrics.specs.declared.calls.Answer.{Answer}
use Rattle.metrics.specs.Meaning.{Meaning, AreNew, KeepsTargets}
use Rattle.metrics.specs.History.{Log}
use Rattle.metrics.specs.Answering.{Handle, Answers, IsHeld}
use Rattle.tool_grammar.specs.Grammar.{Spells, IsBad}
use Rattle.tool_grammar.specs.Printing.{text_of, print}
use Rattle.tool_grammar.specs.declared.error.RunError.{RunError}
use Rattle.tool_grammar.specs.declared.error.RunError.TheVariants.{Memory, BadLine, Device}
use Rattle.tool_stream.specs.Lines.{lines_of}
use Rattle.tool_stream.specs.Answering.{Answering, Dialogue, lines_in, texts_in, AreAnswered, Leaves, capped}
use Rattle.tool_stream.specs.Answering as stream
use Rattle.tool_stream.specs.declared.machine.Unanswered.{Unanswered}
use Rattle.tool_stream.specs.declared.machine.Unanswered.TheVariants as unanswered
use Rattle.tool_trees.specs.Trees.{Tree, meaning_of, IsAllowed}
use Rattle.tool_lines.specs.Handles.{Entries, entry_named, entries_by}
use Rattle.tool_lines.specs.Running.{AreHeld, addresses_in, AreSpelled, AreMade, IsRun, IsAnswered, AnswersLine, PrintsAnswers}
use Rattle.tool_lines.specs.Requests.{Begins}
use Rattle.tool_lines.proofs.LogLemmas.{handles_of, named_held, handles-push, print-push, spelled_push, spelled_length, Made, made_none, made_more, are_made, handles_held}

-- These lines spell calls, which were made, and the text is their answers'.
pub record Told (s t : Meaning) (handles : Entries) (lines : List (List ℕ)) (text : List ℕ) : Type 0 where
  pub log : Log
  pub spelled : AreSpelled lines log
  pub made : Made s t log
  pub noted : handles ≡ handles_of log
  pub printed : text ≡ print log

-- one more line
told_more : (s t u : Meaning) (handles after : Entries) (lines : List (List ℕ)) (text line said : List ℕ) → Told s t handles lines text → AnswersLine t u handles after line said → Told s u after (lines ++ line ∷ []) (text ++ said)
told_more s t u handles after lines text line said so (c, a, ans, is) =
    let held = subst (λ hs. AreHeld hs t.contents) (sym so.noted) (handles_held s t so.log so.made) in
    let answers = subst (λ hs. Answers t u (entry_named c hs) c a) so.noted (ans.answers held) in
    record {
      log = so.log ++ (c, a) ∷ [];
      spelled = spelled_push lines so.log line c a so.spelled ans.spells;
      made = made_more s t u so.log c a so.made ans.keeps answers;
      noted = ans.noted ∙ ap (λ hs. hs ++ entries_by c (addresses_in a)) so.noted ∙ sym (handles-push so.log c a);
      printed = ap (λ k. k ++ said) so.printed ∙ ap (λ k. print so.log ++ k) is ∙ ap (λ hs. print so.log ++ text_of (length hs) c a) so.noted ∙ sym (print-push so.log c a);
    }

module _ {On Notes : Type 0} (mean : On → Meaning) (seen : Notes → Entries) where
  -- what the machine says of a line
  abbrev pub Says : Answering (On × Notes)
  Says = λ p line text q. AnswersLine (mean p.0) (mean q.0) (seen p.1) (seen q.1) line text

  -- a line's call was made; its text was said, or lost
  spoken : (p q : On × Notes) (line before after : List ℕ) (c : Call) (a : Answer) (r : Result (Unit {0}) Unanswered) → IsAnswered (mean p.0) (mean q.0) (seen p.1) (seen q.1) line c a
      → MatchResult r (λ u. after ≡ before ++ text_of (length (seen p.1)) c a) (λ e. e ≡ unanswered.Lost) → stream.Replies Says (λ on. IsBad) p q line before after r
  spoken p q line before after c a (Ok u) ans said = (text_of (length (seen p.1)) c a, said, (c, a, ans, refl))
  spoken p q line before after c a (Err e) ans lost =
      subst (λ (x : Unanswered). stream.IsUnanswered Says (λ on. IsBad) p line x q) (sym lost) (text_of (length (seen p.1)) c a, (c, a, ans, refl))

  -- the same, of a call that was made with the handle that it names
  pub replied : (p q : On × Notes) (line before after : List ℕ) (c : Call) (a : Answer) (r : Result (Unit {0}) Unanswered) (h : Option Handle) → Spells line c → KeepsTargets (mean p.0) (mean q.0) → h ≡ entry_named c (seen p.1)
      → (IsHeld h (mean p.0).contents → Answers (mean p.0) (mean q.0) h c a) → seen q.1 ≡ seen p.1 ++ entries_by c (addresses_in a)
      → MatchResult r (λ u. after ≡ before ++ text_of (length (seen p.1)) c a) (λ e. e ≡ unanswered.Lost) → stream.Replies Says (λ on. IsBad) p q line before after r
  replied p q line before after c a r h spells keeps named answers noted said =
      let held : AreHeld (seen p.1) (mean p.0).contents → IsHeld h (mean p.0).contents = λ all. subst (λ e. IsHeld e (mean p.0).contents) (sym named) (named_held c (seen p.1) (mean p.0).contents all) in
      let does : AreHeld (seen p.1) (mean p.0).contents → Answers (mean p.0) (mean q.0) (entry_named c (seen p.1)) c a = λ all. subst (λ e. Answers (mean p.0) (mean q.0) e c a) named (answers (held all)) in
      spoken p q line before after c a r (record { spells = spells; keeps = keeps; answers = does; noted = noted }) said

  -- lines that were answered one after another
  told_all : (s : Meaning) (p q : On × Notes) (es : Dialogue) (lines now : List (List ℕ)) (text whole : List ℕ) → Told s (mean p.0) (seen p.1) lines text → AreAnswered Says p es q
      → now ≡ lines ++ lines_in es → whole ≡ text ++ texts_in es → Told s (mean q.0) (seen q.1) now whole
  told_all s p q [] lines now text whole so same e f =
      let here = subst (λ r. Told s (mean r.0) (seen r.1) lines text) same so in
      let of_lines = subst (λ ls. Told s (mean q.0) (seen q.1) ls text) (sym (e ∙ append-nil lines)) here in
      subst (λ w. Told s (mean q.0) (seen q.1) now w) (sym (f ∙ append-nil text)) of_lines
  told_all s p q (d ∷ es) lines now text whole so (r, one, rest) e f =
      told_all s r q es (lines ++ d.0 ∷ []) now (text ++ d.1) whole
      (told_more s (mean p.0) (mean r.0) (seen p.1) (seen r.1) lines text d.0 d.1 so one) rest
      (e ∙ sym (append_assoc lines (d.0 ∷ []) (lines_in es)))
      (f ∙ sym (append_assoc text d.1 (texts_in es)))

  module _ (p : On × Notes) (none : seen p.1 ≡ []) where
    begin : Told (mean p.0) (mean p.0) (seen p.1) [] []
    begin = record { log = []; spelled = tt; made = made_none (mean p.0); noted = none; printed = refl }

    told : (es : Dialogue) (q : On) (h : Leaves Says p es q) → Told (mean p.0) (mean q) (seen h.0) (lines_in es) (texts_in es)
    told es q (notes, h) = told_all (mean p.0) p (q, notes) es [] (lines_in es) [] (texts_in es) begin h refl refl

    short : {at_end : Type 0} (q : On) (read text : List ℕ) → stream.IsCutShort Says at_end p q read text → (ls : List (List ℕ)) × (log : Log) × (more : List ℕ)
        × stream.AreFirst at_end read ls × AreSpelled ls log × AreMade (mean p.0) (mean q) log × (print log ≡ text ++ more)
    short q read text (es, more, first, h, is) =
        let so = told es q h in
        (lines_in es, so.log, more, first, so.spelled, are_made _ _ so.log so.made, sym so.printed ∙ is)

    -- the loop's run over the machine is a run over calls
    pub of_run : (at_end : Type 0) (first : ℕ) (q : On) (read text : List ℕ) (r : Result ℕ RunError) → stream.IsRun Says (λ on. IsBad) at_end first p q read text r → IsRun at_end first (mean p.0) (mean q) read text r
    of_run at_end first q read text (Ok n) (es, end, lines, h, is, count) =
        let so = told es q h in
        let long : length es ≡ length so.log = sym (length-map es (λ e. e.0)) ∙ spelled_length (lines_in es) so.log so.spelled in
        (so.log, end, subst (λ k. AreSpelled k so.log) (sym lines) so.spelled, are_made _ _ so.log so.made, is ∙ so.printed, count ∙ ap capped long)
    of_run at_end first q read text (Err (BadLine k)) (es, bad, at, lines, is_bad, h, is, count) =
        let so = told es q h in
        (lines_in es, bad, so.log, at, lines, is_bad, so.spelled, are_made _ _ so.log so.made, is ∙ so.printed, count ∙ ap (λ n. capped (first + n)) (sym (length-map es (λ e. e.0))))
    of_run at_end first q read text (Err (Memory (Some k))) (es, at, h, is, count) =
        let so = told es q h in
        (lines_in es, so.log, at, so.spelled, are_made _ _ so.log so.made, is ∙ so.printed, count ∙ ap (λ n. capped (first + n)) (sym (length-map es (λ e. e.0))))
    of_run at_end first q read text (Err (Memory None)) h = short q read text h
    of_run at_end first q read text (Err Device) h = short q read text h

-- ---- what a run ensures

abbrev pub Finished : Option (List ℕ) → Option (List ℕ) → Option (List ℕ) → Option (List ℕ) → ℕ → Meaning → Meaning → Result ℕ RunError → Type 0
Finished a b x y first s t r = (read : List ℕ) × (text : List ℕ) × Consumes a b read × Appends x y text × IsRun (OnSome a (IsAtEnd b)) first s t read text r

pub finished : {On Notes : Type 0} (mean : On → Meaning) (seen : Notes → Entries) (a b x y : Option (List ℕ)) (first : ℕ) (p : On × Notes) (q : On) (r : Result ℕ RunError) → seen p.1 ≡ []
    → (read : List ℕ) × (text : List ℕ) × Consumes a b read × Appends x y text × stream.IsRun (Says mean seen) (λ on. IsBad) (OnSome a (IsAtEnd b)) first p q read text r → Finished a b x y first (mean p.0) (mean q) r
finished mean seen a b x y first p q r none (read, text, took, wrote, run) = (read, text, took, wrote, of_run mean seen p none (OnSome a (IsAtEnd b)) first q read text r run)

-- if the bytes are known, an `Ok` says it directly
known_ok : (a b x y : Option (List ℕ)) (s t : Meaning) (first n : ℕ) → Finished a b x y first s t (Ok n)
    → IfSome a (λ xs. IfSome x (λ held. (log : Log) × AreSpelled (lines_of xs) log × AreMade s t log × (y ≡ Some (held ++ print log))))
known_ok None b x y s t first n h = tt
known_ok (Some xs) b None y s t first n h = tt
known_ok (Some xs) None (Some held) y s t first n (read, text, r, w, rest) = absurd r
known_ok (Some xs) (Some left) (Some held) None s t first n (read, text, r, w, rest) = absurd w
known_ok (Some xs) (Some left) (Some held) (Some now) s t first n (read, text, r, w, (log, e, spelled, made, is, count)) =
    let all : xs ≡ read = r ∙ ap (λ k. read ++ k) e ∙ append-nil read in
    (log, subst (λ k. AreSpelled (lines_of k) log) (sym all) spelled, made, ap Some (w ∙ ap (λ k. held ++ k) is))

pub known : (a b x y : Option (List ℕ)) (s t : Meaning) (first : ℕ) (r : Result ℕ RunError) → Finished a b x y first s t r
    → OnOk r (IfSome a (λ xs. IfSome x (λ held. (log : Log) × AreSpelled (lines_of xs) log × AreMade s t log × (y ≡ Some (held ++ print log)))))
known a b x y s t first (Ok n) h = known_ok a b x y s t first n h
known a b x y s t first (Err e) h = tt

-- a text of answers to calls on the tree was written, or a beginning of one
pub prints_more : (a b x y : Option (List ℕ)) (s t : Meaning) (first : ℕ) (r : Result ℕ RunError) (tree : Tree) → IsAllowed tree → s ≡ meaning_of tree → AreNew s.contents → Finished a b x y first s t r
    → Begins PrintsAnswers (Appends x y) r
prints_more a b x y s t first r tree allowed means new = of r
  where
    printed : (log : Log) (text : List ℕ) → AreMade s t log → text ≡ print log → PrintsAnswers text
    printed log text made is = record { tree = tree; allowed = allowed; old = s; new = t; log = log; means = means; are_new = new; are_made = made; text_is = is }

    of : (q : Result ℕ RunError) → Finished a b x y first s t q → Begins PrintsAnswers (Appends x y) q
    of (Ok n) (read, text, took, w, (log, e, spelled, made, is, count)) = (text, [], w, printed log (text ++ []) made (append-nil text ∙ is), refl)
    of (Err (BadLine k)) (read, text, took, w, (ls, bad, log, at, lines, is_bad, spelled, made, is, count)) = (text, [], w, printed log (text ++ []) made (append-nil text ∙ is), tt)
    of (Err (Memory (Some k))) (read, text, took, w, (ls, log, at, spelled, made, is, count)) = (text, [], w, printed log (text ++ []) made (append-nil text ∙ is), tt)
    of (Err (Memory None)) (read, text, took, w, (ls, log, more, at, spelled, made, is)) = (text, more, w, printed log (text ++ more) made (sym is), tt)
    of (Err Device) (read, text, took, w, (ls, log, more, at, spelled, made, is)) = (text, more, w, printed log (text ++ more) made (sym is), tt)
