-- What a dialogue over lines is, as exchanges with an exporter.
use Rattle.std.proofs.Common.{◌≡◌, ℕ, ◌+◌, List, [], ◌∷◌, ◌++◌, inl, inr, refl, sym, ◌∙◌, ap, subst}
use Rattle.std.proofs.Common.{length, suc, Result, Ok, Err, Some, None, append_assoc, append-nil}
use Rattle.tool_grammar.specs.declared.error.RunError.{RunError}
use Rattle.tool_grammar.specs.declared.error.RunError.TheVariants.{Memory, BadLine, Device}
use Rattle.tool_stream.specs.Lines.{lines_of}
use Rattle.tool_stream.specs.Answering.{Dialogue, lines_in, texts_in as dialogue_text, AreAnswered as FollowEachOther}
use Rattle.tool_stream.specs.Answering.{IsFlushed, capped}
use Rattle.metrics_exporter.specs.declared.exporter.Exporter.{Exporter}
use Rattle.metrics_exporter.specs.Exporting.{Setup, Log}
use Rattle.metrics_exporter.specs.Kept.{IsAfter}
use Rattle.tool_export.specs.Exported.{Exchange, requests_in, texts_in, AreAnswered, IsAnswer, AreLines, IsStop}
use Rattle.tool_export.specs.Exporting.{answers as told, log_of, IsSession, IsExportRun, Exports}
use Rattle.tool_export.proofs.PlainLemmas.{all_plain}

-- the exchanges that a dialogue is, on an exporter after these calls
pub record Exchanges (setup : Setup) (log : Log) (es : Dialogue) (new : Exporter) : Type 0 where
  pub list : List Exchange
  pub spelled : AreLines (lines_in es) (requests_in list)
  pub answers : AreAnswered IsAnswer setup log list
  pub stands : IsAfter setup (log ++ log_of list) new
  pub texts : dialogue_text es ≡ texts_in list

pub exchanges : (setup : Setup) (log : Log) (p q : Exporter × Unit {0}) (es : Dialogue) → IsAfter setup log p.0
    → FollowEachOther told p es q → Exchanges setup log es q.0
exchanges setup log p q [] after h = record {
  list = [];
  spelled = (tt, refl);
  answers = tt;
  stands = subst (λ l. IsAfter setup l q.0) (sym (append-nil log)) (subst (IsAfter setup log) (ap (λ x. x.0) h) after);
  texts = refl;
}
exchanges setup log p q (e ∷ es) after (j, (request, spells, answers), h) =
    let (event, now, is) = answers setup log after in
    let rest = exchanges setup (log ++ event ∷ []) j q es now h in
    record {
      list = record { request = request; event = event; text = e.1 } ∷ rest.list;
      spelled = ((spells.0, rest.spelled.0), λ i. spells.1 i ∷ rest.spelled.1 i);
      answers = (is, rest.answers);
      stands = subst (λ l. IsAfter setup l q.0) (append_assoc log (event ∷ []) (log_of rest.list)) rest.stands;
      texts = ap (λ t. e.1 ++ t) rest.texts;
    }

-- a dialogue is a session over its lines, and over these and what stops them
session : (setup : Setup) (old new : Exporter) (notes : Unit {0}) (es : Dialogue) (ls rest all : List (List ℕ))
    (text : List ℕ) → IsAfter setup [] old → FollowEachOther told (old, tt) es (new, notes)
    → ls ≡ lines_in es → all ≡ ls ++ rest → IsStop rest → text ≡ dialogue_text es
    → IsSession setup new ls all text
session setup old new notes es ls rest all text after h lines whole stop prints =
    let x = exchanges setup [] (old, tt) (new, notes) es after h in
    let spelled : AreLines ls (requests_in x.list) = (x.spelled.0, lines ∙ x.spelled.1) in
    record {
      exchanges = x.list;
      spelled = spelled;
      answers = x.answers;
      stands = x.stands;
      prints = prints ∙ x.texts;
      exact = λ w. record {
        exchanges = x.list;
        front = ls;
        rest = rest;
        whole = whole;
        spelled = spelled;
        stops = stop;
        plain = all_plain setup [] x.list x.answers w;
        prints = prints ∙ x.texts;
      };
    }

-- so many lines as exchanges
lines_number : (es : Dialogue) → length es ≡ length (lines_in es)
lines_number [] = refl
lines_number (e ∷ es) = ap suc (lines_number es)

pub exports : (setup : Setup) (at_end : Type 0) (first : ℕ) (old new : Exporter) (read text : List ℕ)
    (r : Result ℕ RunError) → IsAfter setup [] old → IsExportRun at_end first old new read text r
    → Exports setup at_end first new read text r
exports setup at_end first old new read text (Ok n) after (es, ended, lines, (notes, h), is, count) = (
  ended,
  session setup old new notes es (lines_of read) [] (lines_of read) text after h lines (sym (append-nil (lines_of read))) tt is,
  count ∙ ap capped (lines_number es ∙ ap length (sym lines)),
)
exports setup at_end first old new read text (Err (BadLine k)) after (es, bad, found, lines, is_bad, (notes, h), is, number) = (
  lines_in es,
  bad,
  found,
  lines,
  is_bad,
  session setup old new notes es (lines_in es) (bad ∷ []) (lines_of read) text after h refl lines is_bad is,
  number ∙ ap (λ n. capped (first + n)) (lines_number es),
)
exports setup at_end first old new read text (Err (Memory (Some k))) after (es, found, (notes, h), is, number) = (
  lines_in es,
  found,
  session setup old new notes es (lines_in es) [] (lines_in es) text after h refl (sym (append-nil (lines_in es))) tt is,
  number ∙ ap (λ n. capped (first + n)) (lines_number es),
)
exports setup at_end first old new read text (Err (Memory None)) after (es, more, found, (notes, h), is) = (
  lines_in es,
  more,
  found,
  session setup old new notes es (lines_in es) [] (lines_in es) (text ++ more) after h refl
      (sym (append-nil (lines_in es))) tt (sym is),
)
exports setup at_end first old new read text (Err Device) after (es, more, found, (notes, h), is) = (
  lines_in es,
  more,
  found,
  session setup old new notes es (lines_in es) [] (lines_in es) (text ++ more) after h refl
      (sym (append-nil (lines_in es))) tt (sym is),
)

-- out of memory is reported after a flush too
pub flushed_memory : (r : Result ℕ RunError) → IsFlushed (Err (Memory None)) r → r ≡ Err (Memory None)
flushed_memory r (inl is) = is
flushed_memory r (inr (whole, is)) = absurd whole
