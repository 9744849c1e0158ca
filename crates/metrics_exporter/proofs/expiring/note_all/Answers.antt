use Rattle.std.proofs.Common.{rules, ◌≡◌, ◌<◌, ◌∙◌, ℕ, Bool, true, cond, [], ◌∷◌, length, get_or, take, arith, ap, sym}
use Rattle.metrics_names.specs.Names.{KeyParts, key_eq}
use Rattle.metrics_registry.specs.Recency.{Check, Table, table_answer, table_after}
use Rattle.metrics_registry.specs.RecencyEntries.{check_of, rules_of, table_of}
use Rattle.metrics_exporter.specs.declared.series.SeriesRef.{SeriesRef}
use Rattle.metrics_exporter.specs.Gathering.{seen_by, all_seen, all_shown}
use Rattle.metrics_exporter.specs.Stepping.{Change, noted_if_kept, notes_without, table_with, table_with_all}
use Rattle.metrics_exporter.proofs.NotingLemmas.{with-append, noted-here, undone, all-seen-more}
use Rattle.metrics_exporter.proofs.expiring.note_all.Goals as goal

pub returns-in-Err-clause-err : goal.returns-in-Err-clause-err
returns-in-Err-clause-err c =
    let front = take c.loop-i.i c.args.unnoted.now in
    let same : table_of key_eq c.note.new.self ≡ table_of key_eq c.loop-i.recency = λ j kind key. c.in-Err.ensures.err.1 kind key j in (
      c.in-Err.ensures.err.0,
      c.forget.ensures.notes ∙ ap (notes_without (all_shown front)) (same ∙ c.loop-i.invariant.notes)
          ∙ undone (noted_if_kept (rules_of c.args.recency.now)) c.args.now c.args.unnoted.now c.loop-i.i (table_of key_eq c.args.recency.now) c.requires,
    )

pub loop-i-preserved : goal.loop-i-preserved
loop-i-preserved c =
    let was = c.loop-i.invariant in
    let a = c.args.recency.now in
    let q = rules_of c.loop-i.recency in
    let t = table_of key_eq c.loop-i.recency in
    let row : SeriesRef = c.index-unnoted-i.result in
    let rows = c.args.unnoted.now in
    let i = c.loop-i.i in
    let check : ℕ → Check KeyParts = λ n. check_of row.kind row.key.now n c.args.now true in
    let with : Bool → ℕ → Table KeyParts = λ b n kind key. cond b (table_after key_eq q (check n) t kind key) (t kind key) in
    let said : table_of key_eq c.note.new.self ≡ with c.in_default.field-0 c.generation.result = λ j kind key. c.in_default.ensures.ok kind key j in
    let made : table_of key_eq c.note.new.self ≡ with (table_answer q (check (seen_by row).1.generation) t) (seen_by row).1.generation =
    said ∙ ap (λ b. with b c.generation.result) c.in_default.ensures.answer ∙ ap (λ n. with (table_answer q (check n) t) n) c.generation.ensures in
    let small : i < length rows = search (rules, arith) in
    let at : row ≡ get_or rows i row = search rules in
    let f : Change = noted_if_kept (rules_of a) in
    record {
      rules = c.in_default.ensures.rules ∙ was.rules;
      notes = noted-here q c.args.now (seen_by row) t (table_of key_eq c.note.new.self) (λ kind key. ap (λ (u : Table KeyParts). u kind key) made)
          ∙ ap (λ p. table_with (noted_if_kept p) c.args.now (seen_by row) t) was.rules ∙ ap (table_with f c.args.now (seen_by row)) was.notes
          ∙ sym (ap (λ l. table_with_all f c.args.now l (table_of key_eq a)) (all-seen-more rows i row small at) ∙ with-append f c.args.now (all_seen (take i rows)) (seen_by row ∷ []) (table_of key_eq a));
    }
