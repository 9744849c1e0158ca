use Rattle.std.proofs.Common.{◌∙◌, inl, inr, List, map, ap, arith}
use Rattle.std.proofs.lemmas.List.{take_all, length-map}
use Rattle.std.proofs.lemmas.Result.{err_from_is_err_and}
use Rattle.metrics_exporter.specs.Readings.{KeyedReading}
use Rattle.metrics_collector.specs.Gathering.{keyed_gathered}
use Rattle.metrics_collector.specs.Merging.{with_all}
use Rattle.metrics_collector.proofs.MergingLemmas.{next-all, keyed-here, row-refused, row-joined, joined-more, none-refused}
use Rattle.metrics_collector.proofs.merging.together.Goals as goal

pub loop-other-preserved : goal.loop-other-preserved
loop-other-preserved c =
    let others = c.args.others.now in
    let i = c.loop-other.other-index in
    let x = c.other-item.result in
    let small = c.loop-other-test.true in
    let rows : List KeyedReading = map keyed_gathered c.args.rows.now in
    let all : List KeyedReading = map keyed_gathered others in
    let now : List KeyedReading = map keyed_gathered c.loop-other.all.items in
    let was = c.loop-other.invariant in
    record {
      rows = next-all others i x small c.other-item.is rows now _ was.rows c.in_ok-put.ensures.ok;
      joined = joined-more rows all i (keyed_gathered x) was.joined (keyed-here others i x small c.other-item.is)
          (λ error. row-joined error rows all now i (keyed_gathered x) was.rows (c.in_ok-put.ensures.joins error));
    }

pub returns-clause-ok : goal.returns-clause-ok
returns-clause-ok c =
    let all : List KeyedReading = map keyed_gathered c.args.others.now in
    let i = c.loop-other.other-index in
    c.loop-other.invariant.rows
    ∙ ap (λ (ts : List KeyedReading). with_all ts (map keyed_gathered c.args.rows.now)) (take_all i all (omega (arith, length-map c.args.others.now keyed_gathered, c.loop-other-test.false)))

pub returns-clause-joins : goal.returns-clause-joins
returns-clause-joins c =
    let all : List KeyedReading = map keyed_gathered c.args.others.now in
    none-refused (map keyed_gathered c.args.rows.now) all c.loop-other.other-index
    (omega (arith, length-map c.args.others.now keyed_gathered, c.loop-other-test.false)) c.loop-other.invariant.joined

pub returns-in_err-put-clause-err : goal.returns-in_err-put-clause-err
returns-in_err-put-clause-err c =
    let others = c.args.others.now in
    let i = c.loop-other.other-index in
    let x = c.other-item.result in
    let small = c.loop-other-test.true in
    let rows : List KeyedReading = map keyed_gathered c.args.rows.now in
    let all : List KeyedReading = map keyed_gathered others in
    let now : List KeyedReading = map keyed_gathered c.loop-other.all.items in
    let e = c.in_err-put.field-0.0 in
    let p = err_from_is_err_and c.from_residual-in_err-put.result c.from_residual-in_err-put.ensures.1 in
    rw (p.1, p.2) (elim c.in_err-put.ensures.err [
      | inl m ↦ inl m
      | inr h ↦ inr (i, keyed_gathered x, keyed-here others i x small c.other-item.is, row-refused e rows all now i (keyed_gathered x) c.loop-other.invariant.rows h)
    ])
