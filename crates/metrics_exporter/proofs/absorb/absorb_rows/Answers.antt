use Rattle.std.proofs.Common.{List, take, ◌∙◌, refl, subst, arith}
use Rattle.std.proofs.lemmas.List.{take_all}
use Rattle.metrics_exporter.specs.Kept.{IsAfter, described}
use Rattle.metrics_exporter.specs.Absorbing.{MarkedRow, marked, with_rows}
use Rattle.metrics_exporter.proofs.AbsorbLemmas.{row-absorbed, row-stopped, length-marked, keyed-more, keyed-end}
use Rattle.metrics_exporter.proofs.absorb.absorb_rows.Goals as goal

pub returns-in-Err-clause-absorbs : goal.returns-in-Err-clause-absorbs
returns-in-Err-clause-absorbs c = λ setup log after.
    let rows = c.args.rows.now in
    let marks = c.args.activity.now in
    let i = c.loop-i.i in
    let here = c.loop-i.invariant.stands setup log after in
    row-stopped rows marks i c.index-rows-i.result c.is_active.result c.loop-i-test.true c.index-rows-i.is c.is_active.ensures
    setup log c.absorb_row.result c.in-Err.error c.in-Err.samples c.absorb_row.new.on c.in-Err.is
    (c.absorb_row.ensures.makes setup (with_rows log (take i (marked rows marks))) here)

pub loop-i-preserved : goal.loop-i-preserved
loop-i-preserved c = record {
  stands = λ setup log after.
      let rows = c.args.rows.now in
      let marks = c.args.activity.now in
      let i = c.loop-i.i in
      let here = c.loop-i.invariant.stands setup log after in
      row-absorbed rows marks i c.index-rows-i.result c.is_active.result c.loop-i-test.true c.index-rows-i.is c.is_active.ensures
      setup log c.absorb_row.result c.in_default.field-0 c.absorb_row.new.on c.in_default.is
      (c.absorb_row.ensures.makes setup (with_rows log (take i (marked rows marks))) here);
  tells = keyed-more c.args.rows.now c.args.rows.now c.loop-i.i c.index-rows-i.result (described c.args.on.now) (described c.loop-i.on) (described c.absorb_row.new.on)
      refl c.loop-i-test.true c.index-rows-i.is c.loop-i.invariant.tells c.in_default.ensures.tells;
  shards = c.absorb_row.ensures.shards ∙ c.loop-i.invariant.shards;
}

pub returns-clause-absorbs : goal.returns-clause-absorbs
returns-clause-absorbs c = λ setup log after.
    let rows = c.args.rows.now in
    let marks = c.args.activity.now in
    let i = c.loop-i.i in
    let P : List MarkedRow → Type 0 = λ l. IsAfter setup (with_rows log l) c.loop-i.on in
    subst P (take_all i (marked rows marks) (omega (arith, c.loop-i-test.false, length-marked rows marks))) (c.loop-i.invariant.stands setup log after)

pub returns-clause-tells : goal.returns-clause-tells
returns-clause-tells c =
    keyed-end c.args.rows.now c.args.rows.now c.loop-i.i (described c.args.on.now) (described c.loop-i.on) refl c.loop-i-test.false c.loop-i.invariant.tells
