use Rattle.std.proofs.Common.{ℕ, ◌+◌, ◌<◌, List, Bool, length, drop, Result, sym, subst, arith}
use Rattle.metrics.specs.declared.error.Error.{Error}
use Rattle.metrics.specs.Book.{RowParts}
use Rattle.metrics_exporter.specs.declared.absorb.PartlyAbsorbed.{PartlyAbsorbed}
use Rattle.metrics_descriptions.specs.Legends.{SameLegend}
use Rattle.metrics_exporter.specs.Describing.{legend_by_rows}
use Rattle.metrics_exporter.specs.Kept.{IsAfter, described}
use Rattle.metrics_exporter.specs.Absorbing.{MarkedRow, marked, remaining_row, with_row, with_rows, Absorbs, AbsorbsRow}
use Rattle.metrics_exporter.proofs.AbsorbLemmas.{nothing-remaining, remaining-absorbed, stopped-first, stopped-remaining, length-marked, keyed-remaining}
use Rattle.metrics_exporter.proofs.absorb.absorb_remaining.Goals as goal

pub returns-then-first-rows-clause-absorbs : goal.returns-then-first-rows-clause-absorbs
returns-then-first-rows-clause-absorbs c = λ setup log after.
    let all = marked c.args.rows.now c.args.activity.now in
    let P : List MarkedRow → Type 0 = λ l. IsAfter setup (with_rows log l) c.args.on.now in
    subst P (sym (nothing-remaining c.args.part all (omega (arith, c.if-first-rows.true, length-marked c.args.rows.now c.args.activity.now)))) after

pub returns-in-Err-clause-absorbs : goal.returns-in-Err-clause-absorbs
returns-in-Err-clause-absorbs c = λ setup log after.
    let rows = c.args.rows.now in
    let part = c.args.part in
    let row = c.index-rows-first.result in
    let active = c.is_active-active.result in
    let small : part.rows < length rows = omega (arith, c.if-first-rows.false) in
    let R : Result (Unit {0}) (Error × ℕ) → Type 0 = λ q. AbsorbsRow setup log (remaining_row part.samples (record { row = row; active = active })) q c.absorb_row.new.on in
    stopped-first rows c.args.activity.now part row active small c.index-rows-first.is c.is_active-active.ensures setup log c.in-Err.error c.in-Err.samples c.absorb_row.new.on
    (subst R c.in-Err.is (c.absorb_row.ensures.makes setup log after))

pub returns-in-Ok-clause-absorbs : goal.returns-in-Ok-clause-absorbs
returns-in-Ok-clause-absorbs c = λ setup log after.
    let rows = c.args.rows.now in
    let marks = c.args.activity.now in
    let part = c.args.part in
    let row = c.index-rows-first.result in
    let active = c.is_active-active.result in
    let small : part.rows < length rows = omega (arith, c.if-first-rows.false) in
    let next : MarkedRow = remaining_row part.samples (record { row = row; active = active }) in
    let R : Result (Unit {0}) (Error × ℕ) → Type 0 = λ q. AbsorbsRow setup log next q c.absorb_row.new.on in
    let first : IsAfter setup (with_row log next) c.absorb_row.new.on = subst R c.in_default.is (c.absorb_row.ensures.makes setup log after) in
    let one : List RowParts → Type 0 = λ l. Absorbs setup (with_row log next) (marked l c.rest_of-2.result.now) c.absorb_rows.result c.absorb_rows.new.on in
    let two : List Bool → Type 0 = λ l. Absorbs setup (with_row log next) (marked (drop (part.rows + 1) rows) l) c.absorb_rows.result c.absorb_rows.new.on in
    let done : Result (Unit {0}) PartlyAbsorbed → Type 0 = λ q. Absorbs setup (with_row log next) (marked (drop (part.rows + 1) rows) (drop (part.rows + 1) marks)) q c.absorb_rows.new.on in
    remaining-absorbed rows marks part row active small c.index-rows-first.is c.is_active-active.ensures setup log c.absorb_rows.new.on
    (subst done c.in-Ok.is (subst two c.rest_of-2.ensures (subst one c.rest_of.ensures (c.absorb_rows.ensures.absorbs setup (with_row log next) first))))

pub returns-in-Err-absorb_rows-clause-absorbs : goal.returns-in-Err-absorb_rows-clause-absorbs
returns-in-Err-absorb_rows-clause-absorbs c = λ setup log after.
    let rows = c.args.rows.now in
    let marks = c.args.activity.now in
    let part = c.args.part in
    let row = c.index-rows-first.result in
    let active = c.is_active-active.result in
    let small : part.rows < length rows = omega (arith, c.if-first-rows.false) in
    let next : MarkedRow = remaining_row part.samples (record { row = row; active = active }) in
    let R : Result (Unit {0}) (Error × ℕ) → Type 0 = λ q. AbsorbsRow setup log next q c.absorb_row.new.on in
    let first : IsAfter setup (with_row log next) c.absorb_row.new.on = subst R c.in_default.is (c.absorb_row.ensures.makes setup log after) in
    let one : List RowParts → Type 0 = λ l. Absorbs setup (with_row log next) (marked l c.rest_of-2.result.now) c.absorb_rows.result c.absorb_rows.new.on in
    let two : List Bool → Type 0 = λ l. Absorbs setup (with_row log next) (marked (drop (part.rows + 1) rows) l) c.absorb_rows.result c.absorb_rows.new.on in
    let done : Result (Unit {0}) PartlyAbsorbed → Type 0 = λ q. Absorbs setup (with_row log next) (marked (drop (part.rows + 1) rows) (drop (part.rows + 1) marks)) q c.absorb_rows.new.on in
    stopped-remaining rows marks part row active small c.index-rows-first.is c.is_active-active.ensures setup log c.in-Err-absorb_rows.stop c.absorb_rows.new.on
    (subst done c.in-Err-absorb_rows.is (subst two c.rest_of-2.ensures (subst one c.rest_of.ensures (c.absorb_rows.ensures.absorbs setup (with_row log next) first))))

pub returns-in-Ok-clause-tells : goal.returns-in-Ok-clause-tells
returns-in-Ok-clause-tells c =
    let rows = c.args.rows.now in
    let small : c.args.part.rows < length rows = omega (arith, c.if-first-rows.false) in
    let one : List RowParts → Type 0 = λ l. SameLegend (described c.absorb_rows.new.on) (legend_by_rows l (described c.absorb_row.new.on)) in
    keyed-remaining rows c.args.part.rows c.index-rows-first.result (described c.args.on.now) (described c.absorb_row.new.on) (described c.absorb_rows.new.on) small c.index-rows-first.is
    c.in_default.ensures.tells (subst one c.rest_of.ensures c.in-Ok.ensures.tells)
