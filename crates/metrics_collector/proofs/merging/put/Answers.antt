use Rattle.std.proofs.Common.{◌≡◌, ◌∙◌, ◌<◌, ◌⊎◌, inl, List, Option, length, ap, arith, sym, subst}
use Rattle.std.specs.List.{position_or_len}
use Rattle.std.proofs.lemmas.List.{get_or_read}
use Rattle.std.proofs.lemmas.Result.{on_ok_weaker, IfErr-weaker, err_from_is_err_and}
use Rattle.metrics_exporter.specs.Exporting.{Reading}
use Rattle.metrics_collector.specs.declared.gathered.GatheredSeries.{GatheredSeries}
use Rattle.metrics_collector.specs.declared.merging.AbsorbError.TheVariants.{Memory as OutOfMemory}
use Rattle.metrics_collector.specs.Gathering.{reading_of}
use Rattle.metrics_collector.specs.Merging.{are_same, IsRefused}
use Rattle.metrics_collector.proofs.MergingLemmas.{put-none, put-place, series-none, series-at, refused-none}
use Rattle.metrics_collector.proofs.merging.put.Goals as goal

pub returns-then-place-len-clause-ok : goal.returns-then-place-len-clause-ok
returns-then-place-len-clause-ok c =
    let row = c.args.row.now in
    let xs = c.args.rows.now.items in
    let place : c.place_of-place.result ≡ position_or_len (are_same row) xs =
    c.place_of-place.ensures ∙ ap (λ (l : List GatheredSeries). position_or_len (are_same row) l) c.deref.ensures.value in
    on_ok_weaker c.push_copy.result (λ e. e ∙ put-none row xs (omega (arith, place, c.len.ensures, c.args.rows.now.ok.0, c.if-place-len.true))) c.push_copy.ensures.ok

pub returns-then-place-len-clause-joins : goal.returns-then-place-len-clause-joins
returns-then-place-len-clause-joins c =
    let row = c.args.row.now in
    let xs = c.args.rows.now.items in
    let place : c.place_of-place.result ≡ position_or_len (are_same row) xs =
    c.place_of-place.ensures ∙ ap (λ (l : List GatheredSeries). position_or_len (are_same row) l) c.deref.ensures.value in
    let none = series-none row xs (omega (arith, place, c.len.ensures, c.args.rows.now.ok.0, c.if-place-len.true)) in
    on_ok_weaker c.push_copy.result (λ _ error h. refused-none error (reading_of row.value) (subst (λ (o : Option Reading). IsRefused error o (reading_of row.value)) none h)) c.push_copy.ensures.ok

pub returns-then-place-len-clause-err : goal.returns-then-place-len-clause-err
returns-then-place-len-clause-err c = IfErr-weaker c.push_copy.result _ _ (λ e h. inl h) c.push_copy.ensures.err

pub returns-clause-ok : goal.returns-clause-ok
returns-clause-ok c =
    let row = c.args.row.now in
    let xs = c.args.rows.now.items in
    let at = c.place_of-place.result in
    let place : at ≡ position_or_len (are_same row) xs =
    c.place_of-place.ensures ∙ ap (λ (l : List GatheredSeries). position_or_len (are_same row) l) c.deref.ensures.value in
    let small : at < length xs = omega (arith, c.len.ensures, c.args.rows.now.ok.0, c.if-place-len.false) in
    put-place row c.index.result.now c.index_mut.result.now c.in_ok-value.value xs at place small
    (get_or_read xs at c.index.result.now small c.index.ensures row) (get_or_read xs at c.index_mut.result.now small c.index_mut.ensures.value row)
    c.in_ok-value.ensures.kind c.in_ok-value.ensures.value

pub returns-clause-joins : goal.returns-clause-joins
returns-clause-joins c = λ error h.
    let row = c.args.row.now in
    let xs = c.args.rows.now.items in
    let at = c.place_of-place.result in
    let place : at ≡ position_or_len (are_same row) xs =
    c.place_of-place.ensures ∙ ap (λ (l : List GatheredSeries). position_or_len (are_same row) l) c.deref.ensures.value in
    let small : at < length xs = omega (arith, c.len.ensures, c.args.rows.now.ok.0, c.if-place-len.false) in
    let here = series-at row c.index.result.now xs at place small (get_or_read xs at c.index.result.now small c.index.ensures row) in
    c.in_ok-value.ensures.joins error (subst (λ (o : Option Reading). IsRefused error o (reading_of row.value)) here h)

pub returns-in_err-value-clause-err : goal.returns-in_err-value-clause-err
returns-in_err-value-clause-err c =
    let row = c.args.row.now in
    let xs = c.args.rows.now.items in
    let at = c.place_of-place.result in
    let place : at ≡ position_or_len (are_same row) xs =
    c.place_of-place.ensures ∙ ap (λ (l : List GatheredSeries). position_or_len (are_same row) l) c.deref.ensures.value in
    let small : at < length xs = omega (arith, c.len.ensures, c.args.rows.now.ok.0, c.if-place-len.false) in
    let here = series-at row c.index.result.now xs at place small (get_or_read xs at c.index.result.now small c.index.ensures row) in
    let e = c.in_err-value.field-0.0 in
    let p = err_from_is_err_and c.from_residual.result c.from_residual.ensures.1 in
    rw (p.1, p.2) (subst (λ (o : Option Reading). (e ≡ OutOfMemory) ⊎ IsRefused e o (reading_of row.value)) (sym here) c.in_err-value.ensures.err)
