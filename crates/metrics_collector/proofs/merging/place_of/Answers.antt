use Rattle.std.proofs.Common.{◌≡◌, true, subst, sym, rules, arith, length}
use Rattle.std.proofs.lemmas.List.{get_or_read}
use Rattle.std.proofs.lemmas.List.Sums.{position_or_len_is}
use Rattle.metrics_collector.specs.Merging.{are_same}
use Rattle.metrics_collector.proofs.merging.place_of.Goals as goal

pub returns-then-are_same : goal.returns-then-are_same
returns-then-are_same c =
    let row = c.args.row.now in
    let rows = c.args.rows.now in
    sym (position_or_len_is (are_same row) rows c.loop-place.place row (omega arith) (λ k small. c.loop-place.invariant k row small) (λ small.
    let at = get_or_read rows c.loop-place.place c.index-rows-place.result small c.index-rows-place.is row in
    let test : are_same row c.index-rows-place.result ≡ true = search rules in
    subst (λ m. are_same row m ≡ true) at test))

pub returns : goal.returns
returns c =
    let row = c.args.row.now in
    let rows = c.args.rows.now in
    sym (position_or_len_is (are_same row) rows (length rows) row (omega arith) (λ k small. c.loop-place.invariant k row (omega (arith, small))) (λ small. absurd (omega (arith, small))))
