use Rattle.std.proofs.Common.{◌≡◌, suc, ◌+◌, set, get_or, ap, ◌∙◌, arith}
use Rattle.metrics_storage.proofs.Counting.{get-le-total}
use Rattle.metrics_storage.proofs.Merging.{added_up_to, added-at, added-more, added-all}
use Rattle.metrics_storage.proofs.histogram.add_ranks.Goals as goal

pub overflow_add-ranks : goal.overflow_add-ranks
overflow_add-ranks c =
    let ks = c.args.ranks.now in let ls = c.args.more.now in let i = c.loop-i.i in
    let own = ap (λ l. get_or l i 0) c.loop-i.invariant ∙ added-at i ks ls in
    record { fits = omega (arith, own, get-le-total ks i (omega (arith, c.requires.same, c.loop-i-test.true)), get-le-total ls i c.loop-i-test.true, c.requires.room) }

pub loop-i-preserved : goal.loop-i-preserved
loop-i-preserved c =
    let ks = c.args.ranks.now in let ls = c.args.more.now in let i = c.loop-i.i in let next : suc i ≡ i + 1 = omega arith in
    let own = ap (λ l. get_or l i 0) c.loop-i.invariant ∙ added-at i ks ls in
    (λ j. set (c.loop-i.invariant j) i (own j + get_or ls i 0))
    ∙ added-more i ks ls (omega (arith, c.requires.same, c.loop-i-test.true)) c.requires.same
    ∙ ap (λ n. added_up_to n ks ls) next

pub returns : goal.returns
returns c =
    let ks = c.args.ranks.now in let ls = c.args.more.now in
    c.loop-i.invariant ∙ ap (λ n. added_up_to n ks ls) (omega (arith, c.loop-i-test.false, c.loop-i.auto)) ∙ added-all ks ls c.requires.same
