use Rattle.std.proofs.Common.{rules, List, ◌<◌, ◌++◌, [], length, reverse, sym, subst, append-nil, arith}
use Rattle.std.specs.List.{AllZip}
use Rattle.metrics.specs.Book.{joined_lists}
use Rattle.metrics_storage.proofs.Walks.{cloned_more, none_left, shorter}
use Rattle.metrics_storage.proofs.bucket.copied.Goals as goal

pub loop-newest-preserved : goal.loop-newest-preserved
loop-newest-preserved g c =
    let R = g.T.Clone.is_clone in let e = (c.in_ok-extend_with_clones.ensures {u = tt}).items in
    let cut = c.in-Some.ensures.cases.0 in
    let all = AllZip R (joined_lists (reverse c.args.blocks.now)) in (
      λ ys h. subst (λ (l : List _). all (l ++ ys)) (sym e.1)
          (cloned_more R _ _ c.in-Some.newest.now c.loop-newest.values.items e.0 ys all cut (subst (λ l. AllZip R l e.0) c.data.ensures.value e.2) c.loop-newest.invariant.0 h),
      omega (arith, c.loop-newest.invariant.1, shorter _ _ _ cut),
    )

pub returns-in_err-extend_with_clones : goal.returns-in_err-extend_with_clones
returns-in_err-extend_with_clones g c =
    let some : 0 < length c.args.blocks.now = omega (arith, c.loop-newest.invariant.1, shorter _ _ _ c.in-Some.ensures.cases.0) in
    search rules

pub returns-clause-clones : goal.returns-clause-clones
returns-clause-clones g c =
    let R = g.T.Clone.is_clone in let all = AllZip R (joined_lists (reverse c.args.blocks.now)) in
    subst all (append-nil c.loop-newest.values.items) (c.loop-newest.invariant.0 [] (none_left R c.loop-newest.rest.now c.in_default.ensures.cases))
