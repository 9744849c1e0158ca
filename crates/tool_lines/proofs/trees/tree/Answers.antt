use Rattle.std.proofs.Common.{[], subst, Err}
use Rattle.tool_trees.specs.Doing.{DoesLine}
use Rattle.metrics_debugging.specs.DebuggingMeaning as book
use Rattle.metrics_trees.specs.Trees.{tree_meaning}
use Rattle.tool_lines.proofs.TreesSoFar.{begun, trees_more, result_line, result_last, refuse_line, refuse_last, ended_early, none_left, unread_tree, given_up}
use Rattle.tool_lines.proofs.trees.tree.Goals as goal

pub loop-number-init : goal.loop-number-init
loop-number-init g c = begun _ _ c.new-stack.ensures.items

pub loop-number-preserved : goal.loop-number-preserved
loop-number-preserved g c =
    let found = rw c.in-Ok-Line.field-0-is at c.in-Ok-Line.ensures in
    let does = rw (c.in-Ok-false.field-0-test, c.deref.ensures.value) at c.in-Ok-false.ensures in
    trees_more _ _ _ _ _ c.loop-number.invariant _ _ found.0 found.1 does

pub returns-in-Ok-true : goal.returns-in-Ok-true
returns-in-Ok-true g c =
    let found = rw c.in-Ok-Line.field-0-is at c.in-Ok-Line.ensures in
    let does = rw (c.in-Ok-true.field-0-test, c.deref.ensures.value) at c.in-Ok-true.ensures in
    result_line _ _ _ _ _ c.loop-number.invariant _ (λ f. tree_meaning book.meaning_of f.0) (λ f. f.1) c.built.result _ c.built.ensures found.0 found.1 does

pub returns-in-Err-read_line : goal.returns-in-Err-read_line
returns-in-Err-read_line g c =
    let found = rw c.in-Ok-Line.field-0-is at c.in-Ok-Line.ensures in
    let does = subst (λ l. DoesLine l c.loop-number.stack.items c.read_line.new.stack.items (Err c.in-Err-read_line.error)) c.deref.ensures.value c.in-Err-read_line.ensures in
    rw c.at_tree_line.ensures (refuse_line _ _ _ _ _ c.loop-number.invariant _ found.0 found.1 c.read_line.new.stack.items c.in-Err-read_line.error does)

pub returns-in-Ok-true-read_line : goal.returns-in-Ok-true-read_line
returns-in-Ok-true-read_line g c =
    let found = rw c.in-Ok-Last.field-0-is at c.in-Ok-Last.ensures in
    let does = rw (c.in-Ok-true-read_line.field-0-test, c.deref-in-Ok-Last.ensures.value) at c.in-Ok-true-read_line.ensures in
    result_last _ _ _ _ _ c.loop-number.invariant _ (λ f. tree_meaning book.meaning_of f.0) (λ f. f.1) c.built-in-Ok-true-read_line.result _ c.built-in-Ok-true-read_line.ensures found.0 found.1 found.2 found.3 does

pub returns-in-Ok-false-read_line : goal.returns-in-Ok-false-read_line
returns-in-Ok-false-read_line g c =
    let found = rw c.in-Ok-Last.field-0-is at c.in-Ok-Last.ensures in
    let does = rw (c.in-Ok-false-read_line.field-0-test, c.deref-in-Ok-Last.ensures.value) at c.in-Ok-false-read_line.ensures in
    ended_early _ _ _ _ _ c.loop-number.invariant _ found.0 found.1 found.2 found.3 _ does

pub returns-in-Err-read_line-2 : goal.returns-in-Err-read_line-2
returns-in-Err-read_line-2 g c =
    let found = rw c.in-Ok-Last.field-0-is at c.in-Ok-Last.ensures in
    let does = subst (λ l. DoesLine l c.loop-number.stack.items c.read_line-in-Ok-Last.new.stack.items (Err c.in-Err-read_line-2.error)) c.deref-in-Ok-Last.ensures.value c.in-Err-read_line-2.ensures in
    rw c.at_tree_line-in-Err-read_line-2.ensures (refuse_last _ _ _ _ _ c.loop-number.invariant _ found.0 found.1 found.2 found.3 c.read_line-in-Ok-Last.new.stack.items c.in-Err-read_line-2.error does)

pub returns-in-Ok-End : goal.returns-in-Ok-End
returns-in-Ok-End g c =
    let found = rw c.in-Ok-End.field-0-is at c.in-Ok-End.ensures in
    none_left _ _ _ _ _ c.loop-number.invariant [] found.0 found.1

pub returns-in-Err : goal.returns-in-Err
returns-in-Err g c = rw c.at_line.ensures (unread_tree _ _ _ _ _ c.loop-number.invariant _ c.in-Err.fault c.in-Err.ensures.0 c.in-Err.ensures.1)

pub returns : goal.returns
returns g c = given_up _ _ _ _ c.loop-number.invariant
