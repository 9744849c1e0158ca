use Rattle.std.proofs.Common.{sym, ◌∙◌}
use Rattle.std.proofs.lemmas.Bool.{eqb-false}
use Rattle.tool_trees.proofs.Lines.{no_words, next_of, words_more}
use Rattle.tool_trees.proofs.words.words_of.Goals as goal

pub returns-in_default : goal.returns-in_default
returns-in_default g c = λ xs h e.
    let (k, ks, i) = c.loop-rest.invariant.left xs h e in
    no_words g.T.Word.spelled _ k i (eqb-false _ _ (sym c.is_empty.ensures ∙ c.loop-rest-test.true)) c.in_default.ensures

pub returns-in-None : goal.returns-in-None
returns-in-None g c = λ xs h e.
    let (k, ks, i) = c.loop-rest.invariant.left xs h e in
    let (x, ys, is, are, here_is, after_is) =
    next_of g.T.Word.is g.T.Word.spelled c.requires _ _ _ _ c.in-Some.ensures c.split_before.ensures.whole c.split_before.ensures.before c.split_before.ensures.others k ks i in
    let none = rw c.in-None.is at c.in_ok-one.ensures in
    none x is here_is

pub loop-rest-preserved : goal.loop-rest-preserved
loop-rest-preserved g c =
    let found = rw c.in-Some-2.is at c.in_ok-one.ensures in
    rw c.in_ok-push-in-Some-2.ensures.items (words_more g.T.Word.is g.T.Word.spelled c.requires _ _ _ _ c.in-Some.ensures c.split_before.ensures.whole c.split_before.ensures.before c.split_before.ensures.others
    _ _ _ c.loop-rest.invariant found.0 found.1)
