use Rattle.std.proofs.Common.{◌≡◌, ℕ, Bool, false, eqb, ◌<◌, arith}
use Rattle.tool_grammar.proofs.WordsLemmas.{no_label, next_label, labels_more}
use Rattle.tool_grammar.proofs.calls.labels_of.Goals as goal

positive : (n : ℕ) (b : Bool) → b ≡ eqb n 0 → b ≡ false → 0 < n
positive n b e f = grind arith

pub returns-in_default : goal.returns-in_default
returns-in_default c = λ ls h e.
    let (k, ks, i) = c.loop-rest.invariant.left ls h e in
    no_label _ k i (positive _ _ c.is_empty.ensures c.loop-rest-test.true) c.in_default.ensures

pub returns-in-None : goal.returns-in-None
returns-in-None c = λ ls h e.
    let (k, ks, i) = c.loop-rest.invariant.left ls h e in
    let n = next_label _ _ c.split_before.result.0.now c.split_before.result.1.now k ks i c.in-Some.ensures c.split_before.ensures.whole c.split_before.ensures.before c.split_before.ensures.others in
    let none = rw c.in-None.is at c.in_ok-label.ensures in
    none n.label n.is_label n.word_is

pub loop-rest-preserved : goal.loop-rest-preserved
loop-rest-preserved c =
    let found = rw c.in-Some-2.is at c.in_ok-label.ensures in
    rw c.in_ok-push-in-Some-2.ensures.items (labels_more _ _ _ c.split_before.result.0.now c.split_before.result.1.now _ _ c.loop-rest.invariant
    c.in-Some.ensures c.split_before.ensures.whole c.split_before.ensures.before c.split_before.ensures.others found.0 found.1)
