use Rattle.std.proofs.Common.{◌≡◌, ◌+◌, ◌-◌, ◌++◌, ◌∷◌, [], length, ap, sym, ◌∙◌, inr, refl, arith, vec_len}
use Rattle.std.proofs.lemmas.Result.{IfErr-weaker}
use Rattle.metrics_storage.proofs.Walks.{last_of, on_ok}
use Rattle.metrics_storage.proofs.bucket.push_last.Goals as goal

pub returns-in-Some-clause-ok : goal.returns-in-Some-clause-ok
returns-in-Some-clause-ok g c =
    let old = c.args.blocks.now in let block = c.in-Some.block.now in let some = c.in-Some.ensures.variant.0 refl in
    let i : vec_len old - 1 + 1 ≡ length old.items = omega (arith, some, old.ok.0) in
    let at = last_of old.items (vec_len old - 1) block c.push.new.self i in
    let was = at.1 ∙ ap (λ l. at.0 ++ l ∷ []) (sym c.in-Some.ensures.value) in
    on_ok c.push.result (λ ok new. (at.0, block, c.push.ensures.variant.0 ok, was, at.2 ∙ ap (λ l. at.0 ++ l ∷ []) new)) c.push.ensures.ok

pub returns-in-Some-clause-err : goal.returns-in-Some-clause-err
returns-in-Some-clause-err g c =
    let old = c.args.blocks.now in let block = c.in-Some.block.now in let some = c.in-Some.ensures.variant.0 refl in
    let i : vec_len old - 1 + 1 ≡ length old.items = omega (arith, some, old.ok.0) in
    let at = last_of old.items (vec_len old - 1) block c.push.new.self i in
    let was = at.1 ∙ ap (λ l. at.0 ++ l ∷ []) (sym c.in-Some.ensures.value) in
    IfErr-weaker c.push.result _ _ (λ y e. (e.0, inr (at.0, block, e.2, was), at.2 ∙ ap (λ l. at.0 ++ l ∷ []) e.1 ∙ sym was)) c.push.ensures.err
