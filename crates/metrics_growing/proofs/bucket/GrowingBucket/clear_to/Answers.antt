use Rattle.std.proofs.Common.{rules, Result, Ok, Err, ◌∙◌, inl, sym, arith}
use Rattle.std.specs.Result.{IfOk}
use Rattle.std.proofs.lemmas.Result.{IfErr-weaker}
use Rattle.metrics_growing.specs.Parts.{Keeps}
use Rattle.metrics_growing.proofs.Chains.{held_weight}
use Rattle.metrics_growing.proofs.Settling.{took_places}
use Rattle.metrics_growing.proofs.bucket.GrowingBucket.clear_to.Goals as goal

if_both : {X Y : Type 0} (r : Result X Y) (P Q R : X → Type 0) → ((x : X) → P x → Q x → R x) → IfOk r P → IfOk r Q → IfOk r R
if_both (Ok x) P Q R f p q = f x p q
if_both (Err e) P Q R f p q = tt

pub returns-clause-count : goal.returns-clause-count
returns-clause-count g c =
    if_both c.clear_all.result _ _ _ (λ n t few. let same = took_places c.buckets.new.known.items t.0 c.clear_all.new.known.items t.3 in omega arith) c.clear_all.ensures.ok c.clear_all.ensures.count

pub returns-clause-err : goal.returns-clause-err
returns-clause-err g c =
    let met = c.buckets.new.known.items in
    let kept : Keeps c.args.pen.now met = search rules in
    IfErr-weaker c.clear_all.result _ _
    (λ e t. (t.1, inl (t.2, (met, kept, t.0), λ heavy. t.4 (sym (held_weight met c.clear_all.new.known.items t.0) ∙ heavy))))
    c.clear_all.ensures.err
