use Rattle.std.proofs.Common.{◌≡◌, ℕ, ◌+◌, ◌++◌, ◌∷◌, [], ◌<◌, List, map, length, suc, Bor, take, get_or, ap, sym, ◌∙◌, arith}
use Rattle.std.proofs.Math.Seq.{take-suc}
use Rattle.std.proofs.lemmas.List.{get_or-map, length-map}
use Rattle.metrics_collector.proofs.lists.labels_from.Goals as goal

-- one item more
more : {X Y : Type 0} (f : X → Y) (xs : List X) (i : ℕ) (d : X) (made : List Y) (y : Y) → i < length xs → made ≡ take i (map f xs) → y ≡ f (get_or xs i d)
    → made ++ y ∷ [] ≡ take (i + 1) (map f xs)
more {X} {Y} f xs i d made y lt is new =
    let long = length-map {B = Y} xs f in let next : suc i ≡ i + 1 = omega arith in
    let last : y ≡ get_or (map f xs) i y = new ∙ sym (get_or-map f xs i d y lt) in
    (λ j. is j ++ last j ∷ []) ∙ sym (take-suc (map f xs) i y (omega (arith, long, lt))) ∙ ap (λ k. take k (map f xs)) next

pub loop-key-preserved : goal.loop-key-preserved
loop-key-preserved c =
    (c.in_ok-push.ensures {u = tt}).items
    ∙ more (λ (m : Bor (List ℕ) × Bor (List ℕ)). (m.0.now, m.1.now)) c.args.pairs.now c.loop-key.key-index _ c.loop-key.made.items c.in_ok-new.field-0 c.loop-key-test.true c.loop-key.invariant (c.in_ok-new.ensures {u = tt})
