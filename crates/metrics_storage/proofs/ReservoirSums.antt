-- Pushes one after another count their values and add them up.
use Rattle.std.proofs.Common.{◌≡◌, ℕ, suc, ◌+◌, List, [], ◌∷◌, map, length, ◌∙◌, arith}
use Rattle.std.specs.Prelude.{ℤ, pos, ◌+ℤ◌, fold}
use Rattle.metrics_storage.specs.Reservoir.{steps_from, place_step}
use Rattle.metrics_storage.specs.Sample.{after_pushes, PushesAddUp}

after-pushes : (k i : ℕ) (held : List ℤ) (sum : ℤ) (pushes : List (ℤ × ℕ)) → after_pushes pushes (record { places = k; held = held; pushed = i; total = sum })
    ≡ record { places = k; held = steps_from k i held pushes; pushed = i + length pushes; total = fold ◌+ℤ◌ sum (map (λ push. push.0) pushes) }
after-pushes k i held sum [] =
    let same : i ≡ i + 0 = omega arith in
    λ j. record { places = k; held = held; pushed = same j; total = sum }
after-pushes k i held sum (push ∷ pushes) =
    let next : i + 1 ≡ suc i = omega arith in let long : suc i + length pushes ≡ i + length (push ∷ pushes) = omega arith in
    let step = place_step k i push.0 push.1 held in
    (λ j. after_pushes pushes (record { places = k; held = step; pushed = next j; total = sum +ℤ push.0 }))
    ∙ after-pushes k (suc i) step (sum +ℤ push.0) pushes
    ∙ (λ j. record { places = k; held = steps_from k (suc i) step pushes; pushed = long j; total = fold ◌+ℤ◌ (sum +ℤ push.0) (map (λ p. p.0) pushes) })

pub pushes-add-up : PushesAddUp
pushes-add-up k pushes =
    let long : 0 + length pushes ≡ length pushes = omega arith in
    after-pushes k 0 [] (pos 0) pushes ∙ (λ j. record { places = k; held = steps_from k 0 [] pushes; pushed = long j; total = fold ◌+ℤ◌ (pos 0) (map (λ push. push.0) pushes) })
