use Rattle.std.proofs.Common.{◌≡◌, ℕ, List, ap, ◌∙◌, arith, rules, w64}
use Rattle.std.specs.Prelude.{ℤ}
use Rattle.std.proofs.Math.Facts.{to_z-of_z}
use Rattle.std.proofs.lemmas.Int.{ints}
use Rattle.metrics_storage.specs.Reservoir.{place_step}
use Rattle.metrics_storage.specs.Sample.{Sampled, after_push}
use Rattle.metrics_storage.proofs.reservoir.Reservoir.push.Goals as goal

same_sample : {k n : ℕ} {xs ys : List ℤ} {x y : ℤ} → xs ≡ ys → x ≡ y → Path Sampled (record { places = k; held = xs; pushed = n; total = x }) (record { places = k; held = ys; pushed = n; total = y })
same_sample {k} {n} p q = λ j. record { places = k; held = p j; pushed = n; total = q j }

pub returns-clause-step : goal.returns-clause-step
returns-clause-step c =
    let s = c.self.inside in let i = c.self.invariant in
    let read = to_z-of_z {w = w64} {z = c.args.value} (search rules) in
    same_sample (c.place.ensures.step ∙ ap (λ v. place_step s.size s.pushed v c.args.draw s.values.items) read) (omega (arith, ints, i.2, i.3, c.from.ensures, c.ranges.value.sfits))
    ∙ ap (after_push c.args.value c.args.draw) c.self.view_is
