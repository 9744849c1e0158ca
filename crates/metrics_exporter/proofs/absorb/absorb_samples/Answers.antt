use Rattle.std.proofs.Common.{rules, w64, to_z, of_z, ◌≡◌, List, [], ◌∷◌, ◌++◌, map, take, drop, suc, get_or, refl, sym, ◌∙◌, subst, append-nil}
use Rattle.std.specs.Prelude.{ℤ, pos}
use Rattle.std.proofs.Math.Facts.{to_z-of_z}
use Rattle.std.proofs.lemmas.List.{take_all, get_or_default}
use Rattle.metrics.specs.declared.handles.Update.TheVariants.{Record}
use Rattle.metrics_exporter.specs.Exporting.{Log, updates}
use Rattle.metrics_exporter.specs.Kept.{IsAfter}
use Rattle.metrics_exporter.specs.Absorbing.{made}
use Rattle.metrics_exporter.proofs.KeptLemmas.{Done}
use Rattle.metrics_exporter.proofs.AbsorbLemmas.{refuses, stops-in, samples-more, samples-split, samples-number}
use Rattle.metrics_exporter.proofs.absorb.absorb_samples.Goals as goal

pub loop-i-init : goal.loop-i-init
loop-i-init c = record {
  stands = λ setup log after. let P : Log → Type 0 = λ l. IsAfter setup l c.args.on.now in subst P (sym (append-nil log)) after;
  descriptions = refl;
  shards = refl;
}

pub loop-i-preserved : goal.loop-i-preserved
loop-i-preserved c = record {
  stands = λ setup log after.
      let xs = c.args.samples.now in
      let i = c.loop-i.i in
      let x : ℤ = to_z w64 (of_z w64 (get_or xs i (pos 0))) in
      let read : x ≡ get_or xs i (pos 0) = to_z-of_z {w = w64} {z = get_or xs i (pos 0)} (search rules) in
      let at : x ≡ get_or xs i x = read ∙ get_or_default xs i (pos 0) x c.loop-i-test.true in
      let remaining = log ++ made c.args.key.now (map Record (take i xs)) in
      let P : Log → Type 0 = λ l. IsAfter setup l c.update.new.self in
      let R : Done → Type 0 = λ r. IsAfter setup (remaining ++ updates c.args.key.now (Record x) r ∷ []) c.update.new.self in
      subst P (samples-more log c.args.key.now xs i x c.loop-i-test.true at) (subst R c.in_default.is (c.update.ensures.calls setup remaining (c.loop-i.invariant.stands setup log after)));
  descriptions = c.update.ensures.descriptions ∙ c.loop-i.invariant.descriptions;
  shards = c.update.ensures.shards ∙ c.loop-i.invariant.shards;
}

pub returns-in-Err-clause-makes : goal.returns-in-Err-clause-makes
returns-in-Err-clause-makes c = λ setup log after.
    let xs = c.args.samples.now in
    let i = c.loop-i.i in
    let x : ℤ = to_z w64 (of_z w64 (get_or xs i (pos 0))) in
    let read : x ≡ get_or xs i (pos 0) = to_z-of_z {w = w64} {z = get_or xs i (pos 0)} (search rules) in
    let at : x ≡ get_or xs i x = read ∙ get_or_default xs i (pos 0) x c.loop-i-test.true in
    let here = c.loop-i.invariant.stands setup log after in
    let remaining = log ++ made c.args.key.now (map Record (take i xs)) in
    let e = c.in-Err.ensures in
    stops-in setup log c.args.key.now (map Record (take i xs)) (map Record (drop (suc i) xs)) (map Record xs) (Record x) c.in-Err.error i c.loop-i.on c.update.new.self
    (samples-split xs i x c.loop-i-test.true at) (samples-number xs i c.loop-i-test.true) here e.err.1
    (refuses setup remaining c.args.key.now (Record x) _ c.in-Err.error refl (e.full setup remaining here) (e.absent setup remaining here) e.err.0)

pub returns : goal.returns
returns c = record {
  makes = λ setup log after.
      let xs = c.args.samples.now in
      let P : List ℤ → Type 0 = λ l. IsAfter setup (log ++ made c.args.key.now (map Record l)) c.loop-i.on in
      subst P (take_all c.loop-i.i xs c.loop-i-test.false) (c.loop-i.invariant.stands setup log after);
  within = tt;
  descriptions = c.loop-i.invariant.descriptions;
  shards = c.loop-i.invariant.shards;
}
