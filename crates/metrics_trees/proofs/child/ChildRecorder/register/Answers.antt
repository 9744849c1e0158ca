use Rattle.std.proofs.Common.{◌≡◌, refl, ap, sym, ◌∙◌, subst, arith, length, map}
use Rattle.std.specs.Prelude.{Vec}
use Rattle.std.specs.Global.{Global}
use Rattle.std.specs.Result.{result_map_both}
use Rattle.metrics.specs.declared.handles.Address.{Address}
use Rattle.metrics_names.specs.declared.refused.Refused.{Refused}
use Rattle.metrics.specs.Meaning.{KeepsTargets, Registers}
use Rattle.metrics_rules.specs.Meanings.{rules_meaning}
use Rattle.metrics_trees.specs.Leaves.{recorders_of}
use Rattle.metrics_trees.specs.Over.{over}
use Rattle.metrics_trees.specs.Visiting.{registering, found_by, IsEnd}
use Rattle.metrics_trees.proofs.ActingLemmas.{ends-mapped}
use Rattle.metrics_trees.proofs.RegisterLemmas.{registered, registered-count}
use Rattle.metrics_trees.proofs.child.ChildRecorder.register.Goals as goal

pub invariant_of-self-2 : goal.invariant_of-self-2
invariant_of-self-2 g c =
    let s = c.args.self.now in
    let count =
    registered-count g.B.Recorder.meaning c.args.key.now.labels c.args.kind _ (λ v. registering v.call (recorders_of v.leaves)) (λ v. found_by v.call) _ _ (λ v leaf key w p. p) (λ v leaf key e w p. p)
    (rules_meaning s.rules) c.args.key.now.name _ c.visit-visited.new.visitor (refl, refl) (ap length c.new.ensures.items) s.below.registrar.few s.as_many c.visit-visited.result c.visit-visited.ensures in
    record { as_many = s.as_many ∙ sym count ∙ ap (λ l. length (recorders_of l)) (sym c.finish-found.ensures.leaves) }

pub returns : goal.returns
returns g c =
    let m = g.B.Recorder.meaning in
    let s = c.args.self.now in
    let rules = rules_meaning s.rules in
    let found = c.finish-found.ensures.found in
    let result = result_map_both (λ (v : Vec Address Global). v.items) (λ (e : Refused). e) c.ended.result in
    let count : c.len-acted.result ≡ length c.finish-found.result.items = omega (arith, c.len-acted.ensures, c.finish-found.result.ok.0) in
    let end = ends-mapped (λ (v : Vec Address Global). v.items) c.visit-visited.result c.finish-found.result c.len-acted.result c.ended.result c.ended.ensures in
    let d =
    registered m c.args.key.now.labels c.args.kind _ (λ v. registering v.call (recorders_of v.leaves)) (λ v. found_by v.call) _ _ (λ v leaf key w p. p) (λ v leaf key e w p. p)
    rules c.args.key.now.name _ c.visit-visited.new.visitor (refl, refl) (ap length c.new.ensures.items) s.below.registrar.few s.as_many c.visit-visited.result c.visit-visited.ensures result c.finish-found.result.items found c.new.ensures.items
    (subst (λ n. IsEnd c.visit-visited.result c.finish-found.result.items n result) (count ∙ ap length found) end) in
    let old = over rules (map m (recorders_of s.below.registrar.leaves)) in
    record {
      keeps = subst (λ l. KeepsTargets old (over rules (map m (recorders_of l)))) (sym c.finish-found.ensures.leaves) d.1;
      registers = subst (λ l. Registers old (over rules (map m (recorders_of l))) c.args.kind c.args.key.now result) (sym c.finish-found.ensures.leaves) d.0;
    }
