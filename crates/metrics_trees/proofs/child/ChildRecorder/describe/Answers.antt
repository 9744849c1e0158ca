use Rattle.std.proofs.Common.{◌≡◌, ◌≤◌, [], refl, ap, sym, ◌∙◌, subst, length, map}
use Rattle.metrics.specs.Meaning.{KeepsTargets, Describes}
use Rattle.metrics_rules.specs.Meanings.{rules_meaning}
use Rattle.metrics_trees.specs.Leaves.{recorders_of}
use Rattle.metrics_trees.specs.Over.{over}
use Rattle.metrics_trees.specs.Recorders.{books_in, most_books}
use Rattle.metrics_trees.specs.Visiting.{describing}
use Rattle.metrics_trees.proofs.ActingLemmas.{answered, counted}
use Rattle.metrics_trees.proofs.child.ChildRecorder.describe.Goals as goal

pub invariant_of-self-3 : goal.invariant_of-self-3
invariant_of-self-3 g c =
    let s = c.args.self.now in
    let was = c.replace-leaves.ensures.value in
    let many = s.as_many ∙ ap (λ l. length (recorders_of l)) (sym was) in
    let few = subst (λ l. books_in (map g.B.Recorder.meaning (recorders_of l)) ≤ most_books) (sym was) s.below.registrar.few in
    let count =
    counted g.B.Recorder.meaning [] c.args.kind _ (λ v. describing v.kind v.unit v.text.now (recorders_of v.leaves) v.acted) _ _ (λ v leaf key w p. p) (λ v leaf key e w p. p)
    (rules_meaning s.rules) _ _ c.visit-visited.new.visitor (refl, refl) refl few many c.visit-visited.result c.visit-visited.ensures in
    record { as_many = many ∙ sym count }

pub returns : goal.returns
returns g c =
    let m = g.B.Recorder.meaning in
    let s = c.args.self.now in
    let rules = rules_meaning s.rules in
    let now = c.visit-visited.new.visitor in
    let was = c.replace-leaves.ensures.value in
    let many = s.as_many ∙ ap (λ l. length (recorders_of l)) (sym was) in
    let few = subst (λ l. books_in (map m (recorders_of l)) ≤ most_books) (sym was) s.below.registrar.few in
    let d =
    answered m [] c.args.kind _ (λ v. describing v.kind v.unit v.text.now (recorders_of v.leaves) v.acted) _ _ (λ v leaf key w p. p) (λ v leaf key e w p. p)
    rules _ _ now (refl, refl) refl few many (λ n. n ≡ _) now.acted (λ p n. n) c.visit-visited.result c.ended.result c.visit-visited.ensures c.ended.ensures in
    let new = over rules (map m (recorders_of now.leaves)) in
    record {
      keeps = subst (λ l. KeepsTargets (over rules (map m (recorders_of l))) new) was d.1;
      describes = subst (λ l. Describes (over rules (map m (recorders_of l))) new c.args.kind c.args.name.now c.args.unit c.args.text.now c.ended.result) was d.0;
    }
