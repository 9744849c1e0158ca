use Rattle.std.proofs.Common.{List, subst, sym}
use Rattle.metrics_names.specs.Names.{LabelParts, KeyParts}
use Rattle.metrics_shared_registry.proofs.ResultLemmas.{if-ok}
use Rattle.metrics_collector.specs.Labelling.{IsKept}
use Rattle.metrics_collector.proofs.collector.Collector.on_gauge.Goals as goal

pub returns-then-is_kept-clause-called : goal.returns-then-is_kept-clause-called
returns-then-is_kept-clause-called g c =
    let key : KeyParts = c.args.key.now in
    let labels : List LabelParts = c.args.self.now.labels.items in
    let same = subst (λ (more : List LabelParts). IsKept more key key) c.deref.ensures.value (c.is_kept.ensures c.if-is_kept.true) in
    if-ok c.on_gauge.result _ _ (λ v k. (k.0, subst (λ (q : KeyParts). IsKept labels key q) (sym k.1) same, k.2)) c.on_gauge.ensures.called

pub returns-clause-called : goal.returns-clause-called
returns-clause-called g c =
    let key : KeyParts = c.args.key.now in
    let labels : List LabelParts = c.args.self.now.labels.items in
    let same = subst (λ (more : List LabelParts). IsKept more key c.in_ok-kept.kept) c.deref-2.ensures.value c.in_ok-kept.ensures.ok in
    if-ok c.on_gauge-2.result _ _ (λ v k. (k.0, subst (λ (q : KeyParts). IsKept labels key q) (sym k.1) same, k.2)) c.on_gauge-2.ensures.called
