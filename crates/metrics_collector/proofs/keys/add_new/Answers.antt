use Rattle.std.proofs.Common.{◌∙◌, ◌+◌, ◌++◌, ◌∷◌, [], List, Bool, drop, not, sym, ap, append_assoc}
use Rattle.std.specs.Prelude.{bytes_eq}
use Rattle.std.specs.List.{list_any}
use Rattle.std.proofs.lemmas.List.{at_drop_more}
use Rattle.std.proofs.lemmas.List.Elements.{filter-append}
use Rattle.metrics_names.specs.Names.{LabelParts}
use Rattle.metrics_collector.specs.Labelling.{new_among}
use Rattle.metrics_collector.proofs.keys.add_new.Goals as goal

pub loop-label-preserved : goal.loop-label-preserved
loop-label-preserved c =
    let own = c.args.own.now in
    let more = c.args.more.now in
    let i = c.loop-label.label-index in
    let x : LabelParts = c.label-item.result in
    let all = c.loop-label.all.items in
    let rest = drop (i + 1) more in
    let N : List LabelParts → List LabelParts = new_among own in
    let p : LabelParts → Bool = λ l. not (list_any (λ m. bytes_eq m.0 l.0) own) in
    ap (λ l. l ++ N rest) c.in_ok-push_new.ensures.ok ∙ append_assoc all (N (x ∷ [])) (N rest)
    ∙ ap (λ l. all ++ l) (sym (filter-append p (x ∷ []) rest) ∙ ap (λ (y : LabelParts). N (y ∷ rest)) c.label-item.is ∙ sym (at_drop_more N more i x c.loop-label-test.true))
    ∙ c.loop-label.invariant
