use Rattle.std.proofs.Common.{rules, ◌≡◌, ◌∙◌, true, sym, subst}
use Rattle.std.specs.Prelude.{All}
use Rattle.std.specs.Str.{IsUtf8}
use Rattle.std.proofs.lemmas.List.{take_all}
use Rattle.std.proofs.lemmas.List.Elements.{All-more}
use Rattle.metrics_names.specs.Names.{LabelParts}
use Rattle.metrics_exposition.specs.Labels.{is_whole}
use Rattle.metrics_exposition.proofs.labels.are_whole.Goals as goal

abbrev IsWhole : LabelParts → Type 0
IsWhole l = is_whole l ≡ true

abbrev HasText : LabelParts → Type 0
HasText l = IsUtf8 l.1

pub loop-label-preserved : goal.loop-label-preserved
loop-label-preserved c =
    let labels = c.args.labels.now in
    let i = c.loop-label.label-index in
    let label : LabelParts = c.label-item.result in
    let test : c.is_whole.result ≡ true = search rules in
    record {
      whole = All-more IsWhole labels i label c.loop-label-test.true c.loop-label.invariant.whole (subst IsWhole c.label-item.is (sym c.is_whole.ensures.whole ∙ test));
      texts = All-more HasText labels i label c.loop-label-test.true c.loop-label.invariant.texts (subst HasText c.label-item.is c.is_whole.ensures.text);
    }

pub returns-clause-whole : goal.returns-clause-whole
returns-clause-whole c = λ _. subst (All IsWhole) (take_all c.loop-label.label-index c.args.labels.now c.loop-label-test.false) c.loop-label.invariant.whole

pub returns-clause-texts : goal.returns-clause-texts
returns-clause-texts c = λ _. subst (All HasText) (take_all c.loop-label.label-index c.args.labels.now c.loop-label-test.false) c.loop-label.invariant.texts
