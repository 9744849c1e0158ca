use Rattle.std.proofs.Common.{◌∙◌, true, ap, sym}
use Rattle.metrics_exposition.specs.Names.{is_name}
use Rattle.metrics_exposition.proofs.NameLemmas.{name-whole}
use Rattle.metrics_exposition.proofs.names.allowed_name.Goals as goal

pub returns-then-is_name : goal.returns-then-is_name
returns-then-is_name c =
    let allowed = ap (is_name true) (sym c.name.ensures) ∙ sym c.if-is_name.ensures in
    c.given.ensures ∙ sym (name-whole true c.args.key.now.name allowed)
