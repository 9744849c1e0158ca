use Rattle.std.proofs.Common.{sym, ◌∙◌}
use Rattle.std.proofs.lemmas.Bool.{eqb-false}
use Rattle.tool_trees.proofs.Lines.{no_two}
use Rattle.tool_trees.proofs.words.prefix_line.Goals as goal

pub returns : goal.returns
returns c =
    let cut = c.split_before.ensures in
    no_two _ _ _ cut.whole cut.before cut.others (eqb-false _ _ (sym c.is_empty.ensures ∙ c.if-is_empty.false))
