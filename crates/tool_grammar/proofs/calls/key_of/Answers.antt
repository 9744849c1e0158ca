use Rattle.tool_grammar.proofs.WordsLemmas.{no_key_name, no_key_labels}
use Rattle.tool_grammar.proofs.calls.key_of.Goals as goal

pub returns-in_default : goal.returns-in_default
returns-in_default c = no_key_name _ _ _ c.split_before.ensures.whole c.split_before.ensures.before c.split_before.ensures.others c.in_default.ensures

pub returns-in-None : goal.returns-in-None
returns-in-None c = no_key_labels _ _ _ c.split_before.ensures.whole c.split_before.ensures.before c.split_before.ensures.others (rw c.in-None.is at c.in_ok-labels.ensures)
