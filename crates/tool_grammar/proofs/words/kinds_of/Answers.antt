use Rattle.std.proofs.Common.{refl, rules}
use Rattle.tool_grammar.proofs.KindsLemmas.{kinds_of_both}
use Rattle.tool_grammar.proofs.words.kinds_of.Goals as goal

pub returns-in-cg : goal.returns-in-cg
returns-in-cg c = kinds_of_both _ 1 2 _ 99 103 (search rules) (search rules) (search rules) (search rules) c.bitor.ensures refl

pub returns-in-ch : goal.returns-in-ch
returns-in-ch c = kinds_of_both _ 1 4 _ 99 104 (search rules) (search rules) (search rules) (search rules) c.bitor-in-ch.ensures refl

pub returns-in-gh : goal.returns-in-gh
returns-in-gh c = kinds_of_both _ 2 4 _ 103 104 (search rules) (search rules) (search rules) (search rules) c.bitor-in-gh.ensures refl
