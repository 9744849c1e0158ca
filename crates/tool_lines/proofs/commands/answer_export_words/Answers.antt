use Rattle.std.proofs.Common.{[], inr, refl, Err, None}
use Rattle.std.proofs.KnownBytes.{Consumes-nil, Appends-nil}
use Rattle.tool_grammar.specs.declared.error.RunError.TheVariants.{Memory}
use Rattle.tool_lines.proofs.commands.answer_export_words.Goals as goal

pub returns-in-Err-clause-exported : goal.returns-in-Err-clause-exported
returns-in-Err-clause-exported g c = λ any asks.
    (any, asks, ([], [], Err (Memory None), Consumes-nil _, Appends-nil _, inr (refl, refl, refl), c.report.ensures))
