use Rattle.std.proofs.Common.{sym, subst}
use Rattle.std.specs.Io.KnownBytes.{Appends}
use Rattle.std.proofs.KnownBytes.{Appends-nil}
use Rattle.tool_lines.specs.Running.{PrintsAnswers}
use Rattle.tool_lines.specs.Requests.{Prints, Begins}
use Rattle.tool_lines.proofs.Asking.{handed_on, none_of_totals}
use Rattle.tool_lines.proofs.commands.answer_request.Goals as goal

pub returns-in_err-answer-in-Run-clause-prints : goal.returns-in_err-answer-in-Run-clause-prints
returns-in_err-answer-in-Run-clause-prints g c =
    let wrote = Appends (g.O.Write.contents c.args.output.now) (g.O.Write.contents c.answer.new.output) in
    subst (λ q. Begins (Prints q) wrote c.from_residual.result) (sym c.in-Run.is)
    (handed_on PrintsAnswers wrote c.answer.result c.from_residual.result c.from_residual.ensures.0 c.answer.ensures.prints)

pub returns-in_err-totals-in-Storm-clause-prints : goal.returns-in_err-totals-in-Storm-clause-prints
returns-in_err-totals-in-Storm-clause-prints g c =
    let wrote = Appends (g.O.Write.contents c.args.output.now) (g.O.Write.contents c.args.output.now) in
    subst (λ q. Begins (Prints q) wrote c.from_residual-in_err-totals-in-Storm.result) (sym c.in-Storm.is) (none_of_totals c.in-Storm.plan wrote c.from_residual-in_err-totals-in-Storm.result c.from_residual-in_err-totals-in-Storm.ensures.0 (Appends-nil _))

pub returns-in_err-totals-in-GrowingStorm-clause-prints : goal.returns-in_err-totals-in-GrowingStorm-clause-prints
returns-in_err-totals-in-GrowingStorm-clause-prints g c =
    let wrote = Appends (g.O.Write.contents c.args.output.now) (g.O.Write.contents c.args.output.now) in
    subst (λ q. Begins (Prints q) wrote c.from_residual-in_err-totals-in-GrowingStorm.result) (sym c.in-GrowingStorm.is) (none_of_totals c.in-GrowingStorm.plan wrote c.from_residual-in_err-totals-in-GrowingStorm.result c.from_residual-in_err-totals-in-GrowingStorm.ensures.0 (Appends-nil _))
