use Rattle.tool_lines.specs.Handles.{entries}
use Rattle.tool_lines.proofs.Loop.{finished, known}
use Rattle.tool_lines.proofs.OutputLemmas.{run_answered}
use Rattle.tool_lines.proofs.running.run.Goals as goal

pub returns-clause-general : goal.returns-clause-general
returns-clause-general g c = finished g.R.Recorder.meaning entries _ _ _ _ c.args.first _ _ c.run_lines.result c.new-handles.ensures c.run_lines.ensures

pub returns-clause-answered : goal.returns-clause-answered
returns-clause-answered g c =
    λ new. run_answered _ _ _ _ _ _ c.args.first c.run_lines.result (finished g.R.Recorder.meaning entries _ _ _ _ c.args.first _ _ c.run_lines.result c.new-handles.ensures c.run_lines.ensures) new

pub returns-clause-known : goal.returns-clause-known
returns-clause-known g c =
    known _ _ _ _ _ _ c.args.first c.run_lines.result (finished g.R.Recorder.meaning entries _ _ _ _ c.args.first _ _ c.run_lines.result c.new-handles.ensures c.run_lines.ensures)
