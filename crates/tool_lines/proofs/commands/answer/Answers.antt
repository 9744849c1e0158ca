use Rattle.tool_lines.proofs.Loop.{prints_more}
use Rattle.tool_lines.proofs.OutputLemmas.{runs_over, refused_over, begins_kept}
use Rattle.tool_lines.proofs.TreesLemmas.{means_new}
use Rattle.tool_lines.proofs.commands.answer.Goals as goal

pub returns-in-Ok-clause-prints : goal.returns-in-Ok-clause-prints
returns-in-Ok-clause-prints g c =
    let (read, took, (t, allowed, mean, are, number)) = c.in-Ok.ensures in
    prints_more _ _ _ _ _ _ c.in-Ok.first c.run-answered.result t allowed mean (means_new _ t mean) c.run-answered.ensures.general

pub returns-in-Ok-clause-known : goal.returns-in-Ok-clause-known
returns-in-Ok-clause-known g c =
    let (read, took, built) = c.in-Ok.ensures in
    runs_over _ _ _ _ _ _ _ c.in-Ok.first c.run-answered.result read took built c.run-answered.ensures.general

pub returns-in-Err-clause-prints : goal.returns-in-Err-clause-prints
returns-in-Err-clause-prints g c = begins_kept _ _ c.flush.result c.flush.ensures.bytes

pub returns-in-Err-clause-known : goal.returns-in-Err-clause-known
returns-in-Err-clause-known g c =
    let (read, took, refuses) = c.in-Err.ensures in
    refused_over _ _ _ _ c.in-Err.e c.flush.result read took refuses c.flush.ensures.flushed c.flush.ensures.bytes
