use Rattle.std.proofs.Common.{[], inl, inr, refl}
use Rattle.std.proofs.KnownBytes.{Consumes-nil, Appends-nil, Appends-kept}
use Rattle.tool_export.specs.Plans.{setup_of}
use Rattle.tool_export.proofs.SessionLemmas.{flushed_memory}
use Rattle.tool_export.proofs.exporting.export_new.Goals as goal

pub returns-in-Ok : goal.returns-in-Ok
returns-in-Ok g c =
    let (read, text, took, wrote, exported) = c.export.ensures.exact (setup_of c.args.plan.now) c.in-Ok.ensures.made in
    (read, text, took, wrote, inl (c.export.new.on, exported))

pub returns-in-Err : goal.returns-in-Err
returns-in-Err g c = (
  [],
  [],
  Consumes-nil _,
  Appends-kept _ _ _ [] (Appends-nil _) c.flush.ensures.bytes,
  inr (refl, refl, flushed_memory c.flush.result c.flush.ensures.flushed),
)
