use Rattle.std.proofs.Common.{OnSome}
use Rattle.std.specs.Io.KnownBytes.{IsAtEnd}
use Rattle.tool_export.proofs.SessionLemmas.{exports}
use Rattle.tool_export.proofs.exporting.export.Goals as goal

pub returns-clause-exact : goal.returns-clause-exact
returns-clause-exact g c = λ setup after.
    let (read, text, took, wrote, ran) = c.run_lines.ensures in (
      read,
      text,
      took,
      wrote,
      exports setup (OnSome (g.I.Read.remaining c.args.input.now) (IsAtEnd (g.I.Read.remaining c.run_lines.new.input)))
          c.args.first c.args.on.now c.run_lines.new.on read text c.run_lines.result after ran,
    )
