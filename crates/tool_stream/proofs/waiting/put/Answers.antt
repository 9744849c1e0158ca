use Rattle.std.proofs.Common.{◌++◌, subst}
use Rattle.tool_stream.specs.Waiting.{Writes}
use Rattle.tool_stream.proofs.Handing.{put_written}
use Rattle.tool_stream.proofs.waiting.put.Goals as goal

pub returns : goal.returns
returns g c =
    let hands = put_written _ _ _ c.wait.new.waiting.items c.args.text.now c.write_out.new.waiting.items c.wait-2.new.waiting.items c.write_text.result c.in_ok-write_out.ensures.bytes c.in_ok-write_out.ensures.waiting c.if-wait-2.ensures c.write_text.ensures in
    subst (λ w. Writes (g.O.Write.contents c.args.output.now) (g.O.Write.contents c.write_text.new.output) (w ++ c.args.text.now) c.wait-2.new.waiting.items c.write_text.result) c.if-wait.ensures hands
