use Rattle.std.proofs.Common.{sym, ◌∙◌}
use Rattle.prefix_match.specs.Substring.{lowered}
use Rattle.prefix_match.proofs.SubstringTableWalks.{table_at_start}
use Rattle.prefix_match.proofs.substring.table.Table.walk.Goals as goal

pub returns-then-self : goal.returns-then-self
returns-then-self c = λ ps fold t. table_at_start ps (lowered fold c.args.text.now) (sym t.at_start ∙ c.if-self.true)
