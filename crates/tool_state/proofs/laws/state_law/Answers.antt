use Rattle.tool_state.proofs.TextLemmas.{state-same}
use Rattle.tool_state.proofs.LawLemmas.{reading-gives-same, reading-begins}
use Rattle.tool_state.proofs.laws.state_law.Goals as goal

pub returns : goal.returns
returns c = record { one = state-same; same = reading-gives-same; begins = reading-begins }
