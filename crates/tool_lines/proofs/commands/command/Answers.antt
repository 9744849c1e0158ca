use Rattle.std.proofs.Common.{inl, inr}
use Rattle.tool_lines.specs.declared.requests.Request.TheVariants as ask
use Rattle.tool_lines.proofs.Asking.{begun}
use Rattle.tool_lines.proofs.commands.command.Goals as goal

pub returns-then-is_export-clause-done : goal.returns-then-is_export-clause-done
returns-then-is_export-clause-done g c = λ ends. inr (c.answer_export_words.ensures.done ends)

pub returns-then-is_export-clause-first : goal.returns-then-is_export-clause-first
returns-then-is_export-clause-first g c = λ two run. absurd (c.is_export.ensures.export c.if-is_export.true ask.Run run)

pub returns-then-is_export-clause-storm : goal.returns-then-is_export-clause-storm
returns-then-is_export-clause-storm g c = λ plan asks. elim asks [
  | inl storm ↦ absurd (c.is_export.ensures.export c.if-is_export.true (ask.Storm plan) storm)
  | inr storm ↦ absurd (c.is_export.ensures.export c.if-is_export.true (ask.GrowingStorm plan) storm)
]

pub returns-in_default-clause-first : goal.returns-in_default-clause-first
returns-in_default-clause-first g c = λ two run. absurd (c.in_default.ensures ask.Run run)

pub returns-in_default-clause-storm : goal.returns-in_default-clause-storm
returns-in_default-clause-storm g c = λ plan asks. elim asks [
  | inl storm ↦ absurd (c.in_default.ensures (ask.Storm plan) storm)
  | inr storm ↦ absurd (c.in_default.ensures (ask.GrowingStorm plan) storm)
]

pub returns-in-Ok-clause-begun : goal.returns-in-Ok-clause-begun
returns-in-Ok-clause-begun g c = begun _ c.in-Some.request _ _ c.in-Some.ensures c.answer_request.ensures.prints

pub returns-in-Err-clause-begun : goal.returns-in-Err-clause-begun
returns-in-Err-clause-begun g c = begun _ c.in-Some.request _ _ c.in-Some.ensures c.answer_request.ensures.prints
