use Rattle.tool_export.proofs.SpellingLemmas.{request_same}
use Rattle.tool_export.proofs.PlanLemmas.{one_plan}
use Rattle.tool_export.proofs.PlainLemmas.{one_export, export_begins}
use Rattle.tool_export.proofs.laws.export_law.Goals as goal

pub returns-clause-request : goal.returns-clause-request
returns-clause-request c = request_same

pub returns-clause-plan : goal.returns-clause-plan
returns-clause-plan c = one_plan

pub returns-clause-one : goal.returns-clause-one
returns-clause-one c = one_export c.exporter_law.ensures.one c.exporter_law.ensures.expiry

pub returns-clause-begins : goal.returns-clause-begins
returns-clause-begins c = export_begins c.exporter_law.ensures.one c.exporter_law.ensures.expiry
