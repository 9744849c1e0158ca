use Rattle.tool_state.proofs.WrittenLemmas.{on-ok, notes-one}
use Rattle.tool_state.proofs.notes.add_text.Goals as goal

pub returns-in_ok-describe-in-None-clause-adds : goal.returns-in_ok-describe-in-None-clause-adds
returns-in_ok-describe-in-None-clause-adds c =
    on-ok c.add_description.result _ _ c.add_description.ensures
    (notes-one c.args.kind c.args.name.now c.args.unit c.args.text.now c.args.told.now c.describe.new.self c.args.body.now c.add_description.new.body c.in_ok-describe-in-None.ensures.ok)
