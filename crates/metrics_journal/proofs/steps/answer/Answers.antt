use Rattle.metrics_journal.proofs.steps.answer.Goals as goal

pub returns-in-Delete-clause-made : goal.returns-in-Delete-clause-made
returns-in-Delete-clause-made g c = c.delete.ensures.made c.args.storage.now
