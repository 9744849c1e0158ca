use Rattle.test_journal.proofs.refused.is_made.Given as goal

abbrev pub ghosts-is_journaled-T-Ledger : goal.ghosts-is_journaled-T-Ledger
ghosts-is_journaled-T-Ledger g a = record { name = a.trues.name; parts = a.trues.parts }

abbrev pub ghosts-is_journaled-F-Ledger : goal.ghosts-is_journaled-F-Ledger
ghosts-is_journaled-F-Ledger g a = record { name = a.falses.name; parts = a.falses.parts }
