use Rattle.test_journal.proofs.kinds.each_kind_has_calls_of_its_own.Given as goal

abbrev pub ghosts-expect_rows-T-Ledger : goal.ghosts-expect_rows-T-Ledger
ghosts-expect_rows-T-Ledger g a = record { name = a.trues.name; parts = a.trues.parts }

abbrev pub ghosts-expect_rows-F-Ledger : goal.ghosts-expect_rows-F-Ledger
ghosts-expect_rows-F-Ledger g a = record { name = a.falses.name; parts = a.falses.parts }
