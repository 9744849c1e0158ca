use Rattle.test_journal.proofs.threads.four_threads_create_ten_counters.Given as goal

abbrev pub ghosts-expect_all-T-Ledger : goal.ghosts-expect_all-T-Ledger
ghosts-expect_all-T-Ledger g a = record { name = a.trues.name; parts = a.trues.parts }

abbrev pub ghosts-expect_all-F-Ledger : goal.ghosts-expect_all-F-Ledger
ghosts-expect_all-F-Ledger g a = record { name = a.falses.name; parts = a.falses.parts }
