-- What a recorder with a journal keeps.
use Rattle.std.specs.Prelude.{◌≡◌, ℕ, ◌<◌, List, length}
use Rattle.metrics.specs.Book.{content_at}
use Rattle.metrics.specs.Meaning.{Meaning}
use Rattle.metrics.specs.History.{Log, reached, content_after, ArePlain}
use Rattle.metrics.proofs.HistoryLemmas.{Kept}
use Rattle.metrics_replay.specs.Replaying.{Place, calls_of, registers_from}

-- each reply is the expected answer after the calls before it, and the books are what the journal says
abbrev pub IsJournal : Meaning → Log → Type 0
IsJournal m log =
    ArePlain m.targets (length m.contents) log
    × ((b : ℕ) → b < length m.contents → content_at b m.contents ≡ content_after (reached m.targets b log))

-- a journal of a recorder whose books were new, and its register calls
pub record IsKeptOf (m : Meaning) (log : Log) (registers : List Place) : Type 0 where
  pub plain : ArePlain m.targets (length m.contents) log
  pub kept : Kept (Unit {0}) m.targets log m.contents
  pub places : registers ≡ registers_from 0 (calls_of log)
