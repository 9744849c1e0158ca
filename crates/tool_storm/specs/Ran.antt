-- What all workers and the clearer do.
use Rattle.std.specs.Prelude.{◌≡◌, ℕ, ◌-◌, ◌*◌, ◌≤◌}
use Rattle.metrics_bucket.specs.Facts.{weigh}
use Rattle.tool_storm.specs.declared.tally.Tally.{Tally}
use Rattle.tool_storm.specs.Numbers.{below}
use Rattle.tool_storm.specs.Pens.{Bags, TellsPushed, TellsTaken}

-- So many workers ended, and the clearer, whose pen all of theirs were joined into, to this weight. The gate stopped so many
pub record IsRan (values weight workers : ℕ) (pen : Bags) (t f : Tally) (idle : ℕ) : Type 0 where
  pub sum : pen.weight ≡ weight
  pub stopped : idle ≤ workers
  pub bag : (h : ℕ → ℕ) → pen.pushed h ≡ (workers - idle) * weigh h (below values)
  pub pushed : TellsPushed t pen
  pub found : TellsTaken f pen
