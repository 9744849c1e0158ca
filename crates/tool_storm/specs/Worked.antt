-- What a worker does.
use Rattle.std.specs.Prelude.{ℕ, Bool, if◌then◌else◌, List, []}
use Rattle.tool_storm.specs.declared.tally.Tally.{Tally}
use Rattle.tool_storm.specs.Numbers.{count_of, sum_of, below}
use Rattle.tool_storm.specs.Tallies.{Tells}
use Rattle.tool_storm.specs.Pens.{Bags, HasPushed}

-- what a worker pushes: nothing if it was stopped
abbrev pub pushes_of : Bool → ℕ → List ℕ
pushes_of stopped values = if stopped then [] else below values

-- what became of a worker whose pen's account said this
pub record IsWorked (mine : Bags) (values : ℕ) (after : Bags) (t : Tally) (stopped : Bool) : Type 0 where
  pub pen : HasPushed mine (pushes_of stopped values) after
  pub pushed : Tells t (count_of (pushes_of stopped values)) (sum_of (pushes_of stopped values))
