-- What a tally has counted.
use Rattle.std.specs.Prelude.{ℕ, ◌+◌, Bool, true, false}
use Rattle.metrics_journal.specs.Journal.{one_if}

-- its weight, how many shards it counts for, and the calls that were answered true and false
pub record Account : Type 0 where
  pub weight : ℕ
  pub shards : ℕ
  pub trues : ℕ
  pub falses : ℕ

-- with one more reply
abbrev pub counted : Bool → Account → Account
counted reply a = record { weight = a.weight; shards = a.shards; trues = a.trues + one_if true reply; falses = a.falses + one_if false reply }

-- all that two tallies have
abbrev pub joined : Account → Account → Account
joined a b = record { weight = a.weight + b.weight; shards = a.shards + b.shards; trues = a.trues + b.trues; falses = a.falses + b.falses }
