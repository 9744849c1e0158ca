-- The key that a cell was made for.
use Rattle.metrics_counts.specs.Owning.{Counted}

abbrev pub key_of : {K : Type 0} → Counted K → K
key_of cell = cell.key
