use Rattle.metrics_storage.proofs.ReservoirPlaces.{items-came-last, steps-hold-last}
use Rattle.metrics_storage.proofs.ReservoirCounts.{kept-has-place, is-fair}
use Rattle.metrics_storage.proofs.ReservoirSums.{pushes-add-up}
use Rattle.metrics_storage.proofs.laws.reservoir_law.Goals as goal

pub returns-clause-items : goal.returns-clause-items
returns-clause-items c = items-came-last

pub returns-clause-places : goal.returns-clause-places
returns-clause-places c = steps-hold-last

pub returns-clause-sums : goal.returns-clause-sums
returns-clause-sums c = pushes-add-up

pub returns-clause-placed : goal.returns-clause-placed
returns-clause-placed c = kept-has-place

pub returns-clause-fair : goal.returns-clause-fair
returns-clause-fair c = is-fair
