use Rattle.metrics_names.specs.Equality.{series_key_eq-Decides}
use Rattle.metrics.proofs.LayersLemmas.{matches-Decides, winner-IsBest}
use Rattle.metrics.proofs.BookLemmas.{joined-chunks}
use Rattle.metrics_laws.proofs.ChunkSizes.{full-chunks}
use Rattle.metrics_laws.proofs.laws.definition_laws.Goals as goal

pub returns-clause-all_parts : goal.returns-clause-all_parts
returns-clause-all_parts c = series_key_eq-Decides

pub returns-clause-filter : goal.returns-clause-filter
returns-clause-filter c = matches-Decides

pub returns-clause-router : goal.returns-clause-router
returns-clause-router c = winner-IsBest

pub returns-clause-chunks : goal.returns-clause-chunks
returns-clause-chunks c = joined-chunks

pub returns-clause-full_chunks : goal.returns-clause-full_chunks
returns-clause-full_chunks c = full-chunks
