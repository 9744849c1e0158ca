use Rattle.std.proofs.Common.{ap, refl, ◌∷◌, []}
use Rattle.metrics.specs.Book.{no_description, Content}
use Rattle.metrics_descriptions.specs.Legends.{described_by}
use Rattle.metrics_debugging.specs.DebuggingOrder.{series_of, activity_of}
use Rattle.metrics_debugging.proofs.SeriesLemmas.{content_same}
use Rattle.metrics_debugging.proofs.debugging.DebuggingRecorder.new.Goals as goal

pub returns-clause-new_book : goal.returns-clause-new_book
returns-clause-new_book c = record {
  contents = ap (λ (x : Content). x ∷ []) (content_same (series_of c.new.result) [] (activity_of c.new.result) [] (described_by c.new-2.result) (λ _ _. no_description) c.new.ensures.series c.new.ensures.active c.new-2.ensures);
  targets = λ kind name. refl;
}
