use Rattle.std.proofs.Common.{rules, sym, ◌∙◌}
use Rattle.metrics_journal.proofs.CellsLemmas.{stay-same, stay}
use Rattle.metrics_journal.proofs.steps.create.Goals as goal

pub returns-in-Counter-clause-kept : goal.returns-in-Counter-clause-kept
returns-in-Counter-clause-kept g c = (
  stay g.met.K.Eq.laws (g.S.Storage.makes_counter c.args.storage.now) c.args.key.now c.args.cells.now.counters c.get_or_create_counter.new.self.counters g.K.Clone.is_clone _ _ (λ b v a k. sym k.leaves ∙ (k.met ∙ k.shows)) c.get_or_create_counter.result c.get_or_create_counter.ensures.counters,
  stay-same g.K.PartialEq.eq c.args.cells.now.gauges c.get_or_create_counter.new.self.gauges (search rules),
  stay-same g.K.PartialEq.eq c.args.cells.now.histograms c.get_or_create_counter.new.self.histograms (search rules),
)

pub returns-in-Gauge-clause-kept : goal.returns-in-Gauge-clause-kept
returns-in-Gauge-clause-kept g c = (
  stay-same g.K.PartialEq.eq c.args.cells.now.counters c.get_or_create_gauge.new.self.counters (search rules),
  stay g.met.K.Eq.laws (g.S.Storage.makes_gauge c.args.storage.now) c.args.key.now c.args.cells.now.gauges c.get_or_create_gauge.new.self.gauges g.K.Clone.is_clone _ _ (λ b v a k. sym k.leaves ∙ (k.met ∙ k.shows)) c.get_or_create_gauge.result c.get_or_create_gauge.ensures.gauges,
  stay-same g.K.PartialEq.eq c.args.cells.now.histograms c.get_or_create_gauge.new.self.histograms (search rules),
)

pub returns-in-Histogram-clause-kept : goal.returns-in-Histogram-clause-kept
returns-in-Histogram-clause-kept g c = (
  stay-same g.K.PartialEq.eq c.args.cells.now.counters c.get_or_create_histogram.new.self.counters (search rules),
  stay-same g.K.PartialEq.eq c.args.cells.now.gauges c.get_or_create_histogram.new.self.gauges (search rules),
  stay g.met.K.Eq.laws (g.S.Storage.makes_histogram c.args.storage.now) c.args.key.now c.args.cells.now.histograms c.get_or_create_histogram.new.self.histograms g.K.Clone.is_clone _ _ (λ b v a k. sym k.leaves ∙ (k.met ∙ k.shows)) c.get_or_create_histogram.result c.get_or_create_histogram.ensures.histograms,
)
