use Rattle.std.proofs.Common.{◌∙◌, ◌+◌, get_or, sym, ap}
use Rattle.std.specs.Ordering.{is_lt}
use Rattle.metrics_names.proofs.label.sort_labels.Goals as goal

pub returns : goal.returns
returns c =
    let xs = c.sort_unstable.new.self.items in
    record {
      same = c.sort_unstable.ensures.permutation;
      sorted = λ k d low high. ap is_lt (sym (c.label_order.ensures (get_or xs (k + 1) d) (get_or xs k d))) ∙ c.sort_unstable.ensures.sorted k d low high;
    }
