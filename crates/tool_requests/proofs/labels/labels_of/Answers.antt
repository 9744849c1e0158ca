use Rattle.std.proofs.Common.{◌≡◌, ℕ, Bool, false, eqb, ◌<◌, sym, subst, ◌∙◌, arith}
use Rattle.std.proofs.lemmas.Bool.{eqb-true}
use Rattle.std.proofs.lemmas.List.{nil_from_length}
use Rattle.std.specs.List.Sorted.{IsSorted}
use Rattle.metrics_names.specs.Names.{label_cmp}
use Rattle.tool_requests.proofs.PlaceLemmas.{placed-sorted}
use Rattle.tool_requests.proofs.LabelLemmas.{labels-more, labels-end, labels-fail}
use Rattle.tool_requests.proofs.WordLemmas.{passed-on}
use Rattle.tool_requests.proofs.labels.labels_of.Goals as goal

positive : (n : ℕ) (b : Bool) → b ≡ eqb n 0 → b ≡ false → 0 < n
positive n b e f = grind arith

pub returns-in_err-rest-clause-words : goal.returns-in_err-rest-clause-words
returns-in_err-rest-clause-words c =
    passed-on _ c.from_residual-in_err-rest.result c.in_err-rest.field-0.0 c.from_residual-in_err-rest.ensures.1
    (labels-fail _ _ _ c.loop-rest.invariant.read (positive _ _ c.is_empty.ensures c.loop-rest-test.true)) c.in_err-rest.ensures

pub loop-rest-preserved : goal.loop-rest-preserved
loop-rest-preserved c =
    let (w, written, lacks, room, puts, at, starts) = c.in_ok-rest.ensures in
    record {
      read = rw puts (labels-more _ _ _ _ w c.loop-rest.invariant.read written lacks room at starts);
      sorted = subst (IsSorted label_cmp) (sym puts) (placed-sorted (w.key, w.value) c.loop-rest.labels.items c.loop-rest.invariant.sorted);
    }

pub returns-clause-words : goal.returns-clause-words
returns-clause-words c = labels-end _ _ _ c.loop-rest.invariant.read (nil_from_length _ (eqb-true _ 0 (sym c.is_empty.ensures ∙ c.loop-rest-test.false)))
