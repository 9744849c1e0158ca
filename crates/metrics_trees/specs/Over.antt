-- Recorders under rules.
use Rattle.std.specs.Prelude.{List, [], ◌∷◌, length, take, drop}
use Rattle.metrics.specs.Meaning.{Meaning}
use Rattle.metrics.specs.Layers.{joined_all}
use Rattle.metrics_trees.specs.Recorders.{spread}
use Rattle.metrics_trees.specs.OverLaws.{below_spread, distinct_spread}

-- recorders under rules have at a name what they have at its targets by the rules. Their books are numbered after one another
abbrev pub over : Meaning → List Meaning → Meaning
over rules all = record {
  contents = (joined_all all).contents;
  targets = λ kind name. spread all kind (rules.targets kind name);
  below = λ kind name. below_spread all kind (rules.targets kind name);
  distinct = λ kind name. distinct_spread all kind (rules.targets kind name) (rules.distinct kind name);
}

-- several rules, each over as many of the recorders as it has leaves
abbrev pub overs : List Meaning → List Meaning → List Meaning
overs [] ms = []
overs (r ∷ rs) ms = over r (take (length r.contents) ms) ∷ overs rs (drop (length r.contents) ms)
