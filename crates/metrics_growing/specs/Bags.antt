-- The multisets of all segments that a pen knows.
use Rattle.std.specs.Prelude.{◌≡◌, ℕ, ◌+◌, List, [], ◌∷◌, length, map, All}
use Rattle.metrics_bucket.specs.declared.view.Walk.{Walk}
use Rattle.metrics_bucket.specs.Facts.{weigh, weigh_pushes, weigh_walks}
use Rattle.metrics_growing.specs.Parts.{Part, IsWhole, Gathered, Took, all_blocks}

-- a number of each part, added up
abbrev pub sum_of : (Part → ℕ) → List Part → ℕ
sum_of f [] = 0
sum_of f (p ∷ ps) = f p + sum_of f ps

-- the weights of the values that were pushed
abbrev pub pushed_in : (ℕ → ℕ) → Part → ℕ
pushed_in h p = weigh_pushes h p.account.pushed

abbrev pub pushed_by : (ℕ → ℕ) → List Part → ℕ
pushed_by h ps = sum_of (pushed_in h) ps

-- and of those that were taken
abbrev pub taken_in : (ℕ → ℕ) → Part → ℕ
taken_in h p = weigh_walks h p.account.taken

abbrev pub taken_by : (ℕ → ℕ) → List Part → ℕ
taken_by h ps = sum_of (taken_in h) ps

abbrev pub places_in : Part → ℕ
places_in p = p.account.home.places

abbrev pub weight_in : Part → ℕ
weight_in p = p.account.weight

-- the weight of the first segment's pen
abbrev pub first_weight : List Part → ℕ
first_weight [] = 0
first_weight (p ∷ ps) = p.account.weight

-- the values pushed in this segment are, as a multiset, those taken from it
abbrev pub IsBalanced : Part → Type 0
IsBalanced p = (h : ℕ → ℕ) → pushed_in h p ≡ taken_in h p

-- the values that were taken at last, with those taken before, are the multiset of what was pushed
pub record Settled {T : Type 0} (value : ℕ → T) (old new : List Part) (given : List T) : Type 0 where
  pub parts : List Part
  pub walks : List Walk
  pub gathered : Gathered old parts
  pub one_a_part : length walks ≡ length parts
  pub took : Took parts walks new
  pub values : given ≡ map value (all_blocks walks)
  pub whole : All IsWhole new
  pub balanced : All IsBalanced new
  pub nothing_lost : (h : ℕ → ℕ) → pushed_by h old ≡ taken_by h old + weigh h (all_blocks walks)
