-- What the accounts of a storm's pens say.
use Rattle.std.specs.Prelude.{◌≡◌, ℕ, ◌+◌, ◌/◌, List, [], ◌∷◌}
use Rattle.metrics_bucket.specs.Account.{Account}
use Rattle.metrics_bucket.specs.Facts.{weigh, weigh_pushes, weigh_walks}
use Rattle.metrics_growing.specs.Parts.{Part}
use Rattle.metrics_growing.specs.Bags.{pushed_by, taken_by}
use Rattle.tool_storm.specs.declared.tally.Tally.{Tally}
use Rattle.tool_storm.specs.Tallies.{Tells}

-- the weight of a pen, and the multisets of what it pushed and took, each by what it weighs
pub record Bags : Type 0 where
  pub weight : ℕ
  pub pushed : (ℕ → ℕ) → ℕ
  pub taken : (ℕ → ℕ) → ℕ

-- those of a pen of a `RuledBucket`
abbrev pub bags_of : Account → Bags
bags_of a = record { weight = a.weight; pushed = λ h. weigh_pushes h a.pushed; taken = λ h. weigh_walks h a.taken }

-- those of a pen of a growing bucket, where no weight is counted
abbrev pub bags_in : List Part → Bags
bags_in ps = record { weight = 0; pushed = λ h. pushed_by h ps; taken = λ h. taken_by h ps }

-- it pushed and took nothing
abbrev pub IsFresh : Bags → Type 0
IsFresh b = (h : ℕ → ℕ) → (b.pushed h ≡ 0) × (b.taken h ≡ 0)

-- the values were pushed, and nothing else changed
abbrev pub HasPushed : Bags → List ℕ → Bags → Type 0
HasPushed old values new = (new.weight ≡ old.weight) × ((h : ℕ → ℕ) → (new.pushed h ≡ old.pushed h + weigh h values) × (new.taken h ≡ old.taken h))

-- values were taken, and nothing else changed
abbrev pub HasTaken : Bags → Bags → Type 0
HasTaken old new = (new.weight ≡ old.weight) × ((h : ℕ → ℕ) → new.pushed h ≡ old.pushed h)

-- one has what both had
abbrev pub IsJoined : Bags → Bags → Bags → Type 0
IsJoined a b one = (one.weight ≡ a.weight + b.weight) × ((h : ℕ → ℕ) → (one.pushed h ≡ a.pushed h + b.pushed h) × (one.taken h ≡ a.taken h + b.taken h))

-- two have what one had, and the second has half of the weight
abbrev pub IsSplit : Bags → Bags → Bags → Type 0
IsSplit one a b = IsJoined a b one × (b.weight ≡ one.weight / 2)

-- the weights of all, added up
abbrev pub weights : {P : Type 0} → (P → Bags) → List P → ℕ
weights bags [] = 0
weights bags (p ∷ more) = (bags p).weight + weights bags more

-- the tally of what was pushed, and of what was taken
abbrev pub TellsPushed : Tally → Bags → Type 0
TellsPushed t b = Tells t (b.pushed (λ _. 1)) (b.pushed (λ x. x))

abbrev pub TellsTaken : Tally → Bags → Type 0
TellsTaken t b = Tells t (b.taken (λ _. 1)) (b.taken (λ x. x))
