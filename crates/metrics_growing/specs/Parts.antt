-- What callers see of a growing bucket's pen: a part for each segment that it knows, in the order of the links.
use Rattle.std.specs.Prelude.{◌≡◌, ◌⊎◌, ◌<◌, ◌≤◌, ◌/◌, ℕ, zero, suc, List, [], ◌∷◌, ◌++◌, length, take, map, slice_set, slice_index_or, All, refl}
use Rattle.std.specs.Coded.{Coded, code_by, coded×, coded_ℕ}
use Rattle.metrics.specs.Book.{blocks}
use Rattle.metrics_bucket.specs.declared.view.Walk.{Walk}
use Rattle.metrics_bucket.specs.Account.{Home, Account, account_code, left_account, right_account, joined_account, refused_more, IsLooked, IsLookedAnew, IsBusy, IsPushed, IsTaken}
use Rattle.metrics_bucket.specs.Blocks.{newest_first}
use Rattle.metrics_bucket.specs.Steps.{IsFullFor}
use Rattle.metrics_bucket.specs.Spares.{spare_account, WithSpares}

-- the link by which the segment is found, and the account of the pen that is used there
pub record Part : Type 0 where
  pub link : ℕ
  pub account : Account

abbrev pub part_code : Coded Part
part_code = code_by (ℕ × Account) (coded× coded_ℕ account_code) (λ p. (p.link, p.account)) (λ p. record { link = p.0; account = p.1 }) (λ _. refl)

abbrev pub link_of : Part → ℕ
link_of p = p.link

abbrev pub home_of : Part → Home
home_of p = p.account.home

-- the parts are of the first of these links, in their order
abbrev pub IsOf : List ℕ → List Part → Type 0
IsOf links ps = map link_of ps ≡ take (length ps) links

-- both pens are of one bucket
abbrev pub AreOfOne : List Part → List Part → Type 0
AreOfOne ps qs = (links : List ℕ) × IsOf links ps × IsOf links qs

-- a part that has done nothing, and has the weight of a spare pen
abbrev pub IsNew : Part → Type 0
IsNew p = p.account ≡ spare_account p.account.home

-- nothing is done, but that more segments may be known
abbrev pub Keeps : List Part → List Part → Type 0
Keeps ps qs = (more : List Part) × (qs ≡ ps ++ more) × All IsNew more

-- there is no other pen of this segment
abbrev pub IsWhole : Part → Type 0
IsWhole p = p.account.weight ≡ 1024

-- all places of the live side are given, by what a whole pen did
abbrev pub IsFilled : Part → Type 0
IsFilled p = IsFullFor p.account.home.places p.account.pushed p.account.taken

-- a push may go on after this part: the word that its pen saw has all places given, and if the pen is whole, its segment is
-- full
abbrev pub IsPassed : Part → Type 0
IsPassed p = (p.account.home.places ≤ p.account.seen / 2) × (IsWhole p → IsFilled p)

-- the pen may have looked at the control word there, and nothing else changed
abbrev pub LookedIn : Part → Part → Type 0
LookedIn p q = (q.link ≡ p.link) × IsLooked p.account q.account

-- the pen looked at the control word there at least once more, and nothing else changed
abbrev pub LookedAnewIn : Part → Part → Type 0
LookedAnewIn p q = (q.link ≡ p.link) × IsLookedAnew p.account q.account

-- the pen looked there anew, and may go on
abbrev pub PassedIn : Part → Part → Type 0
PassedIn p q = LookedAnewIn p q × IsPassed q

-- a part that has done nothing but look, and has the weight of a spare pen
abbrev pub HasOnlyLooked : Part → Type 0
HasOnlyLooked p = IsLooked (spare_account p.account.home) p.account

-- nothing is done but looks, and more segments may be known
abbrev pub OnlyLooks : List Part → List Part → Type 0
OnlyLooks [] qs = All HasOnlyLooked qs
OnlyLooks (p ∷ ps) [] = ⊥
OnlyLooks (p ∷ ps) (q ∷ qs) = LookedIn p q × OnlyLooks ps qs

-- a part that is met is passed: the pen has looked there since, and may go on
abbrev pub IsMetAndPassed : Part → Type 0
IsMetAndPassed p = HasOnlyLooked p × IsPassed p

-- all parts are passed, also those of segments that are met
abbrev pub PassedAll : List Part → List Part → Type 0
PassedAll [] qs = All IsMetAndPassed qs
PassedAll (p ∷ ps) [] = ⊥
PassedAll (p ∷ ps) (q ∷ qs) = PassedIn p q × PassedAll ps qs

-- one part changed so, those before it are passed, and the others stayed
abbrev pub OneOf : (Part → Part → Type 0) → List Part → List Part → Type 0
OneOf R [] qs = ⊥
OneOf R (p ∷ ps) [] = ⊥
OneOf R (p ∷ ps) (q ∷ qs) = (R p q × (ps ≡ qs)) ⊎ (PassedIn p q × OneOf R ps qs)

-- all parts are passed, and the last of those that the pen came to know changed so
abbrev pub LastMet : (Part → Part → Type 0) → List Part → List Part → Type 0
LastMet R ps rs = (qs : List Part) × (p q : Part) × PassedAll ps qs × IsNew p × R p q × (rs ≡ qs ++ q ∷ [])

-- a part that was known changed so, and no segment is met, or the last one that is met did
abbrev pub FirstOf : (Part → Part → Type 0) → List Part → List Part → Type 0
FirstOf R ps rs = OneOf R ps rs ⊎ LastMet R ps rs

-- each part changed so
abbrev pub EachOf : (Part → Part → Type 0) → List Part → List Part → Type 0
EachOf R [] [] = Unit {0}
EachOf R (p ∷ ps) (q ∷ qs) = R p q × EachOf R ps qs
EachOf R _ _ = ⊥

-- the value was pushed there, and nothing else changed
abbrev pub PushedIn : ℕ → Part → Part → Type 0
PushedIn x p q = (q.link ≡ p.link) × IsPushed p.account x q.account

-- a clear took this walk's values there, and nothing else changed
abbrev pub TakenIn : Walk → Part → Part → Type 0
TakenIn walk p q = (q.link ≡ p.link) × IsTaken p.account walk q.account

-- a claim found the turn held there, and nothing else changed
abbrev pub HeldIn : Part → Part → Type 0
HeldIn p q = (q.link ≡ p.link) × IsBusy p.account q.account

-- some claims, or none, found the turn held there, and nothing else changed
abbrev pub WaitedIn : Part → Part → Type 0
WaitedIn p q = (q.link ≡ p.link) × (n : ℕ) × (q.account ≡ refused_more p.account n)

-- a clear took this walk's values there, after some claims that found the turn held, or none
abbrev pub WaitedAndTakenIn : Walk → Part → Part → Type 0
WaitedAndTakenIn walk p q = (w : Part) × WaitedIn p w × TakenIn walk w q

-- spare pens were joined there, and nothing else changed
abbrev pub SpareIn : Part → Part → Type 0
SpareIn p q = (q.link ≡ p.link) × WithSpares p.account q.account

-- a ticket was lost to another pen there: the pen looked anew, and saw a free place, and nothing else changed
abbrev pub LostIn : Part → Part → Type 0
LostIn p q = (IsWhole p → ⊥) × LookedAnewIn p q × (q.account.seen / 2 < q.account.home.places)

-- the value is pushed in the first segment that isn't passed, and nothing else is done
abbrev pub Pushed : ℕ → List Part → List Part → Type 0
Pushed x ps rs = FirstOf (PushedIn x) ps rs

-- a ticket was lost in the first segment that isn't passed, and nothing else is done
abbrev pub LosesRace : List Part → List Part → Type 0
LosesRace ps rs = FirstOf LostIn ps rs

-- so many tries, each of which lost a ticket
abbrev pub LosesRaces : ℕ → List Part → List Part → Type 0
LosesRaces zero ps rs = rs ≡ ps
LosesRaces (suc n) ps rs = (qs : List Part) × LosesRaces n ps qs × LosesRace qs rs

-- the value is pushed, after some tries that lost a ticket or none
abbrev pub PushedByTries : ℕ → List Part → List Part → Type 0
PushedByTries x ps rs = (n : ℕ) × (qs : List Part) × LosesRaces n ps qs × Pushed x qs rs

-- one of these walks was taken in each part, from the first on, until the walks end; the parts after them stayed
abbrev pub Took : List Part → List Walk → List Part → Type 0
Took ps [] rs = ps ≡ rs
Took (p ∷ ps) (walk ∷ walks) (r ∷ rs) = WaitedAndTakenIn walk p r × Took ps walks rs
Took _ _ _ = ⊥

-- a walk was taken in each part, and nothing else is done
abbrev pub TookAll : List Part → List Walk → List Part → Type 0
TookAll ps walks rs = (qs : List Part) × Keeps ps qs × (length walks ≡ length qs) × Took qs walks rs

-- one claim found the turn of the first segment held, and nothing else is done
abbrev pub FirstHeld : List Part → List Part → Type 0
FirstHeld [] qs = ⊥
FirstHeld (p ∷ ps) [] = ⊥
FirstHeld (p ∷ ps) (q ∷ qs) = HeldIn p q × (qs ≡ ps)

-- more segments may be known; then one claim found the turn of the first segment held, and nothing else is done
abbrev pub FoundHeld : List Part → List Part → Type 0
FoundHeld ps rs = (qs : List Part) × Keeps ps qs × FirstHeld qs rs

-- nothing is done, but that more segments may be known, and that spare pens were joined
abbrev pub Gathered : List Part → List Part → Type 0
Gathered ps rs = (qs : List Part) × Keeps ps qs × EachOf SpareIn qs rs

-- the chunks of all walks, each walk's newest chunk first
abbrev pub all_chunks : List Walk → List (List ℕ)
all_chunks [] = []
all_chunks (walk ∷ walks) = newest_first walk.values ++ all_chunks walks

-- the values of all walks, each walk's in the bucket's order
abbrev pub all_blocks : List Walk → List ℕ
all_blocks [] = []
all_blocks (walk ∷ walks) = blocks walk.values ++ all_blocks walks

abbrev pub left_part : Part → Part
left_part p = record { link = p.link; account = left_account p.account }

abbrev pub right_part : Part → Part
right_part p = record { link = p.link; account = right_account p.account }

-- half of the first part's weight is given away, and of no other
abbrev pub left_parts : List Part → List Part
left_parts [] = []
left_parts (p ∷ ps) = left_part p ∷ ps

abbrev pub right_parts : List Part → List Part
right_parts [] = []
right_parts (p ∷ ps) = right_part p ∷ []

abbrev pub joined_part : Part → Part → Part
joined_part p q = record { link = p.link; account = joined_account p.account q.account }

-- what both know is joined, segment by segment
abbrev pub joined_parts : List Part → List Part → List Part
joined_parts [] qs = qs
joined_parts (p ∷ ps) [] = p ∷ ps
joined_parts (p ∷ ps) (q ∷ qs) = joined_part p q ∷ joined_parts ps qs

-- what part number `at` became; p and q are that part before and after
abbrev pub ChangedAt : (Part → Part → Type 0) → ℕ → List Part → List Part → Type 0
ChangedAt R at ps qs = (p q : Part) × (p ≡ slice_index_or ps at p) × R p q × (qs ≡ slice_set ps at q)

-- one more segment is known
abbrev pub MetOne : List Part → List Part → Type 0
MetOne ps qs = (p : Part) × (qs ≡ ps ++ p ∷ []) × IsNew p

-- part number `at` was known, and no segment is met, or it is the one that is met
abbrev pub Reached : ℕ → List Part → List Part → Type 0
Reached at ps qs = ((at < length ps) × (qs ≡ ps)) ⊎ ((at ≡ length ps) × MetOne ps qs)
