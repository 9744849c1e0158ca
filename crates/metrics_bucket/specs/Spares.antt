-- The spare pens of a bucket.
use Rattle.std.specs.Prelude.{◌≡◌, ℕ, ◌+◌, ◌*◌, ◌<◌, Bool, true, false, List, [], All}
use Rattle.std.specs.Arc.{arc_value}
use mathlib.Core.Option.{some}
use lib.ListN.{get_elem?}
use Rattle.atomic_table.specs.Marked.{Post}
use Rattle.metrics_bucket.specs.declared.view.View.{View}
use Rattle.metrics_bucket.specs.declared.view.Hold.TheVariants.{Nothing}
use Rattle.metrics_bucket.specs.declared.spares.Spares.TheInside.{Inside}
use Rattle.metrics_bucket.specs.Account.{Home, Account}
use Rattle.metrics_bucket.specs.BucketState.{holds_as, new_view}

-- a pen of this weight that has done nothing
abbrev pub fresh_account : Home → ℕ → Account
fresh_account home weight = record { home = home; weight = weight; pushed = []; taken = []; read = []; ticket = false; seen = 0; looks = 0; refused = 0 }

-- one of the 128 pens of equal weight
abbrev pub spare_account : Home → Account
spare_account home = fresh_account home 8

-- before the first mark's first step the perch is empty
abbrev pub IsVacantFor : ℕ → List Bool → Type 0
IsVacantFor word views = get_elem? views 0 ≡ some true → word ≡ 0

abbrev pub found_vacant : ℕ → ℕ → Bool → ℕ → Bool → Type 0
found_vacant old new before found after = found ≡ 0

-- what rests here is the seat of a spare pen
pub record IsSpareOf (home : Home) (p : Post View) : Type 0 where
  pub seated : p.table_id ≡ home.table
  pub some_word : 0 < home.table.words
  pub fresh : p.view ≡ holds_as (new_view home.places 8) p.view.epoch p.view.turn Nothing

abbrev pub spares_home : Inside → Home
spares_home s = record { table = (arc_value s.table).shared.table_id; places = s.places }

pub record AreSpares (s : Inside) : Type 0 where
  pub closed : (arc_value s.table).shared.key.1 ≡ false
  pub each : All (IsSpareOf (spares_home s)) s.posts.items

-- some spare pens joined
abbrev pub WithSpares : Account → Account → Type 0
WithSpares a b = (k : ℕ) × (b ≡ record a { weight = a.weight + 8 * k })
