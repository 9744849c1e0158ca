-- What callers see of a pen and of a bucket.
use Rattle.std.specs.Prelude.{◌≡◌, ℕ, ◌+◌, ◌-◌, ◌/◌, ◌<◌, ◌≤◌, Bool, true, false, List, [], ◌∷◌, ◌++◌, length, refl, Option, Some, None}
use Rattle.std.specs.Coded.{Coded, code_by, coded×, coded_ℕ, coded_bool, coded_list}
use Rattle.atomic_table.specs.Seated.{TableId, table_id_coded}
use Rattle.metrics_bucket.specs.declared.view.Push.{Push}
use Rattle.metrics_bucket.specs.declared.view.Walk.{Walk}
use Rattle.metrics_bucket.specs.declared.view.Hold.{Hold}
use Rattle.metrics_bucket.specs.declared.view.Hold.TheVariants.{Nothing, Ticket}
use Rattle.metrics_bucket.specs.BucketState.{push}
use Rattle.metrics_bucket.specs.Facts.{weigh, weigh_pushes, weigh_walks}
use Rattle.metrics_bucket.specs.Places.{Covers}

-- which bucket it is
pub record Home : Type 0 where
  pub table : TableId
  pub places : ℕ

abbrev pub home_code : Coded Home
home_code = code_by (TableId × ℕ) (coded× table_id_coded coded_ℕ) (λ e. (e.table, e.places)) (λ p. record { table = p.0; places = p.1 }) (λ _. refl)

-- A pen's account: what it pushed, the walks that took and those that only read, its weight, and whether it has a ticket. Then
-- the control word that it saw last: twice the number of tickets given, plus the live side. It counts its looks at that word, and
-- its claims that found the turn held
pub record Account : Type 0 where
  pub home : Home
  pub weight : ℕ
  pub pushed : List Push
  pub taken : List Walk
  pub read : List Walk
  pub ticket : Bool
  pub seen : ℕ
  pub looks : ℕ
  pub refused : ℕ

abbrev push_code : Coded Push
push_code = code_by (ℕ × (ℕ × ℕ)) (coded× coded_ℕ (coded× coded_ℕ coded_ℕ)) (λ e. (e.epoch, (e.place, e.value))) (λ p. record { epoch = p.0; place = p.1.0; value = p.1.1 }) (λ _. refl)

abbrev walk_code : Coded Walk
walk_code = code_by (ℕ × List ℕ) (coded× coded_ℕ (coded_list coded_ℕ)) (λ e. (e.epoch, e.values)) (λ p. record { epoch = p.0; values = p.1 }) (λ _. refl)

abbrev pub account_code : Coded Account
account_code =
    code_by (Home × (ℕ × (List Push × (List Walk × (List Walk × (Bool × (ℕ × (ℕ × ℕ))))))))
    (coded× home_code (coded× coded_ℕ (coded× (coded_list push_code) (coded× (coded_list walk_code) (coded× (coded_list walk_code) (coded× coded_bool (coded× coded_ℕ (coded× coded_ℕ coded_ℕ))))))))
    (λ e. (e.home, (e.weight, (e.pushed, (e.taken, (e.read, (e.ticket, (e.seen, (e.looks, e.refused)))))))))
    (λ p. record { home = p.0; weight = p.1.0; pushed = p.1.1.0; taken = p.1.1.1.0; read = p.1.1.1.1.0; ticket = p.1.1.1.1.1.0; seen = p.1.1.1.1.1.1.0; looks = p.1.1.1.1.1.1.1.0; refused = p.1.1.1.1.1.1.1.1 })
    (λ _. refl)

abbrev pub hold_of : Option (ℕ × ℕ) → Hold
hold_of None = Nothing
hold_of (Some t) = Ticket t.0 t.1

abbrev pub has_ticket : Option (ℕ × ℕ) → Bool
has_ticket None = false
has_ticket (Some t) = true

-- a ticket is of a side and below the number of places
abbrev pub TicketFits : Option (ℕ × ℕ) → ℕ → Type 0
TicketFits None places = Unit {0}
TicketFits (Some t) places = (t.0 < 2) × (t.1 < places)

-- the first pen of a bucket
abbrev pub first_account : Home → Account
first_account home = record { home = home; weight = 1024; pushed = []; taken = []; read = []; ticket = false; seen = 0; looks = 0; refused = 0 }

-- the account with or without a ticket
abbrev pub with_ticket : Account → Bool → Account
with_ticket a ticket = record a { ticket = ticket }

-- the account with the control word that was seen last, and how often it looked
abbrev pub looked_at : Account → ℕ → ℕ → Account
looked_at a seen looks = record a { seen = seen; looks = looks }

-- nothing changed but how often it looked, and the control word that it saw last
abbrev pub IsLooked : Account → Account → Type 0
IsLooked old new = (new ≡ looked_at old new.seen new.looks) × (old.looks ≤ new.looks)

-- nothing changed but the control word that it saw last, and it looked at least once more
abbrev pub IsLookedAnew : Account → Account → Type 0
IsLookedAnew old new = IsLooked old new × (old.looks < new.looks)

-- so many claims more found the turn held, and nothing else changed
abbrev pub refused_more : Account → ℕ → Account
refused_more a n = record a { refused = a.refused + n }

-- one claim found the turn held, and nothing else changed
abbrev pub IsBusy : Account → Account → Type 0
IsBusy old new = new ≡ refused_more old 1

abbrev pub with_push : Account → Push → Account
with_push a p = record a { pushed = a.pushed ++ p ∷ []; ticket = false }

-- the account after a push of this value, with no other change but the looks
abbrev pub IsPushed : Account → ℕ → Account → Type 0
IsPushed old x new = (e i : ℕ) × (i < old.home.places) × (new ≡ with_push (looked_at old new.seen new.looks) (push e i x))

abbrev pub left_account : Account → Account
left_account a = record a { weight = a.weight - a.weight / 2 }

abbrev pub right_account : Account → Account
right_account a = record { home = a.home; weight = a.weight / 2; pushed = []; taken = []; read = []; ticket = false; seen = 0; looks = 0; refused = 0 }

abbrev pub joined_account : Account → Account → Account
joined_account a b = record a { weight = a.weight + b.weight; pushed = a.pushed ++ b.pushed; taken = a.taken ++ b.taken; read = a.read ++ b.read }

-- the account with one walk more that took
abbrev pub took_account : Account → Walk → Account
took_account a walk = record a { taken = a.taken ++ walk ∷ [] }

abbrev pub read_account : Account → Walk → Account
read_account a walk = record a { read = a.read ++ walk ∷ [] }

-- what a pen knows of its own pushes after a walk; a whole pen's takes are all takes
abbrev pub Knows : Account → Walk → Type 0
Knows old walk = Covers old.pushed walk × (old.weight ≡ 1024 → walk.epoch ≡ length old.taken)

-- the account after a clear with this list, and no other change
abbrev pub IsTaken : Account → Walk → Account → Type 0
IsTaken old walk new = (new ≡ took_account old walk) × Knows old walk × (old.weight ≡ 1024 → (h : ℕ → ℕ) → weigh_pushes h new.pushed ≡ weigh_walks h new.taken)

-- the account after a reading walk with this list, and no other change; a whole pen's list has all that was pushed and not taken
abbrev pub IsRead : Account → Walk → Account → Type 0
IsRead old walk new = (new ≡ read_account old walk) × Knows old walk × (old.weight ≡ 1024 → (h : ℕ → ℕ) → weigh_pushes h old.pushed ≡ weigh h walk.values + weigh_walks h old.taken)
