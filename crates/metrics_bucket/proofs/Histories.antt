-- Each step keeps the facts, so each history does.
use Rattle.std.proofs.Common.{Bool, true, false, ◌≡◌, ℕ, zero, suc, ◌+◌, ◌*◌, ◌<◌, List, [], ◌∷◌, ◌++◌, get_or, replicate, refl, sym, ap, ◌∙◌, subst, arith}
use mathlib.Core.Option.{some, some-injective, some-ne-none}
use lib.ListN.{get_elem?}
use Rattle.atomic_table.specs.Table.{State}
use Rattle.atomic_table.proofs.Lists.{set_else}
use Rattle.metrics_bucket.specs.declared.view.View.{View}
use Rattle.metrics_bucket.specs.declared.view.Turn.{Turn}
use Rattle.metrics_bucket.specs.declared.view.Hold.{Hold}
use Rattle.metrics_bucket.specs.declared.view.Hold.TheVariants.{Nothing, Ticket, Written, Claimed, SideKnown, Reading, Clearing, Settling}
use Rattle.metrics_bucket.specs.declared.view.Visit.TheVariants.{Unseen, Marked, Read, Wiped}
use Rattle.metrics_bucket.specs.BucketState.{total, BucketState, Act, look, look_to_settle, ticket, write, finish, claim, look_at_turn, look_to_read, look_to_clear, takes, see, read, wipe, leave, quit, split, join, both_parts, place_index, side_of, put_visit, new_view, holding, seeing, finding_held, left_from, state_after}
use Rattle.metrics_bucket.specs.Facts.{ticket_in, owed_in, turn_in, took_in, wiped, weight_of, is_open, HoldFits, Facts}
use Rattle.metrics_bucket.specs.History.{HasVisit, CanLeave, CanQuit, May, Event, Runs, begins, FollowsHistory}
use Rattle.metrics_bucket.proofs.Pushes.{tickets, writes, finishes}
use Rattle.metrics_bucket.proofs.Keep.{facts_beside}
use Rattle.metrics_bucket.proofs.Walks.{claims, surveys, aims, gathers, takes_side, visit_reading, visit_clearing}
use Rattle.metrics_bucket.proofs.Leaving.{wipes, leaves_clear, leaves_read, quits}
use Rattle.metrics_bucket.proofs.Shares.{opens, splits, joins, IsNew}

module _ (places all : ℕ) (w : BucketState) (id : ℕ) (v : View) (f : Facts places all w) (at : get_elem? w.views id ≡ some v) (has : 0 < v.weight) where
  sees : (i : ℕ) (hold : Hold) → v.hold ≡ hold → HasVisit hold i Unseen → get_or w.marks (place_index places (side_of hold) i) 0 ≡ 1 → Facts places all record w { views = Rattle.std.proofs.Common.set w.views id (holding v (put_visit hold i Marked)) }
  sees i (Reading s visits) e c m = visit_reading places all w id v f at has s i visits Unseen Marked e c m
  sees i (Clearing s visits) e c m = visit_clearing places all w id v f at has s i visits Unseen Marked e c refl refl m
  sees i Nothing e c m = absurd c
  sees i (Ticket s j) e c m = absurd c
  sees i (Written s j x) e c m = absurd c
  sees i Claimed e c m = absurd c
  sees i (SideKnown s) e c m = absurd c
  sees i (Settling s xs) e c m = absurd c

  reads : (i : ℕ) (hold : Hold) → v.hold ≡ hold → HasVisit hold i Marked
      → Facts places all record w { views = Rattle.std.proofs.Common.set w.views id (holding v (put_visit hold i (Read (get_or w.values (place_index places (side_of hold) i) 0)))) }
  reads i (Reading s visits) e c =
      let fits : HoldFits places all w v.weight (Reading s visits) = subst (HoldFits places all w v.weight) e (f.each id v at).hold in
      visit_reading places all w id v f at has s i visits Marked (Read (get_or w.values (place_index places s i) 0)) e c (fits.2 i Marked c, refl)
  reads i (Clearing s visits) e c =
      let fits : HoldFits places all w v.weight (Clearing s visits) = subst (HoldFits places all w v.weight) e (f.each id v at).hold in
      visit_clearing places all w id v f at has s i visits Marked (Read (get_or w.values (place_index places s i) 0)) e c refl refl (fits.2 i Marked c, refl)
  reads i Nothing e c = absurd c
  reads i (Ticket s j) e c = absurd c
  reads i (Written s j x) e c = absurd c
  reads i Claimed e c = absurd c
  reads i (SideKnown s) e c = absurd c
  reads i (Settling s xs) e c = absurd c

  leaves : (hold : Hold) → v.hold ≡ hold → CanLeave hold → Facts places all record w { turn = 0; views = Rattle.std.proofs.Common.set w.views id (left_from v hold) }
  leaves (Reading s visits) e c = leaves_read places all w id v f at has s visits e c
  leaves (Clearing s visits) e c = leaves_clear places all w id v f at has s visits e (λ i d there. let t = c i d there in ap is_open t.1)
  leaves Nothing e c = absurd c
  leaves (Ticket s j) e c = absurd c
  leaves (Written s j x) e c = absurd c
  leaves Claimed e c = absurd c
  leaves (SideKnown s) e c = absurd c
  leaves (Settling s xs) e c = absurd c

  quits_any : (hold : Hold) → v.hold ≡ hold → CanQuit hold → Facts places all record w { turn = 0; views = Rattle.std.proofs.Common.set w.views id (holding v Nothing) }
  quits_any Claimed e c = quits places all w id v f at has (ap turn_in e) (λ s i. ap (ticket_in s i) e) (λ s i. ap (owed_in s i) e) (ap took_in e) (λ h. ap (wiped h) e)
  quits_any (SideKnown a) e c = quits places all w id v f at has (ap turn_in e) (λ s i. ap (ticket_in s i) e) (λ s i. ap (owed_in s i) e) (ap took_in e) (λ h. ap (wiped h) e)
  quits_any (Reading a visits) e c = quits places all w id v f at has (ap turn_in e) (λ s i. ap (ticket_in s i) e) (λ s i. ap (owed_in s i) e) (ap took_in e) (λ h. ap (wiped h) e)
  quits_any (Clearing a visits) e c = absurd c
  quits_any Nothing e c = absurd c
  quits_any (Ticket a b) e c = absurd c
  quits_any (Written a b x) e c = absurd c
  quits_any (Settling a xs) e c = absurd c

  same_hold : (views : List View) (hold : Hold) → HoldFits places all w v.weight hold → HoldFits places all record w { views = views } v.weight hold
  same_hold views hold fits = go hold fits
    where
      go : (z : Hold) → HoldFits places all w v.weight z → HoldFits places all record w { views = views } v.weight z
      go Nothing h = tt
      go (Ticket s i) h = h
      go (Written s i x) h = h
      go Claimed h = tt
      go (SideKnown s) h = h
      go (Reading s visits) h = h
      go (Clearing s visits) h = h
      go (Settling s xs) h = h

  pub step_facts : (act : Act) → May places all w id v act → Facts places all (state_after places w id v act)
  step_facts look m =
      let w' : BucketState = state_after places w id v look in
      facts_beside places all w w' id v (seeing v (2 * w.given + w.live)) f at has refl refl refl refl refl refl refl refl (λ s i. refl) refl f.one_turn (λ h. refl) (λ h. omega arith)
      (same_hold w'.views v.hold (f.each id v at).hold) (f.each id v at).reads
  step_facts look_to_settle m = gathers places all w id v f at has m.0 m.1
  step_facts ticket m = tickets places all w id v f at has m.0 m.1
  step_facts (write s i x) m = writes places all w id v f at has s i x m
  step_facts (finish s i x) m = finishes places all w id v f at has s i x m
  step_facts claim m = claims places all w id v f at has m.0 m.1
  step_facts look_at_turn m =
      let w' : BucketState = state_after places w id v look_at_turn in
      facts_beside places all w w' id v (finding_held v) f at has refl refl refl refl refl refl refl refl (λ s i. refl) refl f.one_turn (λ h. refl) (λ h. omega arith)
      (same_hold w'.views v.hold (f.each id v at).hold) (f.each id v at).reads
  step_facts look_to_read m = surveys places all w id v f at has m
  step_facts look_to_clear m = aims places all w id v f at has m
  step_facts takes m = takes_side places all w id v f at has m.0 m.1
  step_facts (see i) m = sees i v.hold refl m.0 m.1
  step_facts (read i) m = reads i v.hold refl m
  step_facts (wipe s i x) m = subst (λ (z : Hold). Facts places all record w { marks = Rattle.std.proofs.Common.set w.marks (place_index places s i) 0; views = Rattle.std.proofs.Common.set w.views id (holding v (put_visit z i (Wiped x))) })
      (sym m.1) (wipes places all w id v f at has s i x m.0 m.1 m.2)
  step_facts leave m = leaves v.hold refl m
  step_facts quit m = quits_any v.hold refl m
  step_facts split m = splits places all w f id v at m.1 m.0
  step_facts (join other_id x) m = joins places all w f id v other_id x at m.2 (set_else w.views id other_id (both_parts v x) m.2 ∙ m.3) has m.0 m.1

pub runs_facts : (places all : ℕ) (w : BucketState) (history : List Event) (w' : BucketState) → Facts places all w → Runs places all w history w' → Facts places all w'
runs_facts places all w [] w' f r = subst (Facts places all) r f
runs_facts places all w (e ∷ es) w' f r = runs_facts places all (state_after places w e.by r.0 e.act) es w' (step_facts places all w e.by r.0 f r.1 r.2 e.act r.3) r.4

pub total_new : (places n : ℕ) → total weight_of (replicate n (new_view places 1)) ≡ n
total_new places zero = refl
total_new places (suc n) = let r = total_new places n in omega arith

pub new_there : (places n j : ℕ) (v : View) → get_elem? (replicate n (new_view places 1)) j ≡ some v → IsNew places v
new_there places zero j v e = absurd (some-ne-none v (sym e))
new_there places (suc n) zero v e = subst (IsNew places) (some-injective _ _ e) (refl, (refl, refl, refl, refl))
new_there places (suc n) (suc j) v e = new_there places n j v e

-- a history that goes on by one step
pub runs_on : (places all : ℕ) (w : BucketState) (history : List Event) (w' : BucketState) (id : ℕ) (v : View) (act : Act) → Runs places all w history w' → get_elem? w'.views id ≡ some v → 0 < v.weight → May places all w' id v act
    → Runs places all w (history ++ record { by = id; act = act } ∷ []) (state_after places w' id v act)
runs_on places all w [] w' id v act r at has may = subst (λ (z : BucketState). Runs places all z (record { by = id; act = act } ∷ []) (state_after places w' id v act)) (sym r) (v, at, has, may, refl)
runs_on places all w (e ∷ es) w' id v act r at has may = (r.0, r.1, r.2, r.3, runs_on places all (state_after places w e.by r.0 e.act) es w' id v act r.4 at has may)

-- one thread that has nothing
pub one_new : (places weight j : ℕ) (v : View) → get_elem? (new_view places weight ∷ []) j ≡ some v → IsNew places v
one_new places weight zero v e = subst (IsNew places) (some-injective _ _ e) (refl, (refl, refl, refl, refl))
one_new places weight (suc j) v e = absurd (some-ne-none v (sym e))

-- the threads at the start of a table's history
abbrev pub first_threads : Bool → ℕ → ℕ → List View
first_threads false places all = new_view places all ∷ []
first_threads true places all = replicate all (new_view places 1)

pub threads_new : (many : Bool) (places all j : ℕ) (v : View) → get_elem? (first_threads many places all) j ≡ some v → IsNew places v
threads_new false places all j v e = one_new places all j v e
threads_new true places all j v e = new_there places all j v e

pub begun_facts : (many : Bool) (places all : ℕ) → Facts places all (begins many places all)
begun_facts false places all = opens places all (first_threads false places all) (omega arith) (threads_new false places all)
begun_facts true places all = opens places all (first_threads true places all) (total_new places all) (threads_new true places all)

-- the facts of a running table
pub facts : (places : ℕ) (many : Bool) (s : State Turn View) (k : FollowsHistory places many s) → Facts places k.2.0 k.1
facts places many s k = runs_facts places k.2.0 (begins many places k.2.0) k.0 k.1 (begun_facts many places k.2.0) k.2.1
