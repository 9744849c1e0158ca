-- Threads that enter an open bucket.
use Rattle.std.proofs.Common.{Bool, true, false, ◌≡◌, ℕ, zero, suc, ◌<◌, ◌≤◌, List, [], ◌∷◌, ◌++◌, length, set, replicate, refl, sym, ap, ◌∙◌, subst, arith}
use Rattle.std.proofs.lemmas.Bool.{false≢true}
use mathlib.Core.Logic.{dite}
use mathlib.Core.Option.{some, some-injective, some-ne-none}
use native.Mathlib.Decide.{ℕ_discrete}
use lib.ListN.{get_elem?}
use Rattle.atomic_table.proofs.Lists.{set_else}
use Rattle.metrics_bucket.specs.declared.view.View.{View}
use Rattle.metrics_bucket.specs.declared.view.Hold.{Hold}
use Rattle.metrics_bucket.specs.declared.view.Hold.TheVariants.{Nothing, Ticket, Written, Claimed, SideKnown, Reading, Clearing, Settling}
use Rattle.metrics_bucket.specs.BucketState.{BucketState, walks_of, walks_made, new_view, left_from, Act, look, look_to_settle, ticket, write, finish, claim, look_at_turn, look_to_read, look_to_clear, takes, see, read, wipe, leave, quit, split, join, view_after, state_after}
use Rattle.metrics_bucket.specs.Facts.{weight_of, Facts}
use Rattle.metrics_bucket.specs.History.{May, Event, Runs, start, begins, IsPlain, ArePlain, AreLight, FitsKey}
use Rattle.metrics_bucket.proofs.Sums.{total_one, total_snoc}
use Rattle.metrics_bucket.proofs.Histories.{runs_on}

-- one more thread that has done nothing
abbrev pub more : ℕ → BucketState → BucketState
more places w = record w { views = w.views ++ new_view places 1 ∷ [] }

abbrev with_views : BucketState → List View → BucketState
with_views w views = record w { views = views }

set_before : (xs ys : List View) (k : ℕ) (x v : View) → get_elem? xs k ≡ some v → set (xs ++ ys) k x ≡ set xs k x ++ ys
set_before [] ys k x v e = absurd (some-ne-none v (sym e))
set_before (y ∷ xs) ys zero x v e = refl
set_before (y ∷ xs) ys (suc k) x v e = ap (λ (z : List View). y ∷ z) (set_before xs ys k x v e)

get_before : (xs ys : List View) (k : ℕ) (v : View) → get_elem? xs k ≡ some v → get_elem? (xs ++ ys) k ≡ some v
get_before [] ys k v e = absurd (some-ne-none v (sym e))
get_before (y ∷ xs) ys zero v e = e
get_before (y ∷ xs) ys (suc k) v e = get_before xs ys k v e

pub get_last : (xs : List View) (x : View) → get_elem? (xs ++ x ∷ []) (length xs) ≡ some x
get_last [] x = refl
get_last (y ∷ xs) x = get_last xs x

pub set_last : (xs : List View) (x y : View) → set (xs ++ x ∷ []) (length xs) y ≡ xs ++ y ∷ []
set_last [] x y = refl
set_last (z ∷ xs) x y = ap (λ (l : List View). z ∷ l) (set_last xs x y)

pub more_made : (places : ℕ) (w : BucketState) → walks_made (more places w) ≡ walks_made w
more_made places w = let t = total_snoc walks_of w.views (new_view places 1) in omega arith

left_weight : (v : View) (hold : Hold) → (left_from v hold).weight ≡ v.weight
left_weight v (Reading s visits) = refl
left_weight v (Clearing s visits) = refl
left_weight v Nothing = refl
left_weight v (Ticket s i) = refl
left_weight v (Written s i x) = refl
left_weight v Claimed = refl
left_weight v (SideKnown s) = refl
left_weight v (Settling s xs) = refl

module _ (places : ℕ) (w : BucketState) (by : ℕ) (v : View) (at : get_elem? w.views by ≡ some v) where
  light_set : (u : View) → u.weight ≡ v.weight → AreLight w.views → AreLight (set w.views by u)
  light_set u same light j x there = dite (ℕ_discrete j by)
      (λ here. let is : u ≡ x = some-injective u x (sym (at_here w.views by v u at) ∙ (ap (λ (n : ℕ). get_elem? (set w.views by u) n) (sym here) ∙ there)) in ap (λ (z : View). z.weight) (sym is) ∙ (same ∙ light by v at))
      (λ else. light j x (sym (set_else w.views by j u else) ∙ there))
    where
      at_here : (xs : List View) (k : ℕ) (a b : View) → get_elem? xs k ≡ some a → get_elem? (set xs k b) k ≡ some b
      at_here [] k a b e = absurd (some-ne-none a (sym e))
      at_here (y ∷ xs) zero a b e = refl
      at_here (y ∷ xs) (suc k) a b e = at_here xs k a b e

  pub light_after : (act : Act) → IsPlain act → AreLight w.views → AreLight (state_after places w by v act).views
  light_after look p l = light_set (view_after places w v look) refl l
  light_after ticket p l = light_set (view_after places w v ticket) refl l
  light_after (write s i x) p l = light_set (view_after places w v (write s i x)) refl l
  light_after (finish s i x) p l = light_set (view_after places w v (finish s i x)) refl l
  light_after claim p l = light_set (view_after places w v claim) refl l
  light_after look_at_turn p l = light_set (view_after places w v look_at_turn) refl l
  light_after look_to_read p l = light_set (view_after places w v look_to_read) refl l
  light_after look_to_clear p l = light_set (view_after places w v look_to_clear) refl l
  light_after takes p l = light_set (view_after places w v takes) refl l
  light_after (see i) p l = light_set (view_after places w v (see i)) refl l
  light_after (read i) p l = light_set (view_after places w v (read i)) refl l
  light_after (wipe s i x) p l = light_set (view_after places w v (wipe s i x)) refl l
  light_after leave p l = light_set (view_after places w v leave) (left_weight v v.hold) l
  light_after quit p l = light_set (view_after places w v quit) refl l
  light_after look_to_settle p l = absurd p
  light_after split p l = absurd p
  light_after (join other_id x) p l = absurd p

  pub may_more : (all : ℕ) (act : Act) → IsPlain act → May places all w by v act → May places (suc all) (more places w) by v act
  may_more all look p m = m
  may_more all ticket p m = m
  may_more all (write s i x) p m = m
  may_more all (finish s i x) p m = m
  may_more all claim p m = m
  may_more all look_at_turn p m = m
  may_more all look_to_read p m = m
  may_more all look_to_clear p m = m
  may_more all takes p m = m
  may_more all (see i) p m = m
  may_more all (read i) p m = m
  may_more all (wipe s i x) p m = m
  may_more all leave p m = m
  may_more all quit p m = m
  may_more all look_to_settle p m = absurd p
  may_more all split p m = absurd p
  may_more all (join other_id x) p m = absurd p

  before : (act : Act) → set (w.views ++ new_view places 1 ∷ []) by (view_after places w v act) ≡ set w.views by (view_after places w v act) ++ new_view places 1 ∷ []
  before act = set_before w.views (new_view places 1 ∷ []) by (view_after places w v act) v at

  -- a plain step is the same with one more thread
  pub step_more : (act : Act) → IsPlain act → state_after places (more places w) by v act ≡ more places (state_after places w by v act)
  step_more look p = ap (with_views (state_after places w by v look)) (before look)
  step_more ticket p = ap (with_views (state_after places w by v ticket)) (before ticket)
  step_more (write s i x) p = ap (with_views (state_after places w by v (write s i x))) (before (write s i x))
  step_more (finish s i x) p = ap (with_views (state_after places w by v (finish s i x))) (before (finish s i x))
  step_more claim p = ap (with_views (state_after places w by v claim)) ((λ k. set (w.views ++ new_view places 1 ∷ []) by (Rattle.metrics_bucket.specs.BucketState.claiming v (more_made places w k))) ∙ before claim)
  step_more look_at_turn p = ap (with_views (state_after places w by v look_at_turn)) (before look_at_turn)
  step_more look_to_read p = ap (with_views (state_after places w by v look_to_read)) (before look_to_read)
  step_more look_to_clear p = ap (with_views (state_after places w by v look_to_clear)) (before look_to_clear)
  step_more takes p = ap (with_views (state_after places w by v takes)) (before takes)
  step_more (see i) p = ap (with_views (state_after places w by v (see i))) (before (see i))
  step_more (read i) p = ap (with_views (state_after places w by v (read i))) (before (read i))
  step_more (wipe s i x) p = ap (with_views (state_after places w by v (wipe s i x))) (before (wipe s i x))
  step_more leave p = ap (with_views (state_after places w by v leave)) (before leave)
  step_more quit p = ap (with_views (state_after places w by v quit)) (before quit)
  step_more look_to_settle p = absurd p
  step_more split p = absurd p
  step_more (join other_id x) p = absurd p

-- so is a history of plain steps
pub runs_more : (places all : ℕ) (w : BucketState) (h : List Event) (w' : BucketState) → ArePlain h → Runs places all w h w' → Runs places (suc all) (more places w) h (more places w')
runs_more places all w [] w' p r = ap (more places) r
runs_more places all w (e ∷ es) w' p r = (
  r.0,
  get_before w.views (new_view places 1 ∷ []) e.by r.0 r.1,
  r.2,
  may_more places w e.by r.0 r.1 all e.act p.0 r.3,
  subst (λ (z : BucketState). Runs places (suc all) z es (more places w')) (sym (step_more places w e.by r.0 r.1 e.act p.0))
      (runs_more places all (state_after places w e.by r.0 e.act) es w' p.1 r.4),
)

start_views : (places n : ℕ) → replicate n (new_view places 1) ++ new_view places 1 ∷ [] ≡ replicate (suc n) (new_view places 1)
start_views places zero = refl
start_views places (suc n) = ap (λ (l : List View). new_view places 1 ∷ l) (start_views places n)

pub start_more : (places n : ℕ) → more places (start places n) ≡ start places (suc n)
start_more places n = ap (with_views (start places n)) (start_views places n)

pub light_more : (places : ℕ) (views : List View) → AreLight views → AreLight (views ++ new_view places 1 ∷ [])
light_more places [] light zero v e = ap (λ (z : View). z.weight) (sym (some-injective _ v e))
light_more places [] light (suc j) v e = absurd (some-ne-none v (sym e))
light_more places (x ∷ xs) light zero v e = light 0 v e
light_more places (x ∷ xs) light (suc j) v e = light_more places xs (λ i u there. light (suc i) u there) j v e

pub plain_on : (h : List Event) (e : Event) → ArePlain h → IsPlain e.act → ArePlain (h ++ e ∷ [])
plain_on [] e p q = (q, tt)
plain_on (x ∷ xs) e p q = (p.0, plain_on xs e p.1 q)

-- what each step keeps of a table's start
abbrev pub Ran : ℕ → Bool → List Event → BucketState → Type 0
Ran places many h w = (all : ℕ) × Runs places all (begins many places all) h w × FitsKey many all h w

fits_on : (places : ℕ) (many : Bool) (all : ℕ) (h : List Event) (w : BucketState) (id : ℕ) (v : View) (act : Act) → FitsKey many all h w → get_elem? w.views id ≡ some v → (many ≡ true → IsPlain act)
    → FitsKey many all (h ++ record { by = id; act = act } ∷ []) (state_after places w id v act)
fits_on places false all h w id v act f at plain = f
fits_on places true all h w id v act f at plain = (plain_on h record { by = id; act = act } f.0 (plain refl), light_after places w id v at act (plain refl) f.1)

pub ran_on : (places : ℕ) (many : Bool) (h : List Event) (w : BucketState) (id : ℕ) (v : View) (act : Act) (r : Ran places many h w) → get_elem? w.views id ≡ some v → 0 < v.weight → May places r.0 w id v act → (many ≡ true → IsPlain act)
    → Ran places many (h ++ record { by = id; act = act } ∷ []) (state_after places w id v act)
ran_on places many h w id v act r at has may plain =
    (r.0, runs_on places r.0 (begins many places r.0) h w id v act r.1 at has may, fits_on places many r.0 h w id v act r.2 at plain)

-- only a thread of a closed bucket has the weight 1024, and it has the whole
pub whole_all : (many : Bool) (all : ℕ) (h : List Event) (w : BucketState) (id : ℕ) (v : View) → FitsKey many all h w → get_elem? w.views id ≡ some v → v.weight ≡ 1024 → v.weight ≡ all
whole_all false all h w id v f at whole = whole ∙ sym f
whole_all true all h w id v f at whole = let one = f.1 id v at in absurd (omega arith)

pub whole_closed : (many : Bool) (all : ℕ) (h : List Event) (w : BucketState) (id : ℕ) (v : View) → FitsKey many all h w → get_elem? w.views id ≡ some v → v.weight ≡ 1024 → many ≡ true → ⊥
whole_closed false all h w id v f at whole e = false≢true e
whole_closed true all h w id v f at whole e = let one = f.1 id v at in omega arith

pub most_weight : (places : ℕ) (many : Bool) (all : ℕ) (h : List Event) (w : BucketState) (id : ℕ) (v : View) → FitsKey many all h w → Facts places all w → get_elem? w.views id ≡ some v → v.weight ≤ 1024
most_weight places false all h w id v f facts at = let a = total_one weight_of w.views id v at in let b = facts.shares in let c : all ≡ 1024 = f in omega arith
most_weight places true all h w id v f facts at = let one = f.1 id v at in omega arith
