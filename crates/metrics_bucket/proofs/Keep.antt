-- Which facts of the others one step keeps, and which are left to show.
use Rattle.std.proofs.Common.{◌≡◌, ◌≢◌, ℕ, zero, suc, ◌+◌, ◌<◌, ◌≤◌, ◌%◌, List, [], ◌∷◌, length, get_or, set, refl, sym, ap, ◌∙◌, subst, ⊎_elim, arith, eq-eqb, ne_eqb}
use mathlib.Core.Logic.{dite}
use mathlib.Core.Option.{some, some-ne-none}
use native.Mathlib.Decide.{ℕ_discrete}
use lib.ListN.{get_elem?}
use Rattle.atomic_table.proofs.Lists.{at_set}
use Rattle.metrics_bucket.specs.declared.view.Walk.{Walk}
use Rattle.metrics_bucket.specs.declared.view.View.{View}
use Rattle.metrics_bucket.specs.declared.view.Hold.{Hold}
use Rattle.metrics_bucket.specs.declared.view.Hold.TheVariants.{Nothing, Ticket, Written, Claimed, SideKnown, Reading, Clearing, Settling}
use Rattle.metrics_bucket.specs.declared.view.Visit.{Visit}
use Rattle.metrics_bucket.specs.declared.view.Visit.TheVariants.{Unseen, Marked, Read, Wiped}
use Rattle.metrics_bucket.specs.BucketState.{total, BucketState, other, place_index, holding}
use Rattle.metrics_bucket.specs.Facts.{weigh, stands, given_at, ticket_in, ticket_at, open_at, is_open, owed_in, owed_at, turn_in, turn_of, took_of, weight_of, pushed_of, taken_of, VisitFits, HoldFits, ViewFits, Facts}
use Rattle.metrics_bucket.proofs.Sums.{total_set, total_one, total_two, total_zero, total_le, same_here, given_le, given_else}

pub at_below : {A : Type 0} (l : List A) (i : ℕ) (a : A) → get_elem? l i ≡ some a → i < length l
at_below [] i a e = absurd (some-ne-none a (sym e))
at_below (x ∷ xs) zero a e = omega arith
at_below (x ∷ xs) (suc i) a e = let r = at_below xs i a e in omega arith

pub other_side : (s : ℕ) → s < 2 → (other s < 2) × (s ≢ other s) × (other (other s) ≡ s)
other_side zero l = (omega arith, (λ e. omega arith), refl)
other_side (suc zero) l = (omega arith, (λ e. omega arith), refl)
other_side (suc (suc s)) l = absurd (omega arith)

open_le : (c : Visit) → is_open c ≤ 1
open_le Unseen = omega arith
open_le Marked = omega arith
open_le (Read x) = omega arith
open_le (Wiped x) = omega arith

pub open_at_le : (visits : List Visit) (i : ℕ) → open_at visits i ≤ 1
open_at_le [] i = omega arith
open_at_le (c ∷ cs) zero = open_le c
open_at_le (c ∷ cs) (suc i) = open_at_le cs i

pub owed_le : (s i : ℕ) (hold : Hold) → owed_in s i hold ≤ turn_in hold
owed_le s i Nothing = omega arith
owed_le s i (Ticket a b) = omega arith
owed_le s i (Written a b x) = omega arith
owed_le s i Claimed = omega arith
owed_le s i (SideKnown a) = omega arith
owed_le s i (Reading a visits) = omega arith
owed_le s i (Clearing a visits) = dite (ℕ_discrete s a) (λ e. rw (eq-eqb s a e) (open_at_le visits i)) (λ n. rw (ne_eqb s a n) (omega arith))
owed_le s i (Settling a xs) = omega arith

-- no clear owes a place of the live side
owed_live : (places all : ℕ) (w : BucketState) (weight s i : ℕ) (hold : Hold) → w.live < 2 → s ≡ w.live → HoldFits places all w weight hold → owed_in s i hold ≡ 0
owed_live p all w weight s i Nothing l e h = refl
owed_live p all w weight s i (Ticket a b) l e h = refl
owed_live p all w weight s i (Written a b x) l e h = refl
owed_live p all w weight s i Claimed l e h = refl
owed_live p all w weight s i (SideKnown a) l e h = refl
owed_live p all w weight s i (Reading a visits) l e h = refl
owed_live p all w weight s i (Clearing a visits) l e h = rw (ne_eqb s a (λ z. (other_side w.live l).1 (sym e ∙ (z ∙ h.0)))) refl
owed_live p all w weight s i (Settling a xs) l e h = refl

module _ (places all : ℕ) (w : BucketState) (f : Facts places all w) where
  pub owed_total : (s i : ℕ) → total (owed_at s i) w.views ≤ 1
  owed_total s i = let a = total_le (owed_at s i) turn_of w.views (λ v. owed_le s i v.hold) in let b = f.turns in let c = f.one_turn in omega arith

  pub owed_none : (s i : ℕ) → s ≡ w.live → total (owed_at s i) w.views ≡ 0
  owed_none s i e = total_zero (owed_at s i) w.views (λ j v at. owed_live places all w v.weight s i v.hold f.side e (f.each j v at).hold)

  -- at most one mark or ticket is at a place
  pub due_le : (s i : ℕ) → given_at w.live w.given s i + total (owed_at s i) w.views ≤ 1
  due_le s i = dite (ℕ_discrete s w.live)
      (λ e. let a = owed_none s i e in let b = given_le w.live w.given s i in omega arith)
      (λ n. let a = owed_total s i in let b = given_else w.live w.given s i n in omega arith)

  -- where a thread has a ticket there is no mark and no other ticket
  pub alone : (id : ℕ) (v : View) (s i : ℕ) → get_elem? w.views id ≡ some v → s < 2 → i < places → ticket_in s i v.hold ≡ 1
      → (get_or w.marks (place_index places s i) 0 ≡ 0) × ((j : ℕ) (u : View) → j ≢ id → get_elem? w.views j ≡ some u → ticket_in s i u.hold ≡ 0)
  alone id v s i at a b mine = let e = f.even s i a b in let d = due_le s i in let o = total_one (ticket_at s i) w.views id v at in (
    omega arith,
    λ j u n there. let t = total_two (ticket_at s i) w.views id j v u (λ z. n (sym z)) at there in omega arith,
  )

  -- no other thread has the whole weight
  pub others : (id : ℕ) (v : View) → get_elem? w.views id ≡ some v → 0 < v.weight → (j : ℕ) (u : View) → j ≢ id → get_elem? w.views j ≡ some u → u.weight ≢ all
  others id v at some_weight j u n there e = let t = total_two weight_of w.views id j v u (λ z. n (sym z)) at there in let s = f.shares in omega arith

  -- where a thread has the turn, no other has
  pub turn_alone : (id : ℕ) (v : View) → get_elem? w.views id ≡ some v → turn_in v.hold ≡ 1 → (j : ℕ) (u : View) → j ≢ id → get_elem? w.views j ≡ some u → turn_in u.hold ≡ 0
  turn_alone id v at mine j u n there = let t = total_two turn_of w.views id j v u (λ z. n (sym z)) at there in let a = f.turns in let b = f.one_turn in omega arith

module _ (places all : ℕ) (w w' : BucketState) where
  visit_kept : (s i : ℕ) (c : Visit)
      → (get_or w.marks (place_index places s i) 0 ≡ 1 → (get_or w'.marks (place_index places s i) 0 ≡ 1) × (get_or w'.values (place_index places s i) 0 ≡ get_or w.values (place_index places s i) 0))
      → VisitFits (get_or w.marks (place_index places s i) 0) (get_or w.values (place_index places s i) 0) c → VisitFits (get_or w'.marks (place_index places s i) 0) (get_or w'.values (place_index places s i) 0) c
  visit_kept s i Unseen k h = tt
  visit_kept s i Marked k h = (k h).0
  visit_kept s i (Read x) k h = let t = k h.0 in (t.0, t.1 ∙ h.1)
  visit_kept s i (Wiped x) k h = tt

  -- what a hold says stays true if the step spares it
  pub hold_kept : (weight : ℕ) (hold : Hold) → w.live < 2 → w.given ≤ places → (turn_in hold ≡ 1 → (w'.live ≡ w.live) × (w.given ≤ w'.given))
      → ((s i : ℕ) → s < 2 → i < places → ticket_in s i hold ≡ 1 → get_or w'.values (place_index places s i) 0 ≡ get_or w.values (place_index places s i) 0)
      → ((s i : ℕ) → s < 2 → i < places → turn_in hold ≡ 1 → get_or w.marks (place_index places s i) 0 ≡ 1
      → (get_or w'.marks (place_index places s i) 0 ≡ 1) × (get_or w'.values (place_index places s i) 0 ≡ get_or w.values (place_index places s i) 0))
      → weight ≢ all → HoldFits places all w weight hold → HoldFits places all w' weight hold
  hold_kept weight Nothing l g sides tickets walks part h = tt
  hold_kept weight (Ticket s i) l g sides tickets walks part h = h
  hold_kept weight (Written s i x) l g sides tickets walks part h = (h.0, h.1, tickets s i h.0 h.1 (same_here s i s i refl refl) ∙ h.2)
  hold_kept weight Claimed l g sides tickets walks part h = tt
  hold_kept weight (SideKnown s) l g sides tickets walks part h = h ∙ sym (sides refl).0
  hold_kept weight (Reading s visits) l g sides tickets walks part h = let t = sides refl in let a = h.0 in let b = h.1 in let c = t.1 in (
    h.0 ∙ sym t.0,
    omega arith,
    (λ i c at. let k = at_below visits i c at in visit_kept s i c (walks s i (omega arith) (omega arith) refl) (h.2 i c at)),
    λ e. absurd (part e),
  )
  hold_kept weight (Clearing s visits) l g sides tickets walks part h = let t = sides refl in let o = (other_side w.live l).0 in let a = h.0 in let b = h.1 in (
    h.0 ∙ ap other (sym t.0),
    h.1,
    λ i c at. let k = at_below visits i c at in visit_kept s i c (walks s i (subst (λ (z : ℕ). z < 2) (sym h.0) o) (omega arith) refl) (h.2 i c at),
    λ e. absurd (part e),
  )
  hold_kept weight (Settling a xs) l g sides tickets walks part h = absurd (part h.0)

-- all threads' facts after a step of one
pub each_after : (places all : ℕ) (w w' : BucketState) (id : ℕ) (v v' : View) → Facts places all w → get_elem? w.views id ≡ some v → 0 < v.weight → w'.views ≡ set w.views id v'
    → v'.places ≡ v.places → v'.weight ≡ v.weight → ((h : ℕ → ℕ) → pushed_of h v ≤ pushed_of h v') → HoldFits places all w' v'.weight v'.hold
    → ((n : ℕ) (xs : Walk) → get_elem? v'.read n ≡ some xs → (h : ℕ → ℕ) → weigh h xs.values ≤ total (pushed_of h) w.views)
    → ((j : ℕ) (u : View) → j ≢ id → get_elem? w.views j ≡ some u → turn_in u.hold ≡ 1 → (w'.live ≡ w.live) × (w.given ≤ w'.given))
    → ((j : ℕ) (u : View) → j ≢ id → get_elem? w.views j ≡ some u → (s i : ℕ) → s < 2 → i < places → ticket_in s i u.hold ≡ 1 → get_or w'.values (place_index places s i) 0 ≡ get_or w.values (place_index places s i) 0)
    → ((j : ℕ) (u : View) → j ≢ id → get_elem? w.views j ≡ some u → (s i : ℕ) → s < 2 → i < places → turn_in u.hold ≡ 1 → get_or w.marks (place_index places s i) 0 ≡ 1
    → (get_or w'.marks (place_index places s i) 0 ≡ 1) × (get_or w'.values (place_index places s i) 0 ≡ get_or w.values (place_index places s i) 0))
    → (j : ℕ) (u : View) → get_elem? w'.views j ≡ some u → ViewFits places all w' u
each_after p all w w' id v v' f at some_weight is same_places same_weight grows mine reads sides tickets walks j u there =
    let more : (h : ℕ → ℕ) → total (pushed_of h) w.views ≤ total (pushed_of h) w'.views =
    λ h. let a = total_set (pushed_of h) w.views id v v' at in let b = grows h in let c : total (pushed_of h) w'.views ≡ total (pushed_of h) (set w.views id v') = ap (total (pushed_of h)) is in omega arith
    in
    ⊎_elim
    (λ (t : (j ≡ id) × (v' ≡ u)). subst (λ (z : View). ViewFits p all w' z) t.1 record {
      size = λ _. same_places ∙ (f.each id v at).size some_weight;
      idle = λ none. absurd (omega arith);
      hold = mine;
      reads = λ n xs e h. let a = reads n xs e h in let b = more h in omega arith;
    })
    (λ (t : (j ≢ id) × (get_elem? w.views j ≡ some u)). let g = f.each j u t.1 in record {
      size = g.size;
      idle = g.idle;
      hold = hold_kept p all w w' u.weight u.hold f.side f.room (sides j u t.0 t.1) (tickets j u t.0 t.1) (walks j u t.0 t.1) (others p all w f id v at some_weight j u t.0 t.1) g.hold;
      reads = λ n xs e h. let a = g.reads n xs e h in let b = more h in omega arith;
    })
    (at_set w.views id j v' u (sym (ap (λ (l : List View). get_elem? l j) is) ∙ there))

-- a thread by what it holds
pub held_by : (w : BucketState) (id : ℕ) (v : View) (hold : Hold) → get_elem? w.views id ≡ some v → v.hold ≡ hold → get_elem? w.views id ≡ some (holding v hold)
held_by w id v hold at e = at ∙ (λ k. some (holding v (e k)))

-- the facts after a step of one that takes no side; left to show is which words, and which sums of the thread, it changes
module _ (places all : ℕ) (w w' : BucketState) (id : ℕ) (v u : View) (f : Facts places all w) (at : get_elem? w.views id ≡ some v) (has : 0 < v.weight) (views : w'.views ≡ set w.views id u) (live : w'.live ≡ w.live)
    (same_places : u.places ≡ v.places) (same_weight : u.weight ≡ v.weight) (took : took_of u ≡ took_of v) where
  new_total : (g : View → ℕ) → total g w'.views + g v ≡ total g w.views + g u
  new_total g = ap (λ (l : List View). total g l + g v) views ∙ total_set g w.views id v u at

  pub facts_after : w.given ≤ w'.given → w'.given ≤ places → length w'.values ≡ places + places → length w'.marks ≡ places + places
      → ((s i : ℕ) → s < 2 → i < places → get_or w'.marks (place_index places s i) 0 + ticket_at s i u + (given_at w.live w.given s i + owed_at s i v) ≡ get_or w.marks (place_index places s i) 0 + ticket_at s i v + (given_at w.live w'.given s i + owed_at s i u))
      → w'.turn + turn_of v ≡ w.turn + turn_of u → w'.turn ≤ 1
      → ((h : ℕ → ℕ) → pushed_of h u + (stands h w.values w.marks + taken_of h v) ≡ pushed_of h v + (stands h w'.values w'.marks + taken_of h u))
      → ((h : ℕ → ℕ) → pushed_of h v ≤ pushed_of h u) → HoldFits places all w' u.weight u.hold → ((n : ℕ) (xs : Walk) → get_elem? u.read n ≡ some xs → (h : ℕ → ℕ) → weigh h xs.values ≤ total (pushed_of h) w.views)
      → ((j : ℕ) (z : View) → j ≢ id → get_elem? w.views j ≡ some z → (s i : ℕ) → s < 2 → i < places → ticket_in s i z.hold ≡ 1 → get_or w'.values (place_index places s i) 0 ≡ get_or w.values (place_index places s i) 0)
      → ((j : ℕ) (z : View) → j ≢ id → get_elem? w.views j ≡ some z → (s i : ℕ) → s < 2 → i < places → turn_in z.hold ≡ 1 → get_or w.marks (place_index places s i) 0 ≡ 1
      → (get_or w'.marks (place_index places s i) 0 ≡ 1) × (get_or w'.values (place_index places s i) 0 ≡ get_or w.values (place_index places s i) 0))
      → Facts places all w'
  facts_after more room values_long marks_long even turn one_turn bags grows mine reads tickets walks = record {
    side = subst (λ (n : ℕ). n < 2) (sym live) f.side;
    room = room;
    values_long = values_long;
    marks_long = marks_long;
    even = λ s i a b.
        let x = f.even s i a b in
        let y = even s i a b in
        let t = new_total (ticket_at s i) in
        let o = new_total (owed_at s i) in
        let g : given_at w'.live w'.given s i ≡ given_at w.live w'.given s i = ap (λ (n : ℕ). given_at n w'.given s i) live in
        omega arith;
    turns = let x = f.turns in let t = new_total turn_of in omega arith;
    one_turn = one_turn;
    swaps = let t = new_total took_of in let same_total : total took_of w.views ≡ total took_of w'.views = omega arith in live ∙ (f.swaps ∙ ap (λ (n : ℕ). n % 2) same_total);
    shares = let x = f.shares in let t = new_total weight_of in omega arith;
    bags = λ h. let x = f.bags h in let y = bags h in let t = new_total (pushed_of h) in let k = new_total (taken_of h) in omega arith;
    each = each_after places all w w' id v u f at has views same_places same_weight grows mine reads (λ _ _ _ _ _. (live, more)) tickets walks;
  }

  -- where no word of the places changes
  pub facts_beside : w.given ≡ w'.given → w.values ≡ w'.values → w.marks ≡ w'.marks → ((s i : ℕ) → ticket_at s i u + owed_at s i v ≡ ticket_at s i v + owed_at s i u) → w'.turn + turn_of v ≡ w.turn + turn_of u → w'.turn ≤ 1
      → ((h : ℕ → ℕ) → pushed_of h u + taken_of h v ≡ pushed_of h v + taken_of h u) → ((h : ℕ → ℕ) → pushed_of h v ≤ pushed_of h u)
      → HoldFits places all w' u.weight u.hold → ((n : ℕ) (xs : Walk) → get_elem? u.read n ≡ some xs → (h : ℕ → ℕ) → weigh h xs.values ≤ total (pushed_of h) w.views) → Facts places all w'
  facts_beside given values marks even turn one_turn bags grows mine reads =
      let room = f.room in
      facts_after (omega arith) (omega arith) (ap length (sym values) ∙ f.values_long) (ap length (sym marks) ∙ f.marks_long)
      (λ s i a b.
      let y = even s i in
      let m : get_or w.marks (place_index places s i) 0 ≡ get_or w'.marks (place_index places s i) 0 = ap (λ (l : List ℕ). get_or l (place_index places s i) 0) marks in
      let g : given_at w.live w.given s i ≡ given_at w.live w'.given s i = ap (λ (n : ℕ). given_at w.live n s i) given in
      omega arith)
      turn one_turn (λ h. let y = bags h in let s : stands h w.values w.marks ≡ stands h w'.values w'.marks = (λ k. stands h (values k) (marks k)) in omega arith) grows mine reads
      (λ j z n there s i a b t. ap (λ (l : List ℕ). get_or l (place_index places s i) 0) (sym values))
      (λ j z n there s i a b t m. (ap (λ (l : List ℕ). get_or l (place_index places s i) 0) (sym marks) ∙ m, ap (λ (l : List ℕ). get_or l (place_index places s i) 0) (sym values)))
