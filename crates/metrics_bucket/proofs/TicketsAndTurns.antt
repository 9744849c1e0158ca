-- Each step keeps the counts of tickets and of turns, so each history does.
use Rattle.std.proofs.Common.{◌≡◌, ℕ, ◌+◌, ◌<◌, cond, eqb, List, [], ◌∷◌, get_or, set, refl, ap, ◌∙◌, arith, length-append}
use mathlib.Core.Logic.{dite}
use mathlib.Core.Option.{some}
use native.Mathlib.Decide.{ℕ_discrete, dec_le}
use lib.ListN.{get_elem?}
use Rattle.atomic_table.proofs.Lists.{set_else}
use Rattle.metrics_bucket.specs.declared.view.View.{View}
use Rattle.metrics_bucket.specs.declared.view.Hold.{Hold}
use Rattle.metrics_bucket.specs.declared.view.Hold.TheVariants.{Nothing, Ticket, Written, Claimed, SideKnown, Reading, Clearing, Settling}
use Rattle.metrics_bucket.specs.declared.view.Visit.{Visit}
use Rattle.metrics_bucket.specs.declared.view.Visit.TheVariants.{Marked, Read, Wiped}
use Rattle.metrics_bucket.specs.BucketState.{BucketState, total, walks_of, walks_made, place_index, side_of, put_visit, values_in, walk, leaving, left_from, left_part, right_part, both_parts, new_view, push, holding_at, Act, look, look_to_settle, ticket, write, finish, claim, look_at_turn, look_to_read, look_to_clear, takes, see, read, wipe, leave, quit, split, join, view_after, state_after}
use Rattle.metrics_bucket.specs.Facts.{same, turn_in, turn_of, Facts}
use Rattle.metrics_bucket.specs.Places.{held_in, pushed_at, tickets_at, clearing_of, told_of, given_of, Placed}
use Rattle.metrics_bucket.specs.History.{CanLeave, CanQuit, May, Event, Runs}
use Rattle.metrics_bucket.specs.BucketLaw.{gives_in, is_claim, is_quit, epoch_after, tickets_given, claims_in, quits_in}
use Rattle.metrics_bucket.proofs.Sums.{total_set, total_one, total_snoc, below_under, below_over}
use Rattle.metrics_bucket.proofs.Histories.{step_facts}
use Rattle.metrics_bucket.proofs.Placing.{pushes_at-append, cond_here, cond_else}
use Rattle.metrics_bucket.proofs.PlacedAlways.{step_placed}

-- two worlds that have the same tickets of an epoch
by_tickets : (places : ℕ) (w w' : BucketState) → Placed places w → Placed places w' → (e : ℕ) → ((i : ℕ) → total (tickets_at e i) w'.views ≡ total (tickets_at e i) w.views) → given_of e w' ≡ given_of e w
by_tickets places w w' p p' e same_tickets =
    dite (dec_le (given_of e w') (given_of e w))
    (λ low. dite (dec_le (given_of e w) (given_of e w')) (λ high. omega arith)
    (λ high. let i : ℕ = given_of e w' in let a = p.tickets e i in let b = p'.tickets e i in let c = same_tickets i in let d = below_under i (given_of e w) (omega arith) in let k = below_over i (given_of e w') (omega arith) in absurd (omega arith)))
    (λ low. let i : ℕ = given_of e w in let a = p.tickets e i in let b = p'.tickets e i in let c = same_tickets i in let d = below_under i (given_of e w') (omega arith) in let k = below_over i (given_of e w) (omega arith) in absurd (omega arith))

module _ (e i epoch : ℕ) where
  held_put : (hold : Hold) (j : ℕ) (c : Visit) → held_in e i epoch (put_visit hold j c) ≡ held_in e i epoch hold
  held_put Nothing j c = refl
  held_put (Ticket s k) j c = refl
  held_put (Written s k x) j c = refl
  held_put Claimed j c = refl
  held_put (SideKnown s) j c = refl
  held_put (Reading s visits) j c = refl
  held_put (Clearing s visits) j c = refl
  held_put (Settling s xs) j c = refl

  held_quit : (hold : Hold) → CanQuit hold → held_in e i epoch hold ≡ 0
  held_quit Claimed c = refl
  held_quit (SideKnown s) c = refl
  held_quit (Reading s visits) c = refl
  held_quit (Clearing s visits) c = absurd c
  held_quit Nothing c = absurd c
  held_quit (Ticket s k) c = absurd c
  held_quit (Written s k x) c = absurd c
  held_quit (Settling s xs) c = absurd c

left_tickets : (e i : ℕ) (v : View) (hold : Hold) → CanLeave hold → tickets_at e i (left_from v hold) ≡ pushed_at e i v + held_in e i v.epoch hold
left_tickets e i v (Reading s visits) c = refl
left_tickets e i v (Clearing s visits) c = refl
left_tickets e i v Nothing c = absurd c
left_tickets e i v (Ticket s k) c = absurd c
left_tickets e i v (Written s k x) c = absurd c
left_tickets e i v Claimed c = absurd c
left_tickets e i v (SideKnown s) c = absurd c
left_tickets e i v (Settling s xs) c = absurd c

pub walks_left : (v : View) (hold : Hold) → CanLeave hold → (turn_in hold ≡ 1) × (walks_of (left_from v hold) ≡ walks_of v + 1)
walks_left v (Reading s visits) c = (refl, (let a = length-append v.read (walk v.epoch (values_in visits) ∷ []) in omega arith))
walks_left v (Clearing s visits) c = (refl, (let a = length-append v.taken (walk v.epoch (values_in visits) ∷ []) in omega arith))
walks_left v Nothing c = absurd c
walks_left v (Ticket s k) c = absurd c
walks_left v (Written s k x) c = absurd c
walks_left v Claimed c = absurd c
walks_left v (SideKnown s) c = absurd c
walks_left v (Settling s xs) c = absurd c

-- a walk that may quit or leave has the turn
pub turn_quit : (hold : Hold) → CanQuit hold → turn_in hold ≡ 1
turn_quit Claimed c = refl
turn_quit (SideKnown s) c = refl
turn_quit (Reading s visits) c = refl
turn_quit (Clearing s visits) c = absurd c
turn_quit Nothing c = absurd c
turn_quit (Ticket s k) c = absurd c
turn_quit (Written s k x) c = absurd c
turn_quit (Settling s xs) c = absurd c

module _ (places all : ℕ) (w : BucketState) (id : ℕ) (v : View) (f : Facts places all w) (p : Placed places w) (at : get_elem? w.views id ≡ some v) (has : 0 < v.weight) where
  by_view : (e i : ℕ) (u : View) → tickets_at e i u ≡ tickets_at e i v → total (tickets_at e i) (set w.views id u) ≡ total (tickets_at e i) w.views
  by_view e i u same_tickets = let t = total_set (tickets_at e i) w.views id v u at in omega arith

  -- only the step that gives a ticket changes the tickets
  tickets_same : (act : Act) → May places all w id v act → ((n : ℕ) → gives_in n n act ≡ 0) → (e i : ℕ) → total (tickets_at e i) (state_after places w id v act).views ≡ total (tickets_at e i) w.views
  tickets_same look m other_act e i = by_view e i (view_after places w v look) refl
  tickets_same look_to_settle m other_act e i = by_view e i (view_after places w v look_to_settle) (let a : held_in e i v.epoch v.hold ≡ 0 = ap (held_in e i v.epoch) m.0 in omega arith)
  tickets_same ticket m other_act e i = let a = other_act 0 in absurd (omega arith)
  tickets_same (write s j x) m other_act e i = by_view e i (view_after places w v (write s j x)) (let a : held_in e i v.epoch v.hold ≡ same e i v.epoch j = ap (held_in e i v.epoch) m in omega arith)
  tickets_same (finish s j x) m other_act e i =
      by_view e i (view_after places w v (finish s j x)) (let a : held_in e i v.epoch v.hold ≡ same e i v.epoch j = ap (held_in e i v.epoch) m in let b = pushes_at-append e i v.pushed (push v.epoch j x ∷ []) in omega arith)
  tickets_same claim m other_act e i = by_view e i (view_after places w v claim) (let a : held_in e i v.epoch v.hold ≡ 0 = ap (held_in e i v.epoch) m.0 in omega arith)
  tickets_same look_at_turn m other_act e i = by_view e i (view_after places w v look_at_turn) refl
  tickets_same look_to_read m other_act e i = by_view e i (view_after places w v look_to_read) (let a : held_in e i v.epoch v.hold ≡ 0 = ap (held_in e i v.epoch) m in omega arith)
  tickets_same look_to_clear m other_act e i = by_view e i (view_after places w v look_to_clear) (let a : held_in e i v.epoch v.hold ≡ 0 = ap (held_in e i v.epoch) m in omega arith)
  tickets_same takes m other_act e i = by_view e i (view_after places w v takes) (let a : held_in e i v.epoch v.hold ≡ 0 = ap (held_in e i v.epoch) m.1 in omega arith)
  tickets_same (see j) m other_act e i = by_view e i (view_after places w v (see j)) (ap (λ (n : ℕ). pushed_at e i v + n) (held_put e i v.epoch v.hold j Marked))
  tickets_same (read j) m other_act e i = by_view e i (view_after places w v (read j)) (ap (λ (n : ℕ). pushed_at e i v + n) (held_put e i v.epoch v.hold j (Read (get_or w.values (place_index places (side_of v.hold) j) 0))))
  tickets_same (wipe s j x) m other_act e i = by_view e i (view_after places w v (wipe s j x)) (ap (λ (n : ℕ). pushed_at e i v + n) (held_put e i v.epoch v.hold j (Wiped x)))
  tickets_same leave m other_act e i = by_view e i (leaving v) (left_tickets e i v v.hold m)
  tickets_same quit m other_act e i = by_view e i (view_after places w v quit) (let a = held_quit e i v.epoch v.hold m in omega arith)
  tickets_same split m other_act e i = let t = total_set (tickets_at e i) w.views id v (left_part v) at in let n = total_snoc (tickets_at e i) (set w.views id (left_part v)) (right_part v) in omega arith
  tickets_same (join other_id x) m other_act e i =
      let t = total_set (tickets_at e i) w.views id v (both_parts v x) at in
      let n = total_set (tickets_at e i) (set w.views id (both_parts v x)) other_id x (new_view 0 0) (set_else w.views id other_id (both_parts v x) m.2 ∙ m.3) in
      let a = pushes_at-append e i v.pushed x.pushed in
      let b : held_in e i x.epoch x.hold ≡ 0 = ap (held_in e i x.epoch) m.1 in
      omega arith

  ticket_more : v.hold ≡ Nothing → (e : ℕ) → given_of e (state_after places w id v ticket) ≡ given_of e w + cond (eqb e w.epoch) 1 0
  ticket_more free e =
      let t = total_set (told_of e) w.views id v (holding_at v w.epoch (Ticket w.live w.given)) at in
      let c : clearing_of e v.epoch v.hold ≡ 0 = ap (clearing_of e v.epoch) free in
      dite (ℕ_discrete e w.epoch)
      (λ q. let a = cond_here e w.epoch (w.given + 1) q in let b = cond_here e w.epoch w.given q in let d = cond_here e w.epoch 1 q in omega arith)
      (λ q. let a = cond_else e w.epoch (w.given + 1) q in let b = cond_else e w.epoch w.given q in let d = cond_else e w.epoch 1 q in omega arith)

  kept : (act : Act) → May places all w id v act → ((n : ℕ) → gives_in n n act ≡ 0) → (e : ℕ) → given_of e (state_after places w id v act) ≡ given_of e w + 0
  kept act m other_act e = let r = by_tickets places w (state_after places w id v act) p (step_placed places all w id v f p at has act m) e (tickets_same act m other_act e) in omega arith

  given_after : (act : Act) → May places all w id v act → (e : ℕ) → given_of e (state_after places w id v act) ≡ given_of e w + gives_in e w.epoch act
  given_after ticket m e = ticket_more m.0 e
  given_after look m e = kept look m (λ _. refl) e
  given_after look_to_settle m e = kept look_to_settle m (λ _. refl) e
  given_after (write s j x) m e = kept (write s j x) m (λ _. refl) e
  given_after (finish s j x) m e = kept (finish s j x) m (λ _. refl) e
  given_after claim m e = kept claim m (λ _. refl) e
  given_after look_at_turn m e = kept look_at_turn m (λ _. refl) e
  given_after look_to_read m e = kept look_to_read m (λ _. refl) e
  given_after look_to_clear m e = kept look_to_clear m (λ _. refl) e
  given_after takes m e = kept takes m (λ _. refl) e
  given_after (see j) m e = kept (see j) m (λ _. refl) e
  given_after (read j) m e = kept (read j) m (λ _. refl) e
  given_after (wipe s j x) m e = kept (wipe s j x) m (λ _. refl) e
  given_after leave m e = kept leave m (λ _. refl) e
  given_after quit m e = kept quit m (λ _. refl) e
  given_after split m e = kept split m (λ _. refl) e
  given_after (join other_id x) m e = kept (join other_id x) m (λ _. refl) e

  epoch_next : (act : Act) → (state_after places w id v act).epoch ≡ epoch_after w.epoch act
  epoch_next look = refl
  epoch_next look_to_settle = refl
  epoch_next ticket = refl
  epoch_next (write s j x) = refl
  epoch_next (finish s j x) = refl
  epoch_next claim = refl
  epoch_next look_at_turn = refl
  epoch_next look_to_read = refl
  epoch_next look_to_clear = refl
  epoch_next takes = refl
  epoch_next (see j) = refl
  epoch_next (read j) = refl
  epoch_next (wipe s j x) = refl
  epoch_next leave = refl
  epoch_next quit = refl
  epoch_next split = refl
  epoch_next (join other_id x) = refl

  has_turn : turn_in v.hold ≡ 1 → w.turn ≡ 1
  has_turn mine = let t = total_one turn_of w.views id v at in let a = f.turns in let b = f.one_turn in omega arith

  same_walks : (u : View) → walks_of u ≡ walks_of v → total walks_of (set w.views id u) ≡ walks_made w
  same_walks u same_made = let t = total_set walks_of w.views id v u at in omega arith

  -- a walk is finished when the turn comes back with a list
  turns_after : (act : Act) → May places all w id v act → is_claim act + (walks_made w + w.turn) ≡ walks_made (state_after places w id v act) + is_quit act + (state_after places w id v act).turn
  turns_after look m = let a = same_walks (view_after places w v look) refl in omega arith
  turns_after look_to_settle m = let a = same_walks (view_after places w v look_to_settle) refl in omega arith
  turns_after ticket m = let a = same_walks (view_after places w v ticket) refl in omega arith
  turns_after (write s j x) m = let a = same_walks (view_after places w v (write s j x)) refl in omega arith
  turns_after (finish s j x) m = let a = same_walks (view_after places w v (finish s j x)) refl in omega arith
  turns_after claim m = let a = same_walks (view_after places w v claim) refl in let b = m.1 in omega arith
  turns_after look_at_turn m = let a = same_walks (view_after places w v look_at_turn) refl in omega arith
  turns_after look_to_read m = let a = same_walks (view_after places w v look_to_read) refl in omega arith
  turns_after look_to_clear m = let a = same_walks (view_after places w v look_to_clear) refl in omega arith
  turns_after takes m = let a = same_walks (view_after places w v takes) refl in omega arith
  turns_after (see j) m = let a = same_walks (view_after places w v (see j)) refl in omega arith
  turns_after (read j) m = let a = same_walks (view_after places w v (read j)) refl in omega arith
  turns_after (wipe s j x) m = let a = same_walks (view_after places w v (wipe s j x)) refl in omega arith
  turns_after leave m = let c = walks_left v v.hold m in let c1 = c.1 in let t = total_set walks_of w.views id v (leaving v) at in let h = has_turn c.0 in omega arith
  turns_after quit m = let a = same_walks (view_after places w v quit) refl in let h = has_turn (turn_quit v.hold m) in omega arith
  turns_after split m = let t = total_set walks_of w.views id v (left_part v) at in let n = total_snoc walks_of (set w.views id (left_part v)) (right_part v) in omega arith
  turns_after (join other_id x) m =
      let t = total_set walks_of w.views id v (both_parts v x) at in
      let n = total_set walks_of (set w.views id (both_parts v x)) other_id x (new_view 0 0) (set_else w.views id other_id (both_parts v x) m.2 ∙ m.3) in
      let a = length-append v.taken x.taken in
      let b = length-append v.read x.read in
      omega arith

pub runs_given : (places all : ℕ) (w : BucketState) (history : List Event) (w' : BucketState) → Facts places all w → Placed places w → Runs places all w history w' → (e : ℕ) → given_of e w' ≡ given_of e w + tickets_given e w.epoch history
runs_given places all w [] w' f p r e = let a : given_of e w ≡ given_of e w' = ap (given_of e) r in omega arith
runs_given places all w (event ∷ es) w' f p r e =
    let next : BucketState = state_after places w event.by r.0 event.act in
    let a = given_after places all w event.by r.0 f p r.1 r.2 event.act r.3 e in
    let b = runs_given places all next es w' (step_facts places all w event.by r.0 f r.1 r.2 event.act r.3) (step_placed places all w event.by r.0 f p r.1 r.2 event.act r.3) r.4 e in
    let c : tickets_given e next.epoch es ≡ tickets_given e (epoch_after w.epoch event.act) es = ap (λ (n : ℕ). tickets_given e n es) (epoch_next places all w event.by r.0 f p r.1 r.2 event.act) in
    omega arith

pub runs_turns : (places all : ℕ) (w : BucketState) (history : List Event) (w' : BucketState) → Facts places all w → Placed places w → Runs places all w history w' → claims_in history + (walks_made w + w.turn) ≡ walks_made w' + quits_in history + w'.turn
runs_turns places all w [] w' f p r = let a : walks_made w + w.turn ≡ walks_made w' + w'.turn = ap (λ (z : BucketState). walks_made z + z.turn) r in omega arith
runs_turns places all w (event ∷ es) w' f p r =
    let next : BucketState = state_after places w event.by r.0 event.act in
    let a = turns_after places all w event.by r.0 f p r.1 r.2 event.act r.3 in
    let b = runs_turns places all next es w' (step_facts places all w event.by r.0 f r.1 r.2 event.act r.3) (step_placed places all w event.by r.0 f p r.1 r.2 event.act r.3) r.4 in
    omega arith
