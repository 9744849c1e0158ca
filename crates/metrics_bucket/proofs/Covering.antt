-- What a thread knows of its own pushes.
use Rattle.std.proofs.Common.{◌≡◌, ◌≢◌, ℕ, suc, ◌+◌, ◌<◌, length, get_or, set, refl, sym, ap, ◌∙◌, subst, inl, inr, ⊎_elim, arith}
use mathlib.Core.Logic.{dite}
use mathlib.Core.Option.{some}
use native.Mathlib.Decide.{ℕ_discrete}
use lib.ListN.{get_elem?}
use Rattle.atomic_table.proofs.Lists.{at_set}
use Rattle.metrics_bucket.specs.declared.view.Push.{Push}
use Rattle.metrics_bucket.specs.declared.view.View.{View}
use Rattle.metrics_bucket.specs.declared.view.Hold.{Hold}
use Rattle.metrics_bucket.specs.declared.view.Hold.TheVariants.{Nothing, Ticket, Written, Claimed, SideKnown, Reading, Clearing, Settling}
use Rattle.metrics_bucket.specs.BucketState.{BucketState, other, base, place_index, walk, new_view, live_values, value_in, values_in, visits_of}
use Rattle.metrics_bucket.specs.Facts.{took_in, took_of, weight_of, IsIdle, Facts}
use Rattle.metrics_bucket.specs.Places.{IsPush, VisitFinds, HoldPlaced, Placed, Reaches, Finds, Covers}
use Rattle.metrics_bucket.specs.History.{CanLeave}
use Rattle.metrics_bucket.proofs.Sums.{total_set, total_two, total_zero, given_here, below_under}
use Rattle.metrics_bucket.proofs.Keep.{other_side}
use Rattle.metrics_bucket.proofs.Leaving.{whole_marks}
use Rattle.metrics_bucket.proofs.Placing.{own_push, own_reach}
use Rattle.metrics_bucket.proofs.WipedVisits.{value_there}

module _ (places all : ℕ) (w : BucketState) (id : ℕ) (v : View) (f : Facts places all w) (p : Placed places w) (at : get_elem? w.views id ≡ some v) (has : 0 < v.weight) where
  pub reaches : Reaches v.pushed w.epoch w.given
  reaches n q there = let r = own_reach places w p id v n q at there in let low = r.0 in dite (ℕ_discrete q.epoch w.epoch) (λ e. inr (e, r.1 e)) (λ e. inl (omega arith))

  -- a push and what was found at its place
  same_push : (n : ℕ) (q : Push) (e x : ℕ) → get_elem? v.pushed n ≡ some q → q.epoch ≡ e → IsPush w e q.place x → x ≡ q.value
  same_push n q e x there is k = let own = own_push places w p id v n q at there in let own' : IsPush w e q.place q.value = subst (λ (z : ℕ). IsPush w z q.place q.value) is own in sym k.1 ∙ own'.1

  pub finds : (hold : Hold) → v.hold ≡ hold → CanLeave hold → Finds v.pushed (walk v.epoch (values_in (visits_of hold)))
  finds (Reading s visits) e can n q there is below_all =
      let placed : HoldPlaced w v.epoch (Reading s visits) = subst (HoldPlaced w v.epoch) e (p.each id v at).hold in
      let c = value_there visits q.place below_all in
      let t = can q.place c.0 c.1 in
      c.2 ∙ (ap value_in t.1 ∙ same_push n q v.epoch t.0 there is (subst (VisitFinds w v.epoch q.place) t.1 (placed.1 q.place c.0 c.1)))
  finds (Clearing s visits) e can n q there is below_all =
      let placed : HoldPlaced w v.epoch (Clearing s visits) = subst (HoldPlaced w v.epoch) e (p.each id v at).hold in
      let c = value_there visits q.place below_all in
      let t = can q.place c.0 c.1 in
      c.2 ∙ (ap value_in t.1 ∙ same_push n q v.epoch t.0 there is (subst (VisitFinds w v.epoch q.place) t.1 (placed.1 q.place c.0 c.1)))
  finds Nothing e can n q there is l = absurd can
  finds (Ticket s i) e can n q there is l = absurd can
  finds (Written s i x) e can n q there is l = absurd can
  finds Claimed e can n q there is l = absurd can
  finds (SideKnown s) e can n q there is l = absurd can
  finds (Settling s xs) e can n q there is l = absurd can

  -- what a thread with the whole weight knows
  module _ (whole : v.weight ≡ all) where
    idle_else : (j : ℕ) (u : View) → j ≢ id → get_elem? w.views j ≡ some u → IsIdle u
    idle_else j u n there = let t = total_two weight_of w.views id j v u (λ z. n (sym z)) at there in let s = f.shares in (f.each j u there).idle (omega arith)

    -- all takes are its own
    own_takes : w.epoch ≡ took_of v
    own_takes =
        let z = total_zero took_of (set w.views id (new_view places 0)) (λ j u there. ⊎_elim
        (λ (t : (j ≡ id) × (new_view places 0 ≡ u)). ap took_of (sym t.1))
        (λ (t : (j ≢ id) × (get_elem? w.views j ≡ some u)). let i = idle_else j u t.0 t.1 in let a : length u.taken ≡ 0 = ap length i.1 in let b : took_in u.hold ≡ 0 = ap took_in i.3 in omega arith)
        (at_set w.views id j (new_view places 0) u there))
        in
        let t = total_set took_of w.views id v (new_view places 0) at in
        let e = p.takes in
        omega arith

    pub whole_epoch : took_in v.hold ≡ 0 → w.epoch ≡ length v.taken
    whole_epoch none = let a = own_takes in omega arith

    -- the live side's values are at the places of its pushes
    pub covers : v.hold ≡ Nothing → length (live_values places w) ≡ w.given → ((i : ℕ) → i < w.given → get_or (live_values places w) i 0 ≡ get_or w.values (base places w.live + i) 0) → Covers v.pushed (walk (length v.taken) (live_values places w))
    covers free long found n q there =
        let epoch = whole_epoch (ap took_in free) in
        let o = other_side w.live f.side in
        ⊎_elim
        (λ (low : q.epoch < w.epoch). inl (omega arith))
        (λ (r : (q.epoch ≡ w.epoch) × (q.place < w.given)).
        let room = f.room in
        let under = r.1 in
        let inside : q.place < places = omega arith in
        let mark : get_or w.marks (place_index places w.live q.place) 0 ≡ 1 = whole_marks places all w id v f at has whole free w.live q.place f.side inside ∙ (given_here w.live w.given w.live q.place refl ∙ below_under q.place w.given r.1) in
        let t = p.marked w.live q.place f.side inside mark in
        let same_epoch : t.0 ≡ w.epoch = ⊎_elim (λ (z : (w.live ≡ w.live) × (t.0 ≡ w.epoch)). z.1) (λ (z : (w.live ≡ other w.live) × (suc t.0 ≡ w.epoch)). absurd (o.1 z.0)) t.1 in
        inr (r.0 ∙ epoch, subst (λ (z : ℕ). q.place < z) (sym long) r.1, found q.place r.1 ∙ same_push n q t.0 (get_or w.values (place_index places w.live q.place) 0) there (r.0 ∙ sym same_epoch) t.2))
        (reaches n q there)
