-- The steps that wipe and leave keep the facts, and what a whole thread learns.
use Rattle.std.proofs.Common.{◌≡◌, ◌≢◌, ℕ, zero, suc, ◌+◌, ◌%◌, ◌-◌, ◌<◌, ◌≤◌, cond, eqb, List, [], ◌∷◌, length, get_or, set, take, drop, refl, sym, ap, ◌∙◌, subst, ⊎_elim, arith, eq-eqb, ne_eqb, length-append, length-set, get_or-set_same, get_or-set_other}
use mathlib.Core.Logic.{dite}
use mathlib.Core.Option.{some}
use native.Mathlib.Decide.{ℕ_discrete, dec_le}
use lib.ListN.{get_elem?}
use Rattle.atomic_table.proofs.Lists.{at_set, at_snoc}
use Rattle.metrics_bucket.specs.declared.view.Walk.{Walk}
use Rattle.metrics_bucket.specs.declared.view.View.{View}
use Rattle.metrics_bucket.specs.declared.view.Hold.TheVariants.{Nothing, Reading, Clearing}
use Rattle.metrics_bucket.specs.declared.view.Visit.{Visit}
use Rattle.metrics_bucket.specs.declared.view.Visit.TheVariants.{Read, Wiped}
use Rattle.metrics_bucket.specs.BucketState.{total, BucketState, base, place_index, live_values, new_view, walk, holding, value_in, values_in, left_from}
use Rattle.metrics_bucket.specs.Facts.{weigh, weigh_pushes, weigh_walks, stands, given_at, ticket_in, ticket_at, open_at, owed_in, owed_at, turn_in, turn_of, took_in, took_of, weight_of, pushed_of, taken_of, wiped, VisitFits, HoldFits, IsIdle, ViewFits, Facts}
use Rattle.metrics_bucket.proofs.Sums.{total_set, total_one, total_two, total_zero, index_apart, index_below, here_or, given_here, given_else, below_under, below_over, stands_unmark}
use Rattle.metrics_bucket.proofs.Keep.{at_below, other_side, turn_alone, held_by, facts_after, facts_beside}
use Rattle.metrics_bucket.proofs.Visits.{open_here, open_set, open_else, wiped_set, AllWiped, all_wiped_open, all_wiped_weigh, weigh_walks-append, Standing, part_stands, stands_front}

module _ (places all : ℕ) (w : BucketState) (id : ℕ) (v : View) (f : Facts places all w) (at : get_elem? w.views id ≡ some v) (has : 0 < v.weight) where
  abbrev mine : ViewFits places all w v
  mine = f.each id v at

  pub wipes : (s i x : ℕ) (visits : List Visit) → v.hold ≡ Clearing s visits → get_elem? visits i ≡ some (Read x)
      → Facts places all record w { marks = set w.marks (place_index places s i) 0; views = set w.views id (holding v (Clearing s (set visits i (Wiped x)))) }
  wipes s i x visits e there =
      let v0 : View = holding v (Clearing s visits) in
      let at0 = held_by w id v (Clearing s visits) at e in
      let u : View = holding v (Clearing s (set visits i (Wiped x))) in
      let k : ℕ = place_index places s i in
      let fits : HoldFits places all w v.weight (Clearing s visits) = (f.each id v0 at0).hold in
      let o = other_side w.live f.side in
      let s2 : s < 2 = subst (λ (z : ℕ). z < 2) (sym fits.0) o.0 in
      let inside = at_below visits i (Read x) there in
      let fits1 = fits.1 in
      let i2 : i < places = omega arith in
      let in_range = index_below places s i i2 in
      let values_long = f.values_long in
      let marks_long = f.marks_long in
      let visit = fits.2 i (Read x) there in
      let marked : get_or w.marks k 0 ≡ 1 = visit.0 in
      let alone_here = turn_alone places all w f id v0 at0 refl in
      let apart : (s' i' : ℕ) → s' < 2 → i' < places → (s' ≡ s → i' ≡ i → ⊥) → get_or (set w.marks k 0) (place_index places s' i') 0 ≡ get_or w.marks (place_index places s' i') 0 =
      λ s' i' a b n. get_or-set_other w.marks k (place_index places s' i') 0 0 (index_apart places s' i' s i a s2 b i2 n)
      in
      let here : get_or (set w.marks k 0) k 0 ≡ 0 = get_or-set_same w.marks k 0 0 (omega arith) in
      let long = length-set visits i (Wiped x) in
      facts_after places all w record w { marks = set w.marks k 0; views = set w.views id u } id v0 u f at0 has refl refl refl refl refl (omega arith) f.room values_long (length-set w.marks k 0 ∙ marks_long)
      (λ s' i' a b. ⊎_elim
      (λ (r : (s' ≡ s) × (i' ≡ i)).
      let now : get_or (set w.marks k 0) (place_index places s' i') 0 ≡ 0 = (λ m. get_or (set w.marks k 0) (place_index places (r.0 m) (r.1 m)) 0) ∙ here in
      let was : get_or w.marks (place_index places s' i') 0 ≡ 1 = (λ m. get_or w.marks (place_index places (r.0 m) (r.1 m)) 0) ∙ marked in
      let p1 : cond (eqb s' s) (open_at visits i') 0 ≡ 1 = ap (λ c. cond c (open_at visits i') 0) (eq-eqb s' s r.0) ∙ (ap (open_at visits) r.1 ∙ open_here visits i (Read x) there) in
      let p2 : owed_at s' i' u ≡ 0 = ap (λ c. cond c (open_at (set visits i (Wiped x)) i') 0) (eq-eqb s' s r.0) ∙ (ap (open_at (set visits i (Wiped x))) r.1 ∙ open_set visits i (Read x) (Wiped x) there) in
      omega arith)
      (λ (n : s' ≡ s → i' ≡ i → ⊥).
      let m = apart s' i' a b n in
      let p1 : owed_at s' i' u ≡ cond (eqb s' s) (open_at visits i') 0 = dite (ℕ_discrete s' s) (λ q. ap (λ (z : ℕ). cond (eqb s' s) z 0) (open_else visits i i' (Wiped x) (λ z. n q z)))
      (λ q. ap (λ c. cond c (open_at (set visits i (Wiped x)) i') 0) (ne_eqb s' s q) ∙ sym (ap (λ c. cond c (open_at visits i') 0) (ne_eqb s' s q)))
      in
      omega arith)
      (here_or s' i' s i))
      refl f.one_turn
      (λ h. let c1 = wiped_set h visits i (Read x) (Wiped x) there in let d = stands_unmark h w.values w.marks k (omega arith) (omega arith) marked in let is : h (get_or w.values k 0) ≡ h x = ap h visit.1 in omega arith)
      (λ h. omega arith) (
        fits.0,
        omega arith,
        λ j c at_j. ⊎_elim
            (λ (t : (j ≡ i) × (Wiped x ≡ c)). subst (VisitFits (get_or (set w.marks k 0) (place_index places s j) 0) (get_or w.values (place_index places s j) 0)) t.1 tt)
            (λ (t : (j ≢ i) × (get_elem? visits j ≡ some c)).
            let j2 = at_below visits j c t.1 in
            let m = apart s j s2 (omega arith) (λ _ z. t.0 z) in
            subst (λ (z : ℕ). VisitFits z (get_or w.values (place_index places s j) 0) c) (sym m) (fits.2 j c t.1))
            (at_set visits i j (Wiped x) c at_j),
        fits.3,
      )
      mine.reads
      (λ j z n there s i a b t. refl)
      (λ j z n there s' i' a b t m. let none_there = alone_here j z n there in absurd (omega arith))

  -- a clear leaves when all its places are wiped
  pub leaves_clear : (s : ℕ) (visits : List Visit) → v.hold ≡ Clearing s visits → AllWiped visits → Facts places all record w { turn = 0; views = set w.views id (left_from v (Clearing s visits)) }
  leaves_clear s visits e done =
      let v0 : View = holding v (Clearing s visits) in
      let at0 = held_by w id v (Clearing s visits) at e in
      let u : View = left_from v (Clearing s visits) in
      let l = length-append v.taken (walk v.epoch (values_in visits) ∷ []) in
      facts_beside places all w record w { turn = 0; views = set w.views id u } id v0 u f at0 has refl refl refl refl (omega arith) refl refl refl
      (λ s' i'. let p0 : owed_at s' i' v0 ≡ 0 = ap (λ (n : ℕ). cond (eqb s' s) n 0) (all_wiped_open visits i' done) ∙ dite (ℕ_discrete s' s) (λ q. ap (λ c. cond c 0 0) (eq-eqb s' s q)) (λ q. ap (λ c. cond c 0 0) (ne_eqb s' s q)) in omega arith)
      (let y = f.turns in let z = f.one_turn in let t = total_one turn_of w.views id v0 at0 in omega arith) (omega arith)
      (λ h. let c1 = weigh_walks-append h v.taken (walk v.epoch (values_in visits)) in let c2 = all_wiped_weigh h visits done in omega arith) (λ h. omega arith) tt mine.reads

  -- a reading walk leaves when it has read all its places
  pub leaves_read : (s : ℕ) (visits : List Visit) → v.hold ≡ Reading s visits → ((i : ℕ) (c : Visit) → get_elem? visits i ≡ some c → (x : ℕ) × (c ≡ Read x))
      → Facts places all record w { turn = 0; views = set w.views id (left_from v (Reading s visits)) }
  leaves_read s visits e done =
      let v0 : View = holding v (Reading s visits) in
      let at0 = held_by w id v (Reading s visits) at e in
      let u : View = left_from v (Reading s visits) in
      let fits : HoldFits places all w v.weight (Reading s visits) = (f.each id v0 at0).hold in
      let standing : Standing w.values w.marks (base places s) visits = λ i c there.
      let d = done i c there in let t = subst (VisitFits (get_or w.marks (place_index places s i) 0) (get_or w.values (place_index places s i) 0)) d.1 (fits.2 i c there) in (t.0, t.1 ∙ sym (ap value_in d.1))
      in
      let room = f.room in let values_long = f.values_long in let marks_long = f.marks_long in let k = fits.1 in
      let b : base places s ≤ places = base_le s in
      facts_beside places all w record w { turn = 0; views = set w.views id u } id v0 u f at0 has refl refl refl refl refl refl refl refl (λ s' i'. refl)
      (let y = f.turns in let z = f.one_turn in let t = total_one turn_of w.views id v0 at0 in omega arith) (omega arith) (λ h. refl) (λ h. omega arith) tt
      (λ n xs e' h. ⊎_elim
      (λ (r : get_elem? v.read n ≡ some xs). mine.reads n xs r h)
      (λ (r : walk v.epoch (values_in visits) ≡ xs).
      let a = part_stands h w.values w.marks (base places s) visits (omega arith) (omega arith) standing in
      let y = f.bags h in
      let q : weigh h (values_in visits) ≡ weigh h xs.values = ap (λ (z : Walk). weigh h z.values) r in
      omega arith)
      (at_snoc v.read (walk v.epoch (values_in visits)) xs n e'))
    where
      base_le : (s : ℕ) → base places s ≤ places
      base_le zero = omega arith
      base_le (suc s) = omega arith

  -- a walk that took nothing leaves without a list
  pub quits : turn_in v.hold ≡ 1 → ((s i : ℕ) → ticket_in s i v.hold ≡ 0) → ((s i : ℕ) → owed_in s i v.hold ≡ 0) → took_in v.hold ≡ 0 → ((h : ℕ → ℕ) → wiped h v.hold ≡ 0)
      → Facts places all record w { turn = 0; views = set w.views id (holding v Nothing) }
  quits turn ticket owed took unwiped =
      facts_beside places all w record w { turn = 0; views = set w.views id (holding v Nothing) } id v (holding v Nothing) f at has refl refl refl refl (omega arith) refl refl refl
      (λ s i. let t0 = ticket s i in let p0 = owed s i in omega arith) (let y = f.turns in let z = f.one_turn in let t = total_one turn_of w.views id v at in omega arith) (omega arith)
      (λ h. let c0 = unwiped h in omega arith) (λ h. omega arith) tt mine.reads

  -- what a thread with the whole weight, which holds nothing, knows
  module _ (whole : v.weight ≡ all) (free : v.hold ≡ Nothing) where
    idle_else : (j : ℕ) (u : View) → j ≢ id → get_elem? w.views j ≡ some u → IsIdle u
    idle_else j u n there = let t = total_two weight_of w.views id j v u (λ z. n (sym z)) at there in let s = f.shares in (f.each j u there).idle (omega arith)

    -- a sum over all threads is its own part
    sole : (g : View → ℕ) → ((u : View) → IsIdle u → g u ≡ 0) → total g w.views ≡ g v
    sole g zero_idle =
        let z = total_zero g (set w.views id (new_view places 0)) (λ j u there. ⊎_elim
        (λ (t : (j ≡ id) × (new_view places 0 ≡ u)). ap g (sym t.1) ∙ zero_idle (new_view places 0) (refl, refl, refl, refl))
        (λ (t : (j ≢ id) × (get_elem? w.views j ≡ some u)). zero_idle u (idle_else j u t.0 t.1))
        (at_set w.views id j (new_view places 0) u there))
        in
        let s = total_set g w.views id v (new_view places 0) at in
        let o = zero_idle (new_view places 0) (refl, refl, refl, refl) in
        omega arith

    pub whole_turn : w.turn ≡ 0
    whole_turn = f.turns ∙ (sole turn_of (λ u i. ap turn_in i.3) ∙ ap turn_in free)

    pub whole_live : w.live ≡ length v.taken % 2
    whole_live = let s = sole took_of (λ u i. let a : length u.taken ≡ 0 = ap length i.1 in let b : took_in u.hold ≡ 0 = ap took_in i.3 in omega arith) in let t : took_in v.hold ≡ 0 = ap took_in free in
        let same_total : total took_of w.views ≡ length v.taken = omega arith in f.swaps ∙ ap (λ (n : ℕ). n % 2) same_total

    pub whole_marks : (s i : ℕ) → s < 2 → i < places → get_or w.marks (place_index places s i) 0 ≡ given_at w.live w.given s i
    whole_marks s i a b =
        let x = f.even s i a b in
        let t = sole (ticket_at s i) (λ u z. ap (ticket_in s i) z.3) in
        let t0 : ticket_at s i v ≡ 0 = ap (ticket_in s i) free in
        let o = sole (owed_at s i) (λ u z. ap (owed_in s i) z.3) in
        let o0 : owed_at s i v ≡ 0 = ap (owed_in s i) free in
        omega arith

    mark_low : (k : ℕ) → k < places → get_or w.marks k 0 ≡ given_at w.live w.given 0 k
    mark_low k l = let shift : k ≡ 0 + k = omega arith in (λ i. get_or w.marks (shift i) 0) ∙ whole_marks 0 k (omega arith) l

    mark_high : (k : ℕ) → places ≤ k → k < places + places → (j : ℕ) × (j < places) × (k ≡ places + j) × (get_or w.marks k 0 ≡ given_at w.live w.given 1 j)
    mark_high k l m = let j : ℕ = k - places in let is : k ≡ places + j = omega arith in (j, omega arith, is, (λ i. get_or w.marks (is i) 0) ∙ whole_marks 1 j (omega arith) (omega arith))

    by_side : (h : ℕ → ℕ) (live : ℕ) → w.live ≡ live → live < 2 → stands h w.values w.marks ≡ weigh h (take w.given (drop (base places live) w.values))
    by_side h zero e l =
        let a = f.values_long in
        let b = f.marks_long in
        let r = f.room in
        stands_front h w.values w.marks 0 w.given (a ∙ sym b) (omega arith) (λ k z. absurd (omega arith))
        (λ k z. let m = mark_low k (omega arith) in let shift : 0 + k ≡ k = omega arith in let g = given_here w.live w.given 0 k (sym e) in let u = below_under k w.given z in (λ i. get_or w.marks (shift i) 0) ∙ (m ∙ (g ∙ u)))
        (λ k z y. dite (dec_le places k)
        (λ high. let m = mark_high k high (omega arith) in m.3 ∙ given_else w.live w.given 1 m.0 (λ q. omega arith))
        (λ low. mark_low k (omega arith) ∙ (given_here w.live w.given 0 k (sym e) ∙ below_over k w.given (omega arith))))
    by_side h (suc zero) e l =
        let a = f.values_long in
        let b = f.marks_long in
        let r = f.room in
        stands_front h w.values w.marks places w.given (a ∙ sym b) (omega arith)
        (λ k z. mark_low k z ∙ given_else w.live w.given 0 k (λ q. omega arith))
        (λ k z. whole_marks 1 k (omega arith) (omega arith) ∙ (given_here w.live w.given 1 k (sym e) ∙ below_under k w.given z))
        (λ k z y. let m = mark_high k (omega arith) (omega arith) in let is = m.2 in m.3 ∙ (given_here w.live w.given 1 m.0 (sym e) ∙ below_over m.0 w.given (omega arith)))
    by_side h (suc (suc live)) e l = absurd (omega arith)

    -- what it pushed is what is on the live side and what it took
    pub learns : (h : ℕ → ℕ) → weigh_pushes h v.pushed ≡ weigh h (live_values places w) + weigh_walks h v.taken
    learns h =
        let b = f.bags h in
        let p = sole (pushed_of h) (λ u z. ap (weigh_pushes h) z.0) in
        let t = sole (taken_of h) (λ u z. let m : weigh_walks h u.taken ≡ 0 = ap (weigh_walks h) z.1 in let n : wiped h u.hold ≡ 0 = ap (wiped h) z.3 in omega arith) in
        let q : wiped h v.hold ≡ 0 = ap (wiped h) free in
        let l : stands h w.values w.marks ≡ weigh h (live_values places w) = by_side h w.live refl f.side in
        omega arith

    -- what it read is a part of what it pushed
    pub learns_reads : (n : ℕ) (xs : Walk) → get_elem? v.read n ≡ some xs → (h : ℕ → ℕ) → weigh h xs.values ≤ weigh_pushes h v.pushed
    learns_reads n xs e h = let a = mine.reads n xs e h in let p = sole (pushed_of h) (λ u z. ap (weigh_pushes h) z.0) in omega arith
