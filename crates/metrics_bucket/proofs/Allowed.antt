-- What the rule allows each step on the table.
use Rattle.std.proofs.Common.{Bool, true, false, ◌≡◌, ℕ, zero, suc, ◌+◌, ◌*◌, ◌/◌, ◌%◌, ◌^◌, ◌<◌, ◌≤◌, eqb, List, [], ◌∷◌, ◌++◌, length, get_or, set, drop, replicate, refl, sym, ap, ◌∙◌, subst, arith, eq-eqb, ne_eqb, length-append, length-take, length-drop, get_or-set_same, get_or-set_other}
use mathlib.Core.Logic.{dite}
use Rattle.std.proofs.lemmas.Bool.{false≢true}
use mathlib.Core.Option.{none, some, some-ne-none}
use native.Mathlib.Decide.{ℕ_discrete}
use lib.ListN.{get_elem?}
use lib.Seq.{set-get_or}
use prog.Atomic.{either}
use Rattle.atomic_table.specs.Table.{State, Act as SlotAct, step, keeps, homes_after, stepped, opening, Allows, Enters, Splits, Joins}
use Rattle.atomic_table.proofs.Lists.{set_again, set_else}
use Rattle.metrics_bucket.specs.declared.view.View.{View}
use Rattle.metrics_bucket.specs.declared.view.Push.{Push}
use Rattle.metrics_bucket.specs.declared.view.Turn.{Turn}
use Rattle.metrics_bucket.specs.declared.view.Hold.{Hold}
use Rattle.metrics_bucket.specs.declared.view.Hold.TheVariants.{Nothing, Ticket, Written, Settling}
use Rattle.metrics_bucket.specs.BucketState.{BucketState, base, place_index, blocks_of, side_marks, bits, packed, words_of, live_values, new_view, first_view, holding, holding_at, seeing, pushing, total, walks_of, walks_made, Act, look, ticket, write, finish, look_to_settle, split, join, state_after, left_part, right_part, both_parts}
use Rattle.metrics_bucket.specs.Facts.{weigh, weigh_pushes, ticket_in, HoldFits, Facts}
use Rattle.metrics_bucket.specs.Steps.{Seated, IsControl, control_looked, weight_looked, ticket_drawn, value_written, push_finished, live_side_looked, settled_value_looked}
use Rattle.metrics_bucket.specs.History.{May, Event, Runs, start, begins, IsPlain, turn_at, at_home, homes_of, FollowsHistory}
use Rattle.metrics_bucket.proofs.PlacedAlways.{placed}
use Rattle.metrics_bucket.proofs.Covering.{covers}
use Rattle.metrics_bucket.proofs.Histories.{facts}
use Rattle.metrics_bucket.proofs.Opening.{Ran, more, runs_more, start_more, light_more, get_last, set_last, ran_on, whole_all, whole_closed, most_weight}
use Rattle.metrics_bucket.proofs.Sums.{total_set, total_snoc, index_below, index_apart, same_here}
use Rattle.metrics_bucket.proofs.Keep.{alone}
use Rattle.metrics_bucket.proofs.MarkWords.{mark_le}
use Rattle.metrics_bucket.proofs.Packed.{bits_more, bits_below, side_mark, side_same, packed_get, packed_set, packed_none}
use Rattle.metrics_bucket.proofs.Leaving.{whole_live, learns, learns_reads}
use Rattle.metrics_bucket.proofs.Shares.{zeros}
use Rattle.metrics_bucket.proofs.ListParts.{set_left, set_right, get_left, get_right, get_take_drop}

abbrev pub TableState : Type 0
TableState = State Turn View

weigh_one : (xs : List ℕ) → weigh (λ _. 1) xs ≡ length xs
weigh_one [] = refl
weigh_one (x ∷ xs) = let r = weigh_one xs in omega arith

count_pushes : (xs : List Push) → weigh_pushes (λ _. 1) xs ≡ length xs
count_pushes [] = refl
count_pushes (x ∷ xs) = let r = count_pushes xs in omega arith

abbrev written : Hold → ℕ → Hold
written (Ticket s i) x = Written s i x
written hold x = hold

abbrev value_of : Hold → ℕ
value_of (Written s i x) = x
value_of hold = 0

abbrev place_of : Hold → ℕ
place_of (Written s i x) = i
place_of hold = 0

base_le : (places s : ℕ) → base places s ≤ places
base_le places zero = omega arith
base_le places (suc s) = omega arith

live_length : (places all : ℕ) (w : BucketState) → Facts places all w → length (live_values places w) ≡ w.given
live_length places all w f = let a = f.values_long in let b = f.room in let c = base_le places w.live in let d = length-drop (base places w.live) w.values in let e = length-take w.given (drop (base places w.live) w.values) in omega arith

module _ (places : ℕ) (many : Bool) where
  -- the state after a step that takes or gives what goes with the turn, by the state after it
  pub moved_by : (s : TableState) (k : FollowsHistory places many s) (i n id : ℕ) (cs : List (ℕ × Turn)) (v u : View) (act : Act) (slot : SlotAct Turn) → get_elem? k.1.views id ≡ some v → 0 < v.weight → May places k.2.0 k.1 id v act
      → words_of places (state_after places k.1 id v act) ≡ set (words_of places k.1) i n → (state_after places k.1 id v act).views ≡ set k.1.views id u
      → homes_of (state_after places k.1 id v act) ≡ homes_after s.homes cs slot → (many ≡ true → IsPlain act)
      → FollowsHistory places many (stepped s i n id cs u slot)
  moved_by s k i n id cs v u act slot there has may words views homes plain = (
    k.0 ++ record { by = id; act = act } ∷ [],
    state_after places k.1 id v act,
    ran_on places many k.0 k.1 id v act k.2 there has may plain,
    words ∙ ap (λ (l : List ℕ). set l i n) k.3,
    views ∙ ap (λ (l : List View). set l id u) k.4,
    homes,
  )

  -- the state after more acts
  pub arrived : (s : TableState) (k : FollowsHistory places many s) (i n id : ℕ) (cs : List (ℕ × Turn)) (v u : View) (h : List Event) (w : BucketState) → Ran places many h w → get_elem? k.1.views id ≡ some v
      → words_of places w ≡ set (words_of places k.1) i n → w.views ≡ set k.1.views id u → walks_of u ≡ walks_of v → w.turn ≡ k.1.turn → FollowsHistory places many (stepped s i n id cs u keeps)
  arrived s k i n id cs v u h w ran there words views walks turn =
      let made : walks_made w ≡ walks_made k.1 = (let t = total_set walks_of k.1.views id v u there in let e : walks_made w ≡ total walks_of (set k.1.views id u) = ap (total walks_of) views in omega arith) in (
        h,
        w,
        ran,
        words ∙ ap (λ (l : List ℕ). set l i n) k.3,
        views ∙ ap (λ (l : List View). set l id u) k.4,
        (λ j. at_home (turn j) (made j) ∷ []) ∙ k.5,
      )

  -- the state after another step
  pub moved : (s : TableState) (k : FollowsHistory places many s) (i n id : ℕ) (cs : List (ℕ × Turn)) (v u : View) (act : Act) → get_elem? k.1.views id ≡ some v → 0 < v.weight → May places k.2.0 k.1 id v act
      → words_of places (state_after places k.1 id v act) ≡ set (words_of places k.1) i n → (state_after places k.1 id v act).views ≡ set k.1.views id u
      → walks_of u ≡ walks_of v → (state_after places k.1 id v act).turn ≡ k.1.turn → (many ≡ true → IsPlain act)
      → FollowsHistory places many (stepped s i n id cs u keeps)
  moved s k i n id cs v u act there has may words views walks turn plain =
      arrived s k i n id cs v u (k.0 ++ record { by = id; act = act } ∷ []) (state_after places k.1 id v act) (ran_on places many k.0 k.1 id v act k.2 there has may plain) there words views walks turn

  pub still : (s : TableState) (k : FollowsHistory places many s) (i id : ℕ) (cs : List (ℕ × Turn)) (u : View) → get_elem? s.views id ≡ some u → FollowsHistory places many (stepped s i (get_or s.words i 0) id cs u keeps)
  still s k i id cs u at = (k.0, k.1, k.2, k.3 ∙ sym (set-get_or s.words i 0), k.4 ∙ sym (set_again s.views id u at), k.5)

  pub control : (s : TableState) (k : FollowsHistory places many s) → get_or s.words 0 0 ≡ 2 * k.1.given + k.1.live
  control s k = sym (ap (λ (l : List ℕ). get_or l 0 0) k.3)

  pub seated : (s : TableState) (k : FollowsHistory places many s) (id : ℕ) (v : View) → get_elem? s.views id ≡ some v → get_elem? k.1.views id ≡ some v
  seated s k id v at = ap (λ (l : List View). get_elem? l id) k.4 ∙ at

  -- a thread with the weight 1024 has the whole
  pub known_all : (s : TableState) (k : FollowsHistory places many s) (id : ℕ) (v : View) → get_elem? s.views id ≡ some v → v.weight ≡ 1024 → v.weight ≡ k.2.0
  known_all s k id v at whole = whole_all many k.2.0 k.0 k.1 id v k.2.2 (seated s k id v at) whole

  whole_control : (s : TableState) (k : FollowsHistory places many s) (id : ℕ) (v : View) → get_elem? s.views id ≡ some v → v.hold ≡ Nothing → IsControl v (get_or s.words 0 0)
  whole_control s k id v at free whole =
      let w : BucketState = k.1 in
      let there = seated s k id v at in
      let some_weight : 0 < v.weight = omega arith in
      let c = control s k in
      let side = (facts places many s k).side in
      let sole = known_all s k id v at whole in
      let l = whole_live places k.2.0 w id v (facts places many s k) there some_weight sole free in
      let b = learns places k.2.0 w id v (facts places many s k) there some_weight sole free (λ _. 1) in
      let p = count_pushes v.pushed in
      let q = weigh_one (live_values places w) in
      let r = live_length places k.2.0 w (facts places many s k) in
      (omega arith, omega arith)

  most : (s : TableState) (k : FollowsHistory places many s) (id : ℕ) (v : View) → get_elem? s.views id ≡ some v → v.weight ≤ 1024
  most s k id v at = most_weight places many k.2.0 k.0 k.1 id v k.2.2 (facts places many s k) (seated s k id v at)

  pub looks : (slots id : ℕ) (me : Seated) → 0 < me.0.weight → Allows (FollowsHistory places many) slots id me 0 (λ n. n) (control_looked (step slots 0 0 0 none) me)
  looks slots id me has s k _ at _ =
      let w : BucketState = k.1 in
      let x : ℕ = get_or s.words 0 0 in
      let c = control s k in
      let side = (facts places many s k).side in
      let there = seated s k id me.0 at in
      let size = ((facts places many s k).each id me.0 there).size has in
      let room = (facts places many s k).room in (
        seeing me.0 x,
        keeps,
        tt,
        subst (λ (n : ℕ). FollowsHistory places many (stepped s 0 x id me.1 (seeing me.0 n) keeps)) (sym c)
            (moved s k 0 x id me.1 me.0 (seeing me.0 (2 * w.given + w.live)) look there has tt (k.3 ∙ sym (set-get_or s.words 0 0) ∙ sym (ap (λ (l : List ℕ). set l 0 x) k.3)) refl refl refl (λ _. tt)),
        (refl, most s k id me.0 at, (λ _. omega arith), λ free. whole_control s k id me.0 at free),
      )

  pub weighs : (slots id : ℕ) (me : Seated) → Allows (FollowsHistory places many) slots id me 0 (λ n. n) (weight_looked (step slots 0 0 0 none) me)
  weighs slots id me s k _ at _ = (me.0, keeps, tt, still s k 0 id me.1 me.0 at, (refl, most s k id me.0 at))

  pub draws : (slots id : ℕ) (me : Seated) (old : ℕ) → 0 < me.0.weight → me.0.hold ≡ Nothing → old / 2 < places
      → Allows (FollowsHistory places many) slots id me 0 (λ n. either (eqb n old) (old + 2) n) (ticket_drawn (step slots 0 old (old + 2) none) me)
  draws slots id me old has free room s k _ at _ =
      let x : ℕ = get_or s.words 0 0 in
      let w : BucketState = k.1 in
      let c = control s k in
      let side = (facts places many s k).side in
      let there = seated s k id me.0 at in
      dite (ℕ_discrete x old)
      (λ hit.
      let u : View = holding_at me.0 w.epoch (Ticket w.live w.given) in
      let u' : View = holding_at me.0 w.epoch (Ticket (x % 2) (x / 2)) in
      let is : u ≡ u' = (let a : w.live ≡ x % 2 = omega arith in let b : w.given ≡ x / 2 = omega arith in λ i. holding_at me.0 w.epoch (Ticket (a i) (b i))) in
      let below_all : w.given < places = omega arith in (
        u',
        keeps,
        tt,
        subst (λ b. FollowsHistory places many (stepped s 0 (either b (old + 2) x) id me.1 u' keeps)) (sym (eq-eqb x old hit))
            (subst (λ (z : View). FollowsHistory places many (stepped s 0 (old + 2) id me.1 z keeps)) is
            (moved s k 0 (old + 2) id me.1 me.0 u ticket there has (free, below_all) (let n : 2 * (w.given + 1) + w.live ≡ old + 2 = omega arith in (λ i. n i ∷ w.turn ∷ (w.values ++ packed places w.marks))) refl refl refl (λ _. tt))),
        ((λ _. (w.epoch, refl)), (λ not. absurd (not hit)), whole_control s k id me.0 at free),
      ))
      (λ miss. (
        me.0,
        keeps,
        tt,
        subst (λ b. FollowsHistory places many (stepped s 0 (either b (old + 2) x) id me.1 me.0 keeps)) (sym (ne_eqb x old miss)) (still s k 0 id me.1 me.0 at),
        ((λ hit. absurd (miss hit)), (λ _. refl), whole_control s k id me.0 at free),
      ))

  pub puts : (slots id : ℕ) (me : Seated) (word x s i : ℕ) → 0 < me.0.weight → me.0.hold ≡ Ticket s i → word ≡ 2 + place_index places s i
      → Allows (FollowsHistory places many) slots id me word (λ _. x) (λ _. value_written (step slots word x 0 none) me x)
  puts slots id me word x s i has e is st k _ at _ =
      let w : BucketState = k.1 in
      let there = seated st k id me.0 at in
      let u : View = holding me.0 (Written s i x) in
      let fits : HoldFits places k.2.0 w me.0.weight (Ticket s i) = subst (HoldFits places k.2.0 w me.0.weight) e ((facts places many st k).each id me.0 there).hold in
      let long = (facts places many st k).values_long in
      let in_range = index_below places s i fits.1 in
      let same_word : word ≡ suc (suc (place_index places s i)) = omega arith in (
        u,
        keeps,
        tt,
        moved st k word x id me.1 me.0 u (write s i x) there has e
            (sym (ap (λ (z : ℕ). set (words_of places w) z x) same_word ∙ ap (λ (l : List ℕ). (2 * w.given + w.live) ∷ w.turn ∷ l) (set_left w.values (packed places w.marks) (place_index places s i) x (omega arith)))) refl refl refl (λ _. tt),
        λ s' i' e'. ap (λ (z : Hold). (holding me.0 (written z x), me.1)) (sym e ∙ e'),
      )

  -- the word of a block's marks
  pub marks_found : (st : TableState) (k : FollowsHistory places many st) (word s block : ℕ) → s < 2 → block < blocks_of places → word ≡ 2 + (places + places) + place_index (blocks_of places) s block
      → get_or st.words word 0 ≡ bits (side_marks places s k.1.marks) (64 * block) 64
  marks_found st k word s block a l is =
      let w : BucketState = k.1 in
      let long = (facts places many st k).values_long in
      let i : ℕ = place_index (blocks_of places) s block in
      let same_word : word ≡ suc (suc ((places + places) + i)) = omega arith in
      ap (λ (l : List ℕ). get_or l word 0) (sym k.3)
      ∙ (ap (λ (z : ℕ). get_or (words_of places w) z 0) same_word ∙ (get_right w.values (packed places w.marks) ((places + places) + i) i (omega arith) ∙ packed_get places w.marks s block a l))

  -- the words when the marks of one block change
  pub marks_written : (st : TableState) (k : FollowsHistory places many st) (word s block n : ℕ) (marks : List ℕ) → s < 2 → block < blocks_of places → word ≡ 2 + (places + places) + place_index (blocks_of places) s block
      → ((t i : ℕ) → t < 2 → i < places → (t ≡ s → 64 * block ≤ i → i < 64 * block + 64 → ⊥) → get_or k.1.marks (place_index places t i) 0 ≡ get_or marks (place_index places t i) 0)
      → bits (side_marks places s marks) (64 * block) 64 ≡ n → (2 * k.1.given + k.1.live) ∷ k.1.turn ∷ (k.1.values ++ packed places marks) ≡ set (words_of places k.1) word n
  marks_written st k word s block n marks a l is else now =
      let w : BucketState = k.1 in
      let long = (facts places many st k).values_long in
      let i : ℕ = place_index (blocks_of places) s block in
      let same_word : suc (suc ((places + places) + i)) ≡ word = omega arith in
      ap (λ (l : List ℕ). (2 * w.given + w.live) ∷ w.turn ∷ (w.values ++ l)) (packed_set places w.marks marks s block a l else ∙ ap (λ (z : ℕ). set (packed places w.marks) i z) now)
      ∙ (ap (λ (l : List ℕ). (2 * w.given + w.live) ∷ w.turn ∷ l) (sym (set_right w.values (packed places w.marks) ((places + places) + i) i n (omega arith))) ∙ ap (λ (z : ℕ). set (words_of places w) z n) same_word)

  pub marks : (slots id : ℕ) (me : Seated) (word bit s i x : ℕ) → 0 < me.0.weight → me.0.hold ≡ Written s i x → word ≡ 2 + (places + places) + place_index (blocks_of places) s (i / 64) → bit ≡ 2 ^ (i % 64)
      → Allows (FollowsHistory places many) slots id me word (λ n. (n + bit) % 2 ^ 64) (push_finished (step slots word bit 0 none) me)
  marks slots id me word bit s i x has e is power st k _ at _ =
      let w : BucketState = k.1 in
      let f = facts places many st k in
      let there = seated st k id me.0 at in
      let u : View = pushing me.0 i x in
      let fits : HoldFits places k.2.0 w me.0.weight (Written s i x) = subst (HoldFits places k.2.0 w me.0.weight) e (f.each id me.0 there).hold in
      let free = (alone places k.2.0 w f id me.0 s i there fits.0 fits.1 (ap (ticket_in s i) e ∙ same_here s i s i refl refl)).0 in
      let index : ℕ = place_index places s i in
      let new : List ℕ = set w.marks index 1 in
      let below = index_below places s i fits.1 in
      let long = f.marks_long in
      let inside = fits.1 in
      let first : ℕ = 64 * (i / 64) in
      let place : first + i % 64 ≡ i = omega arith in
      let now : get_or new index 0 ≡ 1 = get_or-set_same w.marks index 1 0 (omega arith) in
      let other : (t j : ℕ) → t < 2 → j < places → (t ≡ s → j ≡ i → ⊥) → get_or w.marks (place_index places t j) 0 ≡ get_or new (place_index places t j) 0 =
      λ t j a b apart. sym (get_or-set_other w.marks index (place_index places t j) 1 0 (index_apart places t j s i a fits.0 b fits.1 apart))
      in
      let old_at : (marks : List ℕ) → get_or (side_marks places s marks) (first + i % 64) 0 ≡ get_or marks index 0 = λ marks. ap (λ (z : ℕ). get_or (side_marks places s marks) z 0) place ∙ side_mark places s marks i inside in
      let more = bits_more (side_marks places s w.marks) (side_marks places s new) first 64 (i % 64) (omega arith) (old_at w.marks ∙ free) (old_at new ∙ now)
      (λ j _ _ apart. side_same places s w.marks new j (λ in_side. other s j fits.0 in_side (λ _ q. apart (q ∙ sym place)))) in
      let marks_after : (j : ℕ) → get_or (side_marks places s new) j 0 ≤ 1 = λ j. dite (ℕ_discrete j i)
      (λ here. let a : get_or (side_marks places s new) j 0 ≡ 1 = ap (λ (z : ℕ). get_or (side_marks places s new) z 0) here ∙ (side_mark places s new i inside ∙ now) in omega arith)
      (λ apart. let a = side_same places s w.marks new j (λ in_side. other s j fits.0 in_side (λ _ q. apart q)) in let b = mark_le places k.2.0 w f s j fits.0 in omega arith) in
      let small : bits (side_marks places s new) first 64 < 2 ^ 64 = bits_below (side_marks places s new) first 64 (λ j _ _. marks_after j) in
      let found = marks_found st k word s (i / 64) fits.0 (omega arith) is in
      let sum : bits (side_marks places s new) first 64 ≡ (get_or st.words word 0 + bit) % 2 ^ 64 = omega arith in (
        u,
        keeps,
        tt,
        moved st k word ((get_or st.words word 0 + bit) % 2 ^ 64) id me.1 me.0 u (finish s i x) there has e
            (marks_written st k word s (i / 64) ((get_or st.words word 0 + bit) % 2 ^ 64) new fits.0 (omega arith) is (λ t j a b apart. other t j a b (λ p q. apart p (omega arith) (omega arith))) sum) refl refl refl (λ _. tt),
        λ s' i' x' e'. ap (λ (z : Hold). (pushing me.0 (place_of z) (value_of z), me.1)) (sym e ∙ e'),
      )

  pub gathers_all : (slots id : ℕ) (me : Seated) → me.0.weight ≡ 1024 → me.0.hold ≡ Nothing → Allows (FollowsHistory places many) slots id me 0 (λ n. n) (live_side_looked (step slots 0 0 0 none) me)
  gathers_all slots id me whole free s k _ at _ =
      let w : BucketState = k.1 in
      let there = seated s k id me.0 at in
      let sole = known_all s k id me.0 at whole in
      let has : 0 < me.0.weight = omega arith in
      let x : ℕ = get_or s.words 0 0 in
      let c = control s k in
      let side = (facts places many s k).side in
      let vs : List ℕ = live_values places w in
      let u : View = holding me.0 (Settling w.live vs) in
      let u' : View = holding me.0 (Settling (x % 2) vs) in
      let is : u ≡ u' = (let a : w.live ≡ x % 2 = omega arith in λ i. holding me.0 (Settling (a i) vs)) in
      let l = live_length places k.2.0 w (facts places many s k) in
      let size = ((facts places many s k).each id me.0 there).size has in
      let shown = covers places k.2.0 w id me.0 (facts places many s k) (placed places many s k) there has sole free l (λ i b. get_take_drop w.values (base places w.live) w.given i b) in
      let room = (facts places many s k).room in (
        u',
        keeps,
        tt,
        subst (λ (z : View). FollowsHistory places many (stepped s 0 x id me.1 z keeps)) is
            (moved s k 0 x id me.1 me.0 u look_to_settle there has (free, sole) (k.3 ∙ sym (set-get_or s.words 0 0) ∙ sym (ap (λ (l : List ℕ). set l 0 x) k.3)) refl refl refl (λ e. absurd (whole_closed many k.2.0 k.0 w id me.0 k.2.2 there whole e))),
        (vs, refl, omega arith, omega arith, learns places k.2.0 w id me.0 (facts places many s k) there has sole free, learns_reads places k.2.0 w id me.0 (facts places many s k) there has sole free, shown),
      )

  pub recalls : (slots id : ℕ) (me : Seated) (word : ℕ) → 0 < me.0.weight → Allows (FollowsHistory places many) slots id me word (λ n. n) (settled_value_looked (step slots word 0 0 none) me)
  recalls slots id me word has s k _ at _ =
      let w : BucketState = k.1 in
      let there = seated s k id me.0 at in
      let size = ((facts places many s k).each id me.0 there).size has in (
        me.0,
        keeps,
        tt,
        still s k word id me.1 me.0 at,
        (
          refl,
          λ side i vs e is l.
              let fits : HoldFits places k.2.0 w me.0.weight (Settling side vs) = subst (HoldFits places k.2.0 w me.0.weight) e ((facts places many s k).each id me.0 there).hold in
              let n = live_length places k.2.0 w (facts places many s k) in
              let n' : length vs ≡ length (live_values places w) = ap length fits.2 in
              let room = (facts places many s k).room in
              let long = (facts places many s k).values_long in
              let in_range = index_below places w.live i (omega arith) in
              let same_word : word ≡ suc (suc (place_index places w.live i)) = (let a : place_index me.0.places side i ≡ place_index places w.live i = (λ z. place_index (size z) (fits.1 z) i) in omega arith) in
              ap (λ (l : List ℕ). get_or l word 0) (sym k.3)
              ∙ (ap (λ (z : ℕ). get_or (words_of places w) z 0) same_word
              ∙ (get_left w.values (packed places w.marks) (place_index places w.live i) (omega arith)
              ∙ (sym (get_take_drop w.values (base places w.live) w.given i (omega arith)) ∙ sym (ap (λ (z : List ℕ). get_or z i 0) fits.2)))),
        ),
      )

  pub cuts : many ≡ false → (id : ℕ) (v : View) → 1 < v.weight → v.hold ≡ Nothing → Splits (FollowsHistory places many) id v (left_part v) (right_part v)
  cuts closed id v heavy free s k at =
      let has : 0 < v.weight = omega arith in
      let walks : walks_made (state_after places k.1 id v split) ≡ walks_made k.1 =
      (let t = total_set walks_of k.1.views id v (left_part v) (seated s k id v at) in let n = total_snoc walks_of (set k.1.views id (left_part v)) (right_part v) in omega arith)
      in (
        k.0 ++ record { by = id; act = split } ∷ [],
        state_after places k.1 id v split,
        ran_on places many k.0 k.1 id v split k.2 (seated s k id v at) has (free, heavy) (λ e. absurd (false≢true (sym closed ∙ e))),
        k.3,
        ap (λ (l : List View). set l id (left_part v) ++ right_part v ∷ []) k.4,
        (λ j. at_home k.1.turn (walks j) ∷ []) ∙ k.5,
      )

  pub glues : many ≡ false → (id : ℕ) (v : View) (other_id : ℕ) (x : View) → 0 < v.weight → v.hold ≡ Nothing → x.hold ≡ Nothing → Joins (FollowsHistory places many) id v other_id x (both_parts v x) (new_view 0 0)
  glues closed id v other_id x has free free_too s k at apart there =
      let there' : get_elem? k.1.views other_id ≡ some x = sym (set_else k.1.views id other_id (both_parts v x) apart) ∙ (ap (λ (l : List View). get_elem? (set l id (both_parts v x)) other_id) k.4 ∙ there) in
      let walks : walks_made (state_after places k.1 id v (join other_id x)) ≡ walks_made k.1 =
      (let t = total_set walks_of k.1.views id v (both_parts v x) (seated s k id v at) in
      let n = total_set walks_of (set k.1.views id (both_parts v x)) other_id x (new_view 0 0) (set_else k.1.views id other_id (both_parts v x) apart ∙ there') in
      let a = length-append v.taken x.taken in
      let b = length-append v.read x.read in
      omega arith)
      in (
        k.0 ++ record { by = id; act = join other_id x } ∷ [],
        state_after places k.1 id v (join other_id x),
        ran_on places many k.0 k.1 id v (join other_id x) k.2 (seated s k id v at) has (free, free_too, apart, there') (λ e. absurd (false≢true (sym closed ∙ e))),
        k.3,
        ap (λ (l : List View). set (set l id (both_parts v x)) other_id (new_view 0 0)) k.4,
        (λ j. at_home k.1.turn (walks j) ∷ []) ∙ k.5,
      )

  pub zeros-append : (n m : ℕ) → zeros n ++ zeros m ≡ zeros (n + m)
  zeros-append zero m = let e : m ≡ 0 + m = omega arith in ap zeros e
  zeros-append (suc n) m = ap (λ (l : List ℕ). 0 ∷ l) (zeros-append n m) ∙ (let e : suc (n + m) ≡ suc n + m = omega arith in ap zeros e)

  starts_words : (n : ℕ) → n ≡ 2 + 2 * places + 2 * blocks_of places → 0 ∷ 0 ∷ (zeros (places + places) ++ packed places (zeros (places + places))) ≡ zeros n
  starts_words n e =
      let b : ℕ = blocks_of places in
      ap (λ (l : List ℕ). 0 ∷ 0 ∷ (zeros (places + places) ++ l)) (packed_none places (places + places) ∙ zeros-append b b)
      ∙ (ap (λ (l : List ℕ). 0 ∷ 0 ∷ l) (zeros-append (places + places) (b + b)) ∙ (let q : suc (suc ((places + places) + (b + b))) ≡ n = omega arith in ap zeros q))

pub starts : (many : Bool) (places n : ℕ) → n ≡ 2 + 2 * places + 2 * blocks_of places → FollowsHistory places many (opening (replicate n 0) (turn_at 0 ∷ []) (first_view many places))
starts false places n e = ([], begins false places 1024, (1024, refl, refl), starts_words places false n e, refl, refl)
starts true places n e =
    ([], begins true places 1, (1, refl, (tt, λ j v there. light_more places [] (λ i u none. absurd (some-ne-none u (sym none))) j v there)), starts_words places true n e, refl, refl)

-- a thread of weight 1 may enter an open bucket at any time, and looks at the control word
pub enters : (places slots : ℕ) → Enters (FollowsHistory places true) slots 0 (λ n v. control_looked (step slots 0 0 0 none) (first_view true places, []) n (v, []))
enters places slots s k _ _ =
    let w : BucketState = k.1 in
    let x : ℕ = get_or s.words 0 0 in
    let c = control places true s k in
    let side = (facts places true s k).side in
    let room = (facts places true s k).room in
    let new : View = new_view places 1 in
    let id : ℕ = length w.views in
    let all : ℕ = k.2.0 in
    let joined : Ran places true k.0 (more places w) =
    (suc all, subst (λ (z : BucketState). Runs places (suc all) z k.0 (more places w)) (start_more places all) (runs_more places all (start places all) k.0 w k.2.2.0 k.2.1), (k.2.2.0, light_more places w.views k.2.2.1))
    in
    let y : View = seeing new (2 * w.given + w.live) in
    let made : walks_made (state_after places (more places w) id new look) ≡ walks_made w = ap (total walks_of) (set_last w.views new y) ∙ (let t = total_snoc walks_of w.views y in omega arith) in (
      seeing new x,
      (
        k.0 ++ record { by = id; act = look } ∷ [],
        state_after places (more places w) id new look,
        ran_on places true k.0 (more places w) id new look joined (get_last w.views new) (omega arith) tt (λ _. tt),
        k.3,
        set_last w.views new y ∙ (λ i. k.4 i ++ seeing new (sym c i) ∷ []),
        (λ i. at_home w.turn (made i) ∷ []) ∙ k.5,
      ),
      (refl, omega arith, (λ _. omega arith), λ _ whole. absurd (omega arith)),
    )
