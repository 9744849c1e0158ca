-- What the rule allows a walk's steps at a place.
use Rattle.std.proofs.Common.{Bool, ◌≡◌, ⊎_elim, inl, inr, ℕ, zero, suc, ◌+◌, ◌-◌, ◌*◌, ◌%◌, ◌^◌, ◌<◌, ◌≤◌, List, [], ◌∷◌, ◌++◌, length, min, get_or, set, refl, sym, ap, ◌∙◌, subst, arith}
use mathlib.Core.Logic.{dite}
use mathlib.Core.Option.{none, some}
use native.Mathlib.Decide.{ℕ_discrete, dec_le}
use lib.ListN.{get_elem?}
use lib.Seq.{set-get_or}
use Rattle.atomic_table.specs.Table.{step, keeps, stepped, Allows}
use Rattle.atomic_table.proofs.Lists.{set_again, set_here}
use Rattle.metrics_bucket.specs.declared.view.View.{View}
use Rattle.metrics_bucket.specs.declared.view.Hold.{Hold}
use Rattle.metrics_bucket.specs.declared.view.Hold.TheVariants.{Nothing, Ticket, Written, Claimed, SideKnown, Reading, Clearing, Settling}
use Rattle.metrics_bucket.specs.declared.view.Visit.{Visit}
use Rattle.metrics_bucket.specs.declared.view.Visit.TheVariants.{Unseen, Marked, Read, Wiped}
use Rattle.metrics_bucket.specs.BucketState.{BucketState, place_index, blocks_of, side_marks, packed, words_of, walks_of, holding, put_visit, side_of, visits_of, values_in, see, read, wipe}
use Rattle.metrics_bucket.specs.Facts.{HoldFits, Facts}
use Rattle.metrics_bucket.specs.Steps.{Seated}
use Rattle.metrics_bucket.specs.History.{HasVisit, Event, FollowsHistory}
use Rattle.metrics_bucket.specs.WalkedPlaces.{WalkKind, reads, clears, walking, AreUnseen, AreRead, Goes, IsBlock}
use Rattle.metrics_bucket.specs.WalkSteps.{IsValueOf, AreSet, marks_looked, value_read, marks_wiped}
use Rattle.metrics_bucket.proofs.Sums.{index_below}
use Rattle.metrics_bucket.proofs.Keep.{at_below, other_side}
use Rattle.metrics_bucket.proofs.Histories.{facts}
use Rattle.metrics_bucket.proofs.Opening.{Ran, ran_on}
use Rattle.metrics_bucket.proofs.ListParts.{get_left}
use Rattle.metrics_bucket.proofs.Packed.{bits_none, bits_full, side_mark, side_past}
use Rattle.metrics_bucket.proofs.MarkWords.{mark_le, clean, wiped_from, wiped_else, wiped_here}
use Rattle.metrics_bucket.proofs.WalkCode.{set_twice, side_walking, put_walking, with_visits, put_visits, has_visit, goes_none, goes_more, goes_end, values_kept}
use Rattle.metrics_bucket.proofs.Allowed.{TableState, arrived, still, seated, marks_found, marks_written}
use Rattle.metrics_bucket.proofs.AllowedClaims.{same_words}

module _ (places : ℕ) (many : Bool) where
  -- a walk's place is within its side
  walk_in : (all : ℕ) (w : BucketState) (weight i : ℕ) (c : Visit) (hold : Hold) → Facts places all w → HoldFits places all w weight hold → HasVisit hold i c → (side_of hold < 2) × (i < places)
  walk_in all w weight i c (Reading s visits) f h there = let a = h.0 in let b = f.side in let d = h.1 in let e = f.room in let g = at_below visits i c there in (omega arith, omega arith)
  walk_in all w weight i c (Clearing s visits) f h there = let o = (other_side w.live f.side).0 in let d = h.1 in let g = at_below visits i c there in (subst (λ (z : ℕ). z < 2) (sym h.0) o, omega arith)
  walk_in all w weight i c Nothing f h there = absurd there
  walk_in all w weight i c (Ticket s j) f h there = absurd there
  walk_in all w weight i c (Written s j x) f h there = absurd there
  walk_in all w weight i c Claimed f h there = absurd there
  walk_in all w weight i c (SideKnown s) f h there = absurd there
  walk_in all w weight i c (Settling s xs) f h there = absurd there

  -- a walk's side, and how many places it has at most
  chunk_in : (all : ℕ) (w : BucketState) (weight side : ℕ) (kind : WalkKind) (visits : List Visit) → Facts places all w → HoldFits places all w weight (walking kind side visits) → (side < 2) × (length visits ≤ places)
  chunk_in all w weight side reads visits f h = let a = h.0 in let b = f.side in let d = h.1 in let e = f.room in (omega arith, omega arith)
  chunk_in all w weight side clears visits f h = let o = (other_side w.live f.side).0 in (subst (λ (z : ℕ). z < 2) (sym h.0) o, h.1)

  -- acts at a walk's places, one after the other
  module _ (id : ℕ) (w : BucketState) (m : Seated) (there : get_elem? w.views id ≡ some m.0) (has : 0 < m.0.weight) (side start : ℕ) where
    abbrev there_after : (marks : List ℕ) (u : View) → get_elem? (set w.views id u) id ≡ some u
    there_after marks u = set_here w.views id u (at_below w.views id m.0 there)

    abbrev after : List ℕ → View → BucketState
    after marks u = record w { marks = marks; views = set w.views id u }

    heavy : (form : ℕ → Visit) (kind : WalkKind) (u : View) (end : ℕ) → Goes form kind m (u, m.1) side start end → 0 < u.weight
    heavy form kind u end g = subst (λ (z : Seated). 0 < z.0.weight) (sym g.me) has

    twice : (marks : List ℕ) (u u' : View) → record (after marks u) { views = set (set w.views id u) id u' } ≡ after marks u'
    twice marks u u' = λ i. record w { marks = marks; views = set_twice w.views id u u' i }

    none_yet : (form : ℕ → Visit) (kind : WalkKind) (h : List Event) → Ran places many h w → m.0.hold ≡ walking kind side (visits_of m.0.hold) → Ran places many h (after w.marks m.0) × Goes form kind m m side start (start + 0)
    none_yet form kind h ran e = (subst (Ran places many h) (λ i. record w { views = sym (set_again w.views id m.0 there) i }) ran, goes_none form kind m side start (start + 0) e (omega arith))

    sees_all : (kind : WalkKind) (n : ℕ) (h : List Event) → Ran places many h w → m.0.hold ≡ walking kind side (visits_of m.0.hold) → AreUnseen start (start + n) (visits_of m.0.hold)
        → ((i : ℕ) → start ≤ i → i < start + n → get_or w.marks (place_index places side i) 0 ≡ 1) → (h' : List Event) × (u : View) × Ran places many h' (after w.marks u) × Goes (λ _. Marked) kind m (u, m.1) side start (start + n)
    sees_all kind zero h ran e unseen marked = let t = none_yet (λ _. Marked) kind h ran e in (h, m.0, t.0, t.1)
    sees_all kind (suc n) h ran e unseen marked =
        let r = sees_all kind n h ran e (λ i a b. unseen i a (omega arith)) (λ i a b. marked i a (omega arith)) in
        let u : View = r.1 in
        let i : ℕ = start + n in
        let g = r.3 in
        let hold : u.hold ≡ walking kind side (visits_of u.hold) = ap (λ (z : Seated). z.0.hold) g.me in
        let next : get_elem? (visits_of u.hold) i ≡ some Unseen = g.others i (inr (omega arith)) ∙ unseen i (omega arith) (omega arith) in
        let u' : View = holding u (put_visit u.hold i Marked) in
        let e_side : side_of u.hold ≡ side = ap side_of hold ∙ side_walking kind side (visits_of u.hold) in
        let more = ran_on places many r.0 (after w.marks u) id u (see i) r.2 (there_after w.marks u) (heavy (λ _. Marked) kind u i g)
        (has_visit kind (u, m.1) side i Unseen hold next, ap (λ (z : ℕ). get_or w.marks (place_index places z i) 0) e_side ∙ marked i (omega arith) (omega arith)) (λ _. tt) in (
          r.0 ++ record { by = id; act = see i } ∷ [],
          u',
          subst (Ran places many (r.0 ++ record { by = id; act = see i } ∷ [])) (twice w.marks u u') more,
          goes_end (λ _. Marked) kind m (u', m.1) side start (suc i) (start + suc n) (omega arith)
              (goes_more (λ _. Marked) kind m (u, m.1) (u', m.1) side start i 0 Unseen g next (omega arith) (λ k. (holding u ((ap (λ (z : Hold). put_visit z i Marked) hold ∙ put_walking kind side i (visits_of u.hold) Marked) k), m.1))),
        )

    wipes_all : (n : ℕ) (h : List Event) → Ran places many h w → m.0.hold ≡ Clearing side (visits_of m.0.hold) → AreRead start (start + n) (visits_of m.0.hold)
        → (h' : List Event) × (u : View) × Ran places many h' (after (wiped_from places side start n w.marks) u) × Goes Wiped clears m (u, m.1) side start (start + n) × (values_in (visits_of u.hold) ≡ values_in (visits_of m.0.hold))
    wipes_all zero h ran e known = let t = none_yet Wiped clears h ran e in (h, m.0, t.0, t.1, refl)
    wipes_all (suc n) h ran e known =
        let r = wipes_all n h ran e (λ i a b. known i a (omega arith)) in
        let u : View = r.1 in
        let i : ℕ = start + n in
        let g = r.3 in
        let marks : List ℕ = wiped_from places side start n w.marks in
        let visits : List Visit = visits_of u.hold in
        let hold : u.hold ≡ Clearing side visits = ap (λ (z : Seated). z.0.hold) g.me in
        let t = known i (omega arith) (omega arith) in
        let next : get_elem? visits i ≡ some (Read t.0) = g.others i (inr (omega arith)) ∙ t.1 in
        let u' : View = holding u (put_visit u.hold i (Wiped t.0)) in
        let is : u' ≡ holding u (Clearing side (set visits i (Wiped t.0))) = ap (λ (z : Hold). holding u (put_visit z i (Wiped t.0))) hold in
        let more = ran_on places many r.0 (after marks u) id u (wipe side i t.0) r.2 (there_after marks u) (heavy Wiped clears u i g) (visits, hold, next) (λ _. tt) in (
          r.0 ++ record { by = id; act = wipe side i t.0 } ∷ [],
          u',
          subst (Ran places many (r.0 ++ record { by = id; act = wipe side i t.0 } ∷ [])) (twice (wiped_from places side start (suc n) w.marks) u u') more,
          goes_end Wiped clears m (u', m.1) side start (suc i) (start + suc n) (omega arith) (goes_more Wiped clears m (u, m.1) (u', m.1) side start i t.0 (Read t.0) g next (omega arith) (λ k. (is k, m.1))),
          ap (λ (z : View). values_in (visits_of z.hold)) is ∙ (values_kept visits i t.0 next ∙ r.4),
        )

  -- a step that stands for these acts
  module _ (id : ℕ) (me : Seated) (has : 0 < me.0.weight) (kind : WalkKind) (word side block end : ℕ) (is : IsBlock kind me word side block end) where
    abbrev count : ℕ
    count = end - 64 * block

    -- the same block by another name
    same_block : (kind' : WalkKind) (side' block' end' : ℕ) → IsBlock kind' me word side' block' end' → ((vs : List Visit) → walking kind side vs ≡ walking kind' side' vs) × (side ≡ side') × (block ≡ block') × (end ≡ end')
    same_block kind' side' block' end' is' =
        let hold = sym is.hold ∙ is'.hold in
        let sides = sym (side_walking kind side (visits_of me.0.hold)) ∙ (ap side_of hold ∙ side_walking kind' side' (visits_of me.0.hold)) in
        let at : place_index (blocks_of me.0.places) side block' ≡ place_index (blocks_of me.0.places) side' block' = ap (λ (z : ℕ). place_index (blocks_of me.0.places) z block') sides in
        let one = is.word_is in
        let two = is'.word_is in
        let blocks : block ≡ block' = omega arith in (
          (λ vs. sym (put_visits kind side (visits_of me.0.hold) vs) ∙ (ap (λ (z : Hold). with_visits z vs) hold ∙ put_visits kind' side' (visits_of me.0.hold) vs)),
          sides,
          blocks,
          is.cut ∙ (ap (λ (z : ℕ). min (length (visits_of me.0.hold)) (64 * z + 64)) blocks ∙ sym is'.cut),
        )

    same_goes : (form : ℕ → Visit) (m' : Seated) (kind' : WalkKind) (side' block' end' : ℕ) → IsBlock kind' me word side' block' end' → Goes form kind me m' side (64 * block) end → Goes form kind' me m' side' (64 * block') end'
    same_goes form m' kind' side' block' end' is' g =
        let t = same_block kind' side' block' end' is' in
        let b = t.2 in
        let e = t.3 in
        record {
          me = g.me ∙ (λ i. (holding me.0 (t.0 (visits_of m'.0.hold) i), me.1));
          long = g.long;
          found = λ i x y. g.found i (omega arith) (omega arith);
          others = λ i o. g.others i (⊎_elim (λ (z : i < 64 * block'). inl (omega arith)) (λ (z : end' ≤ i). inr (omega arith)) o);
        }

    -- where the block is
    inside : (s : TableState) (k : FollowsHistory places many s) → get_elem? s.views id ≡ some me.0
        → (side < 2) × (end ≤ places) × (block < blocks_of places) × (word ≡ 2 + (places + places) + place_index (blocks_of places) side block) × (64 * block + count ≡ end) × (count ≤ 64) × (length (visits_of me.0.hold) ≤ places)
    inside s k at =
        let mine = (facts places many s k).each id me.0 (seated places many s k id me.0 at) in
        let size = mine.size has in
        let in_side = chunk_in k.2.0 k.1 me.0.weight side kind (visits_of me.0.hold) (facts places many s k) (subst (HoldFits places k.2.0 k.1 me.0.weight) is.hold mine.hold) in
        let some_place = is.some_place in
        let cut = is.cut in
        let room = in_side.1 in (
          in_side.0,
          omega arith,
          omega arith,
          is.word_is ∙ (λ i. 2 + (size i + size i) + place_index (blocks_of (size i)) side block),
          omega arith,
          omega arith,
          room,
        )

    pub sees_marks : (slots : ℕ) → AreUnseen (64 * block) end (visits_of me.0.hold) → Allows (FollowsHistory places many) slots id me word (λ n. n) (marks_looked (step slots word 0 0 none) me)
    sees_marks slots unseen s k _ at _ =
        let x : ℕ = get_or s.words word 0 in
        let w : BucketState = k.1 in
        let f = facts places many s k in
        let there = seated places many s k id me.0 at in
        let t = inside s k at in
        let room = t.1 in
        let all = t.4 in
        let found = marks_found places many s k word side block t.0 t.2 t.3 in
        let same_test : (kind' : WalkKind) (side' block' end' : ℕ) → IsBlock kind' me word side' block' end' → AreSet (end' - 64 * block') x → AreSet count x =
        λ kind' side' block' end' is' set'. let b = same_block kind' side' block' end' is' in subst (λ (z : ℕ). AreSet z x) (λ i. sym b.3 i - 64 * sym b.2 i) set'
        in
        dite (ℕ_discrete (x % 2 ^ count) (2 ^ count - 1))
        (λ full.
        let marked : (i : ℕ) → 64 * block ≤ i → i < 64 * block + count → get_or w.marks (place_index places side i) 0 ≡ 1 = λ i a b.
        sym (side_mark places side w.marks i (omega arith))
        ∙ bits_full (side_marks places side w.marks) (64 * block) 64 count t.5 (λ j _ _. mark_le places k.2.0 w f side j t.0) (ap (λ (z : ℕ). z % 2 ^ count) (sym found) ∙ full) i a b
        in
        let r = sees_all id w me there has side (64 * block) kind count k.0 k.2 is.hold (λ i a b. unseen i a (omega arith)) marked in
        let g = goes_end (λ _. Marked) kind me (r.1, me.1) side (64 * block) (64 * block + count) end all r.3 in (
          r.1,
          keeps,
          tt,
          arrived places many s k word x id me.1 me.0 r.1 r.0 (after id w me there has side (64 * block) w.marks r.1) r.2 there (k.3 ∙ (sym (set-get_or s.words word 0) ∙ sym (ap (λ (l : List ℕ). set l word x) k.3))) refl (ap (λ (z : Seated). walks_of z.0) g.me) refl,
          λ kind' side' block' end' is' unseen'. ((λ _. same_goes (λ _. Marked) (r.1, me.1) kind' side' block' end' is' g), (λ not. let b = same_block kind' side' block' end' is' in absurd (not (subst (λ (z : ℕ). AreSet z x) (λ i. b.3 i - 64 * b.2 i) full)))),
        ))
        (λ other. (me.0, keeps, tt, still places many s k word id me.1 me.0 at, λ kind' side' block' end' is' unseen'. ((λ full. absurd (other (same_test kind' side' block' end' is' full))), (λ _. refl))))

  pub wipes_marks : (slots id : ℕ) (me : Seated) (word side block end : ℕ) → 0 < me.0.weight → IsBlock clears me word side block end → AreRead (64 * block) end (visits_of me.0.hold)
      → Allows (FollowsHistory places many) slots id me word (λ _. 0) (λ _. marks_wiped (step slots word 0 0 none) me 0)
  wipes_marks slots id me word side block end has is known s k _ at _ =
      let w : BucketState = k.1 in
      let f = facts places many s k in
      let there = seated places many s k id me.0 at in
      let t = inside id me has clears word side block end is s k at in
      let room = t.1 in
      let all = t.4 in
      let short = t.5 in
      let cut = is.cut in
      let n : ℕ = end - 64 * block in
      let marks : List ℕ = wiped_from places side (64 * block) n w.marks in
      let r = wipes_all id w me there has side (64 * block) n k.0 k.2 is.hold (λ i a b. known i a (omega arith)) in
      let g = goes_end Wiped clears me (r.1, me.1) side (64 * block) (64 * block + n) end all r.3 in
      let none_left : (i : ℕ) → 64 * block ≤ i → i < 64 * block + 64 → get_or (side_marks places side marks) i 0 ≡ 0 = λ i a b. dite (dec_le places i) (λ past. side_past places side marks i past)
      (λ in_side. side_mark places side marks i (omega arith) ∙ dite (dec_le end i)
      (λ past. wiped_else places side (64 * block) w.marks t.0 f.marks_long n side i (omega arith) t.0 (omega arith) (λ _ _ q. absurd (omega arith)) ∙ clean places k.2.0 w f id me.0 side i (visits_of me.0.hold) there is.hold (omega arith) (omega arith))
      (λ early. wiped_here places side (64 * block) w.marks t.0 f.marks_long n i (omega arith) a (omega arith)))
      in (
        r.1,
        keeps,
        tt,
        arrived places many s k word 0 id me.1 me.0 r.1 r.0 (after id w me there has side (64 * block) marks r.1) r.2 there
            (marks_written places many s k word side block 0 marks t.0 t.2 t.3 (λ a i p q apart. sym (wiped_else places side (64 * block) w.marks t.0 f.marks_long n a i (omega arith) p q (λ x y z. apart x y (omega arith)))) (bits_none (side_marks places side marks) (64 * block) 64 none_left)) refl (ap (λ (z : Seated). walks_of z.0) g.me) refl,
        λ side' block' end' is' read'. (same_goes id me has clears word side block end is Wiped (r.1, me.1) clears side' block' end' is' g, r.4),
      )

  module _ (id : ℕ) (me : Seated) (has : 0 < me.0.weight) (i word : ℕ) where
    abbrev side : ℕ
    side = side_of me.0.hold

    -- the place by its value's word
    value_is : (s : TableState) (k : FollowsHistory places many s) → get_elem? s.views id ≡ some me.0 → IsValueOf me.0 word i → word ≡ suc (suc (place_index places side i))
    value_is s k at is =
        let size = ((facts places many s k).each id me.0 (seated places many s k id me.0 at)).size has in
        let a : 2 + place_index me.0.places side i ≡ 2 + place_index places side i = (λ z. 2 + place_index (size z) side i) in
        omega arith

    one_value : (j : ℕ) → IsValueOf me.0 word i → IsValueOf me.0 word j → j ≡ i
    one_value j a b = omega arith

    value_found : (s : TableState) (k : FollowsHistory places many s) (c : Visit) → get_elem? s.views id ≡ some me.0 → IsValueOf me.0 word i → HasVisit me.0.hold i c → get_or s.words word 0 ≡ get_or k.1.values (place_index places side i) 0
    value_found s k c at is there =
        let w : BucketState = k.1 in
        let long = (facts places many s k).values_long in
        let inside = walk_in k.2.0 w me.0.weight i c me.0.hold (facts places many s k) ((facts places many s k).each id me.0 (seated places many s k id me.0 at)).hold there in
        let below = index_below places side i inside.1 in
        ap (λ (l : List ℕ). get_or l word 0) (sym k.3)
        ∙ (ap (λ (z : ℕ). get_or (words_of places w) z 0) (value_is s k at is) ∙ get_left w.values (packed places w.marks) (place_index places side i) (omega arith))

    pub reads_value : (slots : ℕ) → IsValueOf me.0 word i → HasVisit me.0.hold i Marked → Allows (FollowsHistory places many) slots id me word (λ n. n) (value_read (step slots word 0 0 none) me)
    reads_value slots is there s k _ at _ =
        let x : ℕ = get_or s.words word 0 in
        let w : BucketState = k.1 in
        let y : ℕ = get_or w.values (place_index places side i) 0 in
        let u : View = holding me.0 (put_visit me.0.hold i (Read y)) in
        let found = value_found s k Marked at is there in
        let same : u ≡ holding me.0 (put_visit me.0.hold i (Read x)) = ap (λ (n : ℕ). holding me.0 (put_visit me.0.hold i (Read n))) (sym found) in (
          holding me.0 (put_visit me.0.hold i (Read x)),
          keeps,
          tt,
          subst (λ (z : View). FollowsHistory places many (stepped s word x id me.1 z keeps)) same
              (same_words places many s k word id me.1 me.0 u (read i) (seated places many s k id me.0 at) has there refl refl refl refl (λ _. tt)),
          λ j is' there'. ap (λ (n : ℕ). (holding me.0 (put_visit me.0.hold n (Read x)), me.1)) (sym (one_value j is is')),
        )
