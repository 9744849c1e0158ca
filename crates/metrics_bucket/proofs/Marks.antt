-- The marks of an epoch, when one mark changes.
use Rattle.std.proofs.Common.{◌≡◌, ◌≢◌, ◌⊎◌, ℕ, suc, ◌+◌, ◌<◌, cond, eqb, List, length, get_or, set, refl, sym, ap, ◌∙◌, inl, inr, ⊎_elim, arith, eq-eqb, ne_eqb, get_or-set_same, get_or-set_other}
use mathlib.Core.Logic.{dite}
use native.Mathlib.Decide.{ℕ_discrete}
use Rattle.metrics_bucket.specs.BucketState.{BucketState, other, place_index}
use Rattle.metrics_bucket.specs.Places.{mark_of, IsEpochOf}
use Rattle.metrics_bucket.proofs.Sums.{index_apart, index_below}
use Rattle.metrics_bucket.proofs.Keep.{other_side}

module _ (places : ℕ) (w w' : BucketState) (s i m epoch : ℕ) (of_side : IsEpochOf w s epoch) (side : w.live < 2) (below_all : i < places) (long : length w.marks ≡ places + places) (live : w'.live ≡ w.live) (epochs : w'.epoch ≡ w.epoch)
    (marks : w'.marks ≡ set w.marks (place_index places s i) m) where
  o : (other w.live < 2) × (w.live ≢ other w.live) × (other (other w.live) ≡ w.live)
  o = other_side w.live side

  s2 : s < 2
  s2 = let a = o.0 in ⊎_elim (λ (t : (s ≡ w.live) × (epoch ≡ w.epoch)). let e = t.0 in omega arith) (λ (t : (s ≡ other w.live) × (suc epoch ≡ w.epoch)). let e = t.0 in omega arith) of_side

  mark_before : (e j : ℕ) → e ≡ epoch → j ≡ i → mark_of places w e j ≡ get_or w.marks (place_index places s i) 0
  mark_before e j a b = ⊎_elim
      (λ (t : (s ≡ w.live) × (epoch ≡ w.epoch)). ap (λ c. cond c (get_or w.marks (place_index places w.live j) 0) (cond (eqb (suc e) w.epoch) (get_or w.marks (place_index places (other w.live) j) 0) 0)) (eq-eqb e w.epoch (a ∙ t.1)) ∙ (λ k. get_or w.marks (place_index places (sym t.0 k) (b k)) 0))
      (λ (t : (s ≡ other w.live) × (suc epoch ≡ w.epoch)).
      ap (λ c. cond c (get_or w.marks (place_index places w.live j) 0) (cond (eqb (suc e) w.epoch) (get_or w.marks (place_index places (other w.live) j) 0) 0)) (ne_eqb e w.epoch (λ z. let q = t.1 in omega arith))
      ∙ (ap (λ c. cond c (get_or w.marks (place_index places (other w.live) j) 0) 0) (eq-eqb (suc e) w.epoch (ap suc a ∙ t.1)) ∙ (λ k. get_or w.marks (place_index places (sym t.0 k) (b k)) 0)))
      of_side

  in_range : place_index places s i < length w.marks
  in_range = let a = index_below places s i below_all in omega arith

  of_after : IsEpochOf w' s epoch
  of_after = ⊎_elim (λ (t : (s ≡ w.live) × (epoch ≡ w.epoch)). inl (t.0 ∙ sym live, t.1 ∙ sym epochs)) (λ (t : (s ≡ other w.live) × (suc epoch ≡ w.epoch)). inr (t.0 ∙ ap other (sym live), t.1 ∙ sym epochs)) of_side

  -- the mark of the place that changes
  pub mark_here : (e j : ℕ) → e ≡ epoch → j ≡ i → (mark_of places w e j ≡ get_or w.marks (place_index places s i) 0) × (mark_of places w' e j ≡ m)
  mark_here e j a b = (
    mark_before e j a b,
    after ∙ (ap (λ (l : List ℕ). get_or l (place_index places s i) 0) marks ∙ get_or-set_same w.marks (place_index places s i) m 0 in_range),
  )
    where
      after : mark_of places w' e j ≡ get_or w'.marks (place_index places s i) 0
      after = ⊎_elim
          (λ (t : (s ≡ w'.live) × (epoch ≡ w'.epoch)). ap (λ c. cond c (get_or w'.marks (place_index places w'.live j) 0) (cond (eqb (suc e) w'.epoch) (get_or w'.marks (place_index places (other w'.live) j) 0) 0)) (eq-eqb e w'.epoch (a ∙ t.1)) ∙ (λ k. get_or w'.marks (place_index places (sym t.0 k) (b k)) 0))
          (λ (t : (s ≡ other w'.live) × (suc epoch ≡ w'.epoch)).
          ap (λ c. cond c (get_or w'.marks (place_index places w'.live j) 0) (cond (eqb (suc e) w'.epoch) (get_or w'.marks (place_index places (other w'.live) j) 0) 0)) (ne_eqb e w'.epoch (λ z. let q = t.1 in omega arith))
          ∙ (ap (λ c. cond c (get_or w'.marks (place_index places (other w'.live) j) 0) 0) (eq-eqb (suc e) w'.epoch (ap suc a ∙ t.1)) ∙ (λ k. get_or w'.marks (place_index places (sym t.0 k) (b k)) 0)))
          of_after

  -- a mark of another place is as it was
  mark_apart : (s' j : ℕ) → s' < 2 → j < places → (s' ≡ s → j ≡ i → ⊥) → get_or w'.marks (place_index places s' j) 0 ≡ get_or w.marks (place_index places s' j) 0
  mark_apart s' j a b n = ap (λ (l : List ℕ). get_or l (place_index places s' j) 0) marks ∙ get_or-set_other w.marks (place_index places s i) (place_index places s' j) m 0 (index_apart places s' j s i a s2 b below_all n)

  -- the sides of one epoch are one
  one_epoch : (e s' : ℕ) → ((s' ≡ w.live) × (e ≡ w.epoch)) ⊎ ((s' ≡ other w.live) × (suc e ≡ w.epoch)) → s' ≡ s → e ≡ epoch
  one_epoch e s' k is = ⊎_elim
      (λ (t : (s' ≡ w.live) × (e ≡ w.epoch)). ⊎_elim (λ (q : (s ≡ w.live) × (epoch ≡ w.epoch)). t.1 ∙ sym q.1) (λ (q : (s ≡ other w.live) × (suc epoch ≡ w.epoch)). absurd (o.1 (sym t.0 ∙ (is ∙ q.0)))) of_side)
      (λ (t : (s' ≡ other w.live) × (suc e ≡ w.epoch)). ⊎_elim (λ (q : (s ≡ w.live) × (epoch ≡ w.epoch)). absurd (o.1 (sym q.0 ∙ (sym is ∙ t.0)))) (λ (q : (s ≡ other w.live) × (suc epoch ≡ w.epoch)). let a = t.1 in let b = q.1 in omega arith) of_side)
      k

  pub mark_else : (e j : ℕ) → j < places → (e ≡ epoch → j ≡ i → ⊥) → mark_of places w' e j ≡ mark_of places w e j
  mark_else e j l n =
      (λ k. cond (eqb e (epochs k)) (get_or w'.marks (place_index places (live k) j) 0) (cond (eqb (suc e) (epochs k)) (get_or w'.marks (place_index places (other (live k)) j) 0) 0))
      ∙ dite (ℕ_discrete e w.epoch)
      (λ a. (λ k. cond (eqb e w.epoch) (mark_apart w.live j side l (λ p q. n (one_epoch e w.live (inl (refl, a)) p) q) k) (cond (eqb (suc e) w.epoch) (get_or w'.marks (place_index places (other w.live) j) 0) 0))
      ∙ (ap (λ c. cond c (get_or w.marks (place_index places w.live j) 0) (cond (eqb (suc e) w.epoch) (get_or w'.marks (place_index places (other w.live) j) 0) 0)) (eq-eqb e w.epoch a)
      ∙ sym (ap (λ c. cond c (get_or w.marks (place_index places w.live j) 0) (cond (eqb (suc e) w.epoch) (get_or w.marks (place_index places (other w.live) j) 0) 0)) (eq-eqb e w.epoch a))))
      (λ a. ap (λ c. cond c (get_or w'.marks (place_index places w.live j) 0) (cond (eqb (suc e) w.epoch) (get_or w'.marks (place_index places (other w.live) j) 0) 0)) (ne_eqb e w.epoch a)
      ∙ (dite (ℕ_discrete (suc e) w.epoch)
      (λ b. (λ k. cond (eqb (suc e) w.epoch) (mark_apart (other w.live) j o.0 l (λ p q. n (one_epoch e (other w.live) (inr (refl, b)) p) q) k) 0))
      (λ b. ap (λ c. cond c (get_or w'.marks (place_index places (other w.live) j) 0) 0) (ne_eqb (suc e) w.epoch b) ∙ sym (ap (λ c. cond c (get_or w.marks (place_index places (other w.live) j) 0) 0) (ne_eqb (suc e) w.epoch b)))
      ∙ sym (ap (λ c. cond c (get_or w.marks (place_index places w.live j) 0) (cond (eqb (suc e) w.epoch) (get_or w.marks (place_index places (other w.live) j) 0) 0)) (ne_eqb e w.epoch a))))
