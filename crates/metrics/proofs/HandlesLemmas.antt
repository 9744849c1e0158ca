-- Updates of each address of a handle.
use Rattle.std.proofs.Common.{◌&&◌, drop, ◌≡◌, ℕ, zero, suc, ◌+◌, ◌<◌, ◌≤◌, true, false, cond, List, [], ◌∷◌, ◌++◌, length, take, get_or, Err, refl, ap, sym, ◌∙◌, subst, arith, slice_get, nat_eq, nat_lt, true≢false, Result, Ok, ◌^◌}
use Rattle.std.proofs.Math.Seq.{take-length}
use Rattle.std.proofs.lemmas.Bool.{ltb-true}
use Rattle.std.specs.Option.{option_map}
use Rattle.metrics_names.specs.declared.kind.MetricKind.{MetricKind}
use Rattle.metrics.specs.declared.handles.Update.{Update}
use Rattle.metrics.specs.declared.handles.Address.{Address}
use Rattle.metrics_names.specs.declared.refused.Refused.{Refused}
use Rattle.metrics_names.specs.declared.refused.Refused.TheVariants.{Memory, NoSuchAddress, NoSuchBook, BadHandle}
use Rattle.metrics.specs.Targets.{after_targets, change_at}
use Rattle.metrics.specs.TargetsLaws.{after_targets-append, length-change_at}
use Rattle.metrics.specs.Book.{Content, Series, with_update, update_in, kind_of, kind_at, content_at}
use Rattle.metrics.specs.Meaning.{Meaning, Updates, is_kind, holds_at}
use Rattle.metrics_names.specs.Refusals.{after_front, CanFollow}
use Rattle.metrics.specs.Answering.{AllHeld, places, UpdatesAll, holds_all, UpdatesHandle}
use Rattle.metrics_names.specs.Equality.{and_left, and_right, and_both}
use Rattle.metrics.proofs.StayingLemmas.{content_at-change_at}

pub default_same : {A : Type 0} (xs : List A) (i : ℕ) (d e : A) → i < length xs → get_or xs i d ≡ get_or xs i e
default_same [] i d e lt = absurd (omega arith)
default_same (x ∷ xs) zero d e lt = refl
default_same (x ∷ xs) (suc i) d e lt = default_same xs i d e (omega arith)

-- ---- updates of each address

take_places : (found : List Address) (i : ℕ) (at : Address) → i < length found → at ≡ get_or found i at → take (i + 1) (places found) ≡ take i (places found) ++ (at.book, at.series) ∷ []
take_places [] i at lt e = absurd (omega arith)
take_places (a ∷ rest) zero at lt e = ap (λ (x : Address). (x.book, x.series) ∷ []) (sym e)
take_places (a ∷ rest) (suc i) at lt e =
    let n : suc i + 1 ≡ suc (i + 1) = omega arith in
    ap (λ k. take k (places (a ∷ rest))) n ∙ ap (λ xs. (a.book, a.series) ∷ xs) (take_places rest i at (omega arith) e)

pub length-places : (found : List Address) → length (places found) ≡ length found
length-places [] = refl
length-places (a ∷ rest) = ap suc (length-places rest)

pub update_more : (found : List Address) (by : Update) (i : ℕ) (at : Address) (was now new : List Content) → i < length found → at ≡ get_or found i at →
    now ≡ after_targets (update_in by) (take i (places found)) was → new ≡ change_at at.book (update_in by at.series) now → new ≡ after_targets (update_in by) (take (i + 1) (places found)) was
update_more found by i at was now new lt e h g =
    g ∙ ap (change_at at.book (update_in by at.series)) h
    ∙ sym (after_targets-append (update_in by) (take i (places found)) ((at.book, at.series) ∷ []) was)
    ∙ ap (λ ts. after_targets (update_in by) ts was) (sym (take_places found i at lt e))

pub held_at : (kind : MetricKind) (found : List Address) (cs : List Content) (i : ℕ) (at : Address) → i < length found → at ≡ get_or found i at → AllHeld kind found cs → holds_at kind at cs ≡ true
held_at kind [] cs i at lt e h = absurd (omega arith)
held_at kind (a ∷ rest) cs zero at lt e h = subst (λ x. holds_at kind x cs ≡ true) (sym e) h.0
held_at kind (a ∷ rest) cs (suc i) at lt e h = held_at kind rest cs i at (omega arith) e h.1

slice_changed : (k : MetricKind) (u : Update) (xs : List Series) (p s : ℕ) → is_kind k (option_map (λ x. x.key.kind) (slice_get xs s)) ≡ true →
    is_kind k (option_map (λ x. x.key.kind) (slice_get (change_at p (with_update u) xs) s)) ≡ true
slice_changed k u [] p s h = h
slice_changed k u (x ∷ xs) zero zero h = h
slice_changed k u (x ∷ xs) zero (suc s) h = h
slice_changed k u (x ∷ xs) (suc p) zero h = h
slice_changed k u (x ∷ xs) (suc p) (suc s) h = slice_changed k u xs p s h

-- an update leaves what is held
held_still : (u : Update) (b p : ℕ) (cs : List Content) (kind : MetricKind) (a : Address) → holds_at kind a cs ≡ true → holds_at kind a (change_at b (update_in u p) cs) ≡ true
held_still u b p cs kind a h =
    let there = and_left (is_kind kind (kind_at a.series (content_at a.book cs))) (nat_lt a.book (length cs)) h in
    let below = and_right (is_kind kind (kind_at a.series (content_at a.book cs))) (nat_lt a.book (length cs)) h in
    let lt = ltb-true a.book (length cs) below in
    and_both _ _
    (ap (λ c. is_kind kind (kind_at a.series c)) (content_at-change_at a.book b (update_in u p) cs lt)
    ∙ elim (nat_eq b a.book) as (λ q. is_kind kind (kind_at a.series (cond q (update_in u p (content_at a.book cs)) (content_at a.book cs))) ≡ true) [
      | true ↦ slice_changed kind u (content_at a.book cs).series p a.series there
      | false ↦ there
    ])
    (ap (nat_lt a.book) (length-change_at b (update_in u p) cs) ∙ below)

pub all_held_more : (kind : MetricKind) (found : List Address) (by : Update) (at : Address) (now new : List Content) → new ≡ change_at at.book (update_in by at.series) now → AllHeld kind found now → AllHeld kind found new
all_held_more kind [] by at now new g h = tt
all_held_more kind (a ∷ rest) by at now new g h =
    (subst (λ cs. holds_at kind a cs ≡ true) (sym g) (held_still by at.book at.series now kind a h.0), all_held_more kind rest by at now new g h.1)

pub update_err : (old x new : Meaning) (found : List Address) (by : Update) (i : ℕ) (at : Address) (e : Refused) → Updates {A = Prim.Unit {0}} x new at by (Err e) →
    holds_at (kind_of by) at x.contents ≡ true → x.contents ≡ after_targets (update_in by) (take i (places found)) old.contents → i < length found →
    UpdatesAll old new (places found) by (Err (after_front i e))
update_err old x new found by i at (Memory a) r held h lt =
    let n : i + a ≡ i = omega (arith, r.2) in
    (r.1, omega (arith, r.2, length-places found), r.3 ∙ h ∙ ap (λ k. after_targets (update_in by) (take k (places found)) old.contents) (sym n))
update_err old x new found by i at NoSuchAddress r held h lt = absurd (true≢false (sym held ∙ r.0))
update_err old x new found by i at NoSuchBook r held h lt = absurd r
update_err old x new found by i at BadHandle r held h lt = absurd r

-- an update that fails has acted on nothing, so the count fits
pub update_follows : (x new : Meaning) (by : Update) (i : ℕ) (at : Address) (e : Refused) → Updates {A = Prim.Unit {0}} x new at by (Err e) → i < 2 ^ 64 → CanFollow i e
update_follows x new by i at (Memory a) r lt = omega (arith, r.2, lt)
update_follows x new by i at NoSuchAddress r lt = tt
update_follows x new by i at NoSuchBook r lt = tt
update_follows x new by i at BadHandle r lt = tt

pub update_end : (found : List Address) (by : Update) (n : ℕ) (was now : List Content) → n ≡ length found → now ≡ after_targets (update_in by) (take n (places found)) was → now ≡ after_targets (update_in by) (places found) was
update_end found by n was now e h = h ∙ ap (λ ts. after_targets (update_in by) ts was) (ap (λ k. take k (places found)) (e ∙ sym (length-places found)) ∙ take-length (places found))

-- the test of all addresses
pub held-all : (kind : MetricKind) (found : List Address) (cs : List Content) → holds_all kind found cs ≡ true → AllHeld kind found cs
held-all kind [] cs h = tt
held-all kind (a ∷ rest) cs h = (and_left (holds_at kind a cs) (holds_all kind rest cs) h, held-all kind rest cs (and_right (holds_at kind a cs) (holds_all kind rest cs) h))

-- one address more was tested
drop_more : (found : List Address) (i : ℕ) (at : Address) → i < length found → at ≡ get_or found i at → drop i found ≡ at ∷ drop (i + 1) found
drop_more [] i at lt e = absurd (omega arith)
drop_more (a ∷ rest) zero at lt e = ap (λ x. x ∷ rest) (sym e)
drop_more (a ∷ rest) (suc i) at lt e =
    let n : suc i + 1 ≡ suc (i + 1) = omega arith in
    drop_more rest i at (omega arith) e ∙ ap (λ k. at ∷ drop k (a ∷ rest)) (sym n)

pub holds-more : (kind : MetricKind) (found : List Address) (cs : List Content) (i : ℕ) (at : Address) → i < length found → at ≡ get_or found i at →
    holds_all kind (drop i found) cs ≡ (holds_at kind at cs && holds_all kind (drop (i + 1) found) cs)
holds-more kind found cs i at lt e = ap (λ xs. holds_all kind xs cs) (drop_more found i at lt e)

pub drop-all : (found : List Address) (i : ℕ) → length found ≤ i → drop i found ≡ []
drop-all [] zero le = refl
drop-all [] (suc i) le = refl
drop-all (a ∷ rest) zero le = absurd (omega arith)
drop-all (a ∷ rest) (suc i) le = drop-all rest i (omega arith)

all-held : (kind : MetricKind) (found : List Address) (cs : List Content) → AllHeld kind found cs → holds_all kind found cs ≡ true
all-held kind [] cs h = refl
all-held kind (a ∷ rest) cs h = and_both (holds_at kind a cs) (holds_all kind rest cs) h.0 (all-held kind rest cs h.1)

-- an update of held addresses is one of each of them
pub handled : (old new : Meaning) (found : List Address) (u : Update) (r : Result ℕ Refused) → AllHeld (kind_of u) found old.contents → UpdatesHandle old new found u r → UpdatesAll old new (places found) u r
handled old new found u (Ok n) h g = g.1
handled old new found u (Err (Memory n)) h g = g.1
handled old new found u (Err NoSuchAddress) h g = absurd (true≢false (sym (all-held (kind_of u) found old.contents h) ∙ g.0))
handled old new found u (Err NoSuchBook) h g = absurd g
handled old new found u (Err BadHandle) h g = absurd g
