-- A register call that goes from leaf to leaf: its addresses.
use Rattle.std.proofs.Common.{◌≡◌, ℕ, zero, suc, ◌+◌, ◌<◌, ◌≤◌, List, [], ◌∷◌, ◌++◌, length, map, get_or, Option, Result, Ok, Err, refl, ap, sym, ◌∙◌, subst, arith, append-nil, append_assoc, length-append, inr}
use Rattle.std.specs.List.{All, FoldsTo}
use Rattle.std.specs.Result.{MatchResult, result_map_both}
use Rattle.std.proofs.lemmas.List.{length-map, map-append}
use Rattle.metrics_names.specs.declared.kind.MetricKind.{MetricKind}
use Rattle.metrics_names.specs.declared.refused.Refused.{Refused}
use Rattle.metrics_names.specs.Names.{KeyParts}
use Rattle.metrics.specs.declared.handles.Address.{Address}
use Rattle.metrics.specs.Targets.{raise, after_targets, change_at, AreDistinct, IsNot}
use Rattle.metrics.specs.Book.{Content, register_in, content_at, place}
use Rattle.metrics.specs.Meaning.{Meaning, Acts, KeepsTargets, Registers, addresses, address_in, key_in_book}
use Rattle.metrics.specs.Layers.{joined_all, targets_of}
use Rattle.metrics_rules.specs.declared.visitor.Stopped.{Stopped}
use Rattle.metrics_rules.specs.Visits.{key_at, shown, Visits}
use Rattle.metrics_trees.specs.Places.{raised, raised_one, IsAppended, CanAppend}
use Rattle.metrics_trees.specs.Recorders.{books_of, books_in, most_books, spread, start}
use Rattle.metrics_trees.specs.Over.{over}
use Rattle.metrics_trees.specs.OverLaws.{distinct_spread}
use Rattle.metrics_trees.specs.Calls.{Calls}
use Rattle.metrics_trees.specs.Visiting.{Acting, IsEnd, Acted, Accepts, Rejects, IsAdded, kind_of, found_by, registering, addresses_at}
use Rattle.metrics_trees.specs.declared.visits.Call.{Call}
use Rattle.metrics_trees.proofs.JoinedLemmas.{addresses-below, addresses-one}
use Rattle.metrics_rules.proofs.OneChildLemmas.{front as first, rest as others, all_is, child-most, targets-one}
use Rattle.metrics_trees.proofs.ActingLemmas.{contents_in, IsAt, went-one, counted, answered}

-- the addresses of one recorder can be raised
pub can-append : {Y : Type 0} (M : Y → Meaning) (ys : List Y) (n : ℕ) (x : Y) → n < length ys → x ≡ get_or ys n x → (front : ℕ) → front ≡ start n (map M ys) → books_in (map M ys) ≤ most_books →
    (y : Y) (kind : MetricKind) (key : KeyParts) (r : Result (List Address) Refused) → Registers (M x) (M y) kind key r → CanAppend front r
can-append M ys n x lt at front f m y kind key (Ok there) g =
    let p = child-most M ys n x lt at in
    let b = addresses-below kind key.labels ((M x).targets kind key.name) (M x).contents (books_of (M x)) ((M x).below kind key.name) in
    record { front_fits = omega (arith, p, m, f); books_fit = subst (All (λ a. a.book < 65536)) (sym g.0) (λ j d l. (let z = b j d l in omega (arith, z, p, m))) }
can-append M ys n x lt at front f m y kind key (Err e) g = tt

abbrev registers : MetricKind → List (List ℕ × List ℕ) → List ℕ → Content → Content
registers kind labels name = register_in (key_in_book kind labels name)

-- ---- a recorder was asked, and its addresses were added, or it failed

abbrev count_of : Result (List Address) Refused → Result ℕ Refused
count_of answer = result_map_both (length {A = Address}) (λ e. e) answer

registers-counted : (a c : Meaning) (kind : MetricKind) (key : KeyParts) (answer : Result (List Address) Refused) → Registers a c kind key answer →
    Acts (registers kind key.labels) (a.targets kind key.name) a c (count_of answer) (λ n. n ≡ length (a.targets kind key.name))
registers-counted a c kind key (Ok there) h = (ap length h.0 ∙ length-map (a.targets kind key.name) (address_in kind key.labels a.contents), h.1)
registers-counted a c kind key (Err e) h = h

added : (found more : List Address) (front : ℕ) (answer : Result (List Address) Refused) (r : Result (Unit {0}) Refused) → IsAppended found more front answer r → IsAdded (length found) (length more) (count_of answer) r
added found more front (Ok there) (Ok done) a = λ lt. ap length a ∙ length-append found (raised front there) ∙ ap (λ n. length found + n) (length-map there (raised_one front))
added found more front (Ok there) (Err e) a = (a.0, ap length a.1)
added found more front (Err e) (Err d) a = (a.0, ap length a.1)
added found more front (Err e) (Ok done) a = absurd a

module _ {B : Type 0} (m : B → Meaning) (leaf : ℕ) (key : KeyParts) (was now : List B) (call next : Option Call) (same : kind_of next ≡ kind_of call) (front : ℕ) (at : front ≡ start leaf (map m was)) where
  found_there : (answer : Result (List Address) Refused) → Calls m leaf was now (λ a c. Registers a c (kind_of call) key answer) → IsAppended {A = Unit {0}} (found_by call) (found_by next) front answer (Ok tt) →
      found_by next ≡ found_by call ++ addresses_at m was leaf (kind_of call) key
  found_there (Err e) c a = absurd a
  found_there (Ok there) c a =
      let ts = (m c.before).targets (kind_of call) key.name in
      a ∙ ap (λ xs. found_by call ++ raised front xs) c.called.0
      ∙ ap (λ k. found_by call ++ raised k (addresses (kind_of call) key.labels ts (m c.before).contents)) at
      ∙ ap (λ xs. found_by call ++ xs)
      (addresses-one (kind_of call) key.labels (first m was leaf c.before c.within c.at) (others m was leaf c.before c.within c.at) (m c.before) ts ((m c.before).below (kind_of call) key.name)
      ∙ ap (λ all. addresses (kind_of call) key.labels (raise (start leaf (map m was)) ts) (joined_all all).contents) (sym (all_is m was leaf c.before c.within c.at))
      ∙ ap (λ us. addresses (kind_of call) key.labels us (contents_in m was)) (sym (targets-one m was leaf c.before c.within c.at (kind_of call) key.name)))

  module _ (kind : MetricKind) (e : kind_of call ≡ kind) (answer : Result (List Address) Refused) (calls : Calls m leaf was now (λ a c. Registers a c kind key answer)) where
    c : Calls m leaf was now (λ a c. Registers a c (kind_of call) key answer)
    c = subst (λ q. Calls m leaf was now (λ a c. Registers a c q key answer)) (sym e) calls

    acted : (r : Result (Unit {0}) Refused) → IsAppended (found_by call) (found_by next) front answer r → Acted m leaf key (registering call was) (registering next now) r
    acted r a = record {
      answer = count_of answer;
      calls = record { before = c.before; after = c.after; within = c.within; at = c.at; is = c.is; keeps = c.keeps; called = registers-counted (m c.before) (m c.after) (kind_of call) key answer c.called };
      added = added (found_by call) (found_by next) front answer r a;
    }

    pub asked : (r : Result (Unit {0}) Refused) → IsAppended (found_by call) (found_by next) front answer r →
        MatchResult r (λ done. Accepts m leaf key (registering call was) (registering next now) × (found_by next ≡ found_by call ++ addresses_at m was leaf (kind_of call) key)) (λ e. Rejects m leaf key e (registering call was) (registering next now))
    asked (Ok done) a = ((same, ap registers same, acted (Ok done) a), found_there answer c a)
    asked (Err d) a = inr (inr (acted (Err d) a))

-- ---- what acting on some targets leaves

content-other : (b k : ℕ) (g : Content → Content) (cs : List Content) → (k ≡ b → ⊥) → content_at k (change_at b g cs) ≡ content_at k cs
content-other b k g [] ne = refl
content-other zero zero g (c ∷ cs) ne = absurd (ne refl)
content-other (suc b) zero g (c ∷ cs) ne = refl
content-other zero (suc k) g (c ∷ cs) ne = refl
content-other (suc b) (suc k) g (c ∷ cs) ne = content-other b k g cs (λ e. ne (ap suc e))

is_not-behind : (b : ℕ) (ts us : List (ℕ × List ℕ)) → IsNot b (ts ++ us) → IsNot b us
is_not-behind b [] us h = h
is_not-behind b (t ∷ ts) us h = is_not-behind b ts us h.1

module _ (kind : MetricKind) (labels : List (List ℕ × List ℕ)) where
  addresses-other : (b : ℕ) (g : Content → Content) (us : List (ℕ × List ℕ)) (cs : List Content) → IsNot b us → addresses kind labels us (change_at b g cs) ≡ addresses kind labels us cs
  addresses-other b g [] cs h = refl
  addresses-other b g (u ∷ us) cs h =
      ap (λ c. record { book = u.0; series = place (key_in_book kind labels u.1) c } ∷ addresses kind labels us (change_at b g cs)) (content-other b u.0 g cs h.0)
      ∙ ap (λ xs. address_in kind labels cs u ∷ xs) (addresses-other b g us cs h.1)

  addresses-stay : (f : List ℕ → Content → Content) (ts us : List (ℕ × List ℕ)) (cs : List Content) → AreDistinct (ts ++ us) → addresses kind labels us (after_targets f ts cs) ≡ addresses kind labels us cs
  addresses-stay f [] us cs d = refl
  addresses-stay f (t ∷ ts) us cs d = addresses-stay f ts us (change_at t.0 (f t.1) cs) d.1 ∙ addresses-other t.0 (f t.1) us cs (is_not-behind t.0 ts us d.0)

-- the addresses found are those of all targets, before the call
module _ {B : Type 0} (m : B → Meaning) (labels : List (List ℕ × List ℕ)) (kind : MetricKind) (step : List (List ℕ × List ℕ) → List ℕ → Content → Content) {V : Type 0} (st : V → Acting B) (fd : V → List Address)
    (accepts : V → ℕ → KeyParts → V → Type 0) (refuses : V → ℕ → KeyParts → Refused → V → Type 0)
    (gains : (v : V) (leaf : ℕ) (key : KeyParts) (w : V) → accepts v leaf key w → Accepts m leaf key (st v) (st w) × (fd w ≡ fd v ++ addresses_at m (st v).recorders leaf (st v).kind key))
    (loses : (v : V) (leaf : ℕ) (key : KeyParts) (e : Refused) (w : V) → refuses v leaf key e w → Rejects m leaf key e (st v) (st w)) where
  gained : (v : V) (leaf : ℕ) (key : KeyParts) (w : V) → accepts v leaf key w → Accepts m leaf key (st v) (st w)
  gained v leaf key w h = (gains v leaf key w h).0

  found-all : (v : V) (ts : List (ℕ × List ℕ)) (w : V) → IsAt m labels kind step st v → AreDistinct ts → FoldsTo (shown accepts labels) v ts w →
      fd w ≡ fd v ++ addresses kind labels (spread (map m (st v).recorders) kind ts) (contents_in m (st v).recorders)
  found-all v [] w k d p = ap fd (sym p) ∙ sym (append-nil (fd v))
  found-all v (t ∷ ts) w k d p =
      let bs = (st v).recorders in
      let one = went-one m labels kind step st accepts refuses gained loses v t p.0 k p.1 in
      let Y = targets_of t.0 (map m bs) kind t.1 in
      let Z = spread (map m bs) kind ts in
      let at = λ (us : List (ℕ × List ℕ)) (cs : List Content). addresses kind labels us cs in
      let found = (gains v t.0 (key_at labels t) p.0 p.1).1 ∙ ap (λ q. fd v ++ addresses_at m bs t.0 q (key_at labels t)) k.0 in
      found-all p.0 ts w one.0 d.1 p.2
      ∙ ap (λ us. fd p.0 ++ at us (contents_in m (st p.0).recorders)) (one.1.0.stay.same kind ts)
      ∙ ap (λ cs. fd p.0 ++ at Z cs) one.1.0.contents
      ∙ ap (λ xs. fd p.0 ++ xs) (addresses-stay kind labels (step labels) Y Z (contents_in m bs) (distinct_spread (map m bs) kind (t ∷ ts) d))
      ∙ ap (λ xs. xs ++ at Z (contents_in m bs)) found
      ∙ append_assoc (fd v) (at Y (contents_in m bs)) (at Z (contents_in m bs))
      ∙ ap (λ xs. fd v ++ xs) (sym (map-append (address_in kind labels (contents_in m bs)) Y Z))

  module _ (R : Meaning) (name : List ℕ) (v w : V) (k : IsAt m labels kind step st v) (none : (st v).acted ≡ 0) (most : books_in (map m (st v).recorders) ≤ most_books) (leaves : books_of R ≡ length (st v).recorders)
      (q : Result ℕ Stopped) (p : Visits accepts refuses labels v (R.targets kind name) w q) where
    abbrev old : Meaning
    old = over R (map m (st v).recorders)

    pub registered-count : length (st w).recorders ≡ length (st v).recorders
    registered-count = counted m labels kind step st accepts refuses gained loses R name v w k none most leaves q p

    abbrev all : List Address
    all = addresses kind labels (old.targets kind name) old.contents

    pub registered : (r : Result (List Address) Refused) (found : List Address) → found ≡ fd w → fd v ≡ [] → IsEnd q found (st w).acted r →
        Acts (step labels) (old.targets kind name) old (over R (map m (st w).recorders)) r (λ xs. xs ≡ all) × KeepsTargets old (over R (map m (st w).recorders))
    registered r found is begun end =
        answered m labels kind step st accepts refuses gained loses R name v w k none most leaves (λ xs. xs ≡ all) found
        (λ folds n. is ∙ found-all v (R.targets kind name) w k (R.distinct kind name) folds ∙ ap (λ xs. xs ++ all) begun) q r p end
