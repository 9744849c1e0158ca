-- Recorders side by side: what one of them does, seen among all.
use Rattle.std.proofs.Common.{◌≡◌, ℕ, zero, suc, ◌+◌, ◌<◌, ◌≤◌, Bool, true, false, ◌&&◌, List, [], ◌∷◌, ◌++◌, length, Result, Ok, Err, refl, ap, sym, ◌∙◌, arith, length-append, zero-add, nat_lt}
use Rattle.std.specs.List.{All}
use Rattle.std.proofs.lemmas.List.Elements.{All-nil, All-cons}
use Rattle.std.proofs.lemmas.Bool.Decides.{nat_tests}
use Rattle.metrics_names.specs.declared.kind.MetricKind.{MetricKind}
use Rattle.metrics.specs.declared.debugging.Reset.{Reset}
use Rattle.metrics.specs.declared.handles.Update.{Update}
use Rattle.metrics_names.specs.declared.refused.Refused.{Refused}
use Rattle.metrics_names.specs.declared.refused.Refused.TheVariants.{Memory, NoSuchAddress, NoSuchBook, BadHandle}
use Rattle.metrics.specs.Targets.{raise, after_targets, change_at, AllBelow}
use Rattle.metrics.specs.TargetsLaws.{after_targets-front, after_targets-past}
use Rattle.metrics.specs.Book.{Content, SnapshotParts, content_at, kind_at, kind_of, place, snapshot_of, update_in, reset_in}
use Rattle.metrics.specs.Meaning.{Meaning, KeepsTargets, Updates, Snapshots, holds_at, is_kind, addresses, address_in, key_in_book}
use Rattle.metrics.specs.Layers.{joined_all, targets_of}
use Rattle.metrics_rules.proofs.JoinedLemmas.{contents-append}
pub use Rattle.metrics_rules.proofs.JoinedLemmas.{leaves-append, leaves-one}
use Rattle.metrics_trees.specs.Places.{raised}
use Rattle.metrics_trees.specs.Recorders.{books_of, spread}

-- ---- another recorder in one's place, of the same targets and as many books

same_chosen : (front rest : List Meaning) (x y : Meaning) → KeepsTargets x y → books_of y ≡ books_of x → (w : ℕ) (kind : MetricKind) (name : List ℕ) →
    targets_of w (front ++ y ∷ rest) kind name ≡ targets_of w (front ++ x ∷ rest) kind name
same_chosen [] rest x y k l zero kind name = ap (λ (ts : MetricKind → List ℕ → List (ℕ × List ℕ)). ts kind name) k
same_chosen [] rest x y k l (suc w) kind name = ap (λ n. raise n (targets_of w rest kind name)) l
same_chosen (f ∷ fs) rest x y k l zero kind name = refl
same_chosen (f ∷ fs) rest x y k l (suc w) kind name = ap (raise (books_of f)) (same_chosen fs rest x y k l w kind name)

pub same_spread : (front rest : List Meaning) (x y : Meaning) → KeepsTargets x y → books_of y ≡ books_of x → (kind : MetricKind) (ts : List (ℕ × List ℕ)) →
    spread (front ++ y ∷ rest) kind ts ≡ spread (front ++ x ∷ rest) kind ts
same_spread front rest x y k l kind [] = refl
same_spread front rest x y k l kind (t ∷ ts) =
    ap (λ us. us ++ spread (front ++ y ∷ rest) kind ts) (same_chosen front rest x y k l t.0 kind t.1)
    ∙ ap (λ us. targets_of t.0 (front ++ x ∷ rest) kind t.1 ++ us) (same_spread front rest x y k l kind ts)

-- ---- calls on the targets of one

-- acting on one's targets is acting on them at their places among all
pub acts_within : {X : Type 0} (f : X → Content → Content) (front rest : List Meaning) (x y : Meaning) (ts : List (ℕ × X)) →
    AllBelow (books_of x) ts → y.contents ≡ after_targets f ts x.contents →
    (joined_all (front ++ y ∷ rest)).contents ≡ after_targets f (raise (books_of (joined_all front)) ts) (joined_all (front ++ x ∷ rest)).contents
acts_within f front rest x y ts b h =
    let fs = (joined_all front).contents in
    let rs = (joined_all rest).contents in
    contents-append front (y ∷ rest)
    ∙ ap (λ cs. fs ++ (cs ++ rs)) h
    ∙ ap (λ cs. fs ++ cs) (sym (after_targets-front f ts x.contents rs b))
    ∙ sym (after_targets-past f ts fs (x.contents ++ rs))
    ∙ ap (after_targets f (raise (length fs) ts)) (sym (contents-append front (x ∷ rest)))

-- ---- books

content_at-front : (b : ℕ) (cs ds : List Content) → b < length cs → content_at b (cs ++ ds) ≡ content_at b cs
content_at-front b [] ds h = absurd (omega arith)
content_at-front zero (c ∷ cs) ds h = refl
content_at-front (suc b) (c ∷ cs) ds h = content_at-front b cs ds (omega arith)

content_at-past : (b : ℕ) (cs ds : List Content) → content_at (length cs + b) (cs ++ ds) ≡ content_at b ds
content_at-past b [] ds = ap (λ k. content_at k ds) (zero-add b)
content_at-past b (c ∷ cs) ds =
    let e : length (c ∷ cs) + b ≡ suc (length cs + b) = omega arith in
    ap (λ k. content_at k (c ∷ (cs ++ ds))) e ∙ content_at-past b cs ds

module _ (front rest : List Meaning) (x : Meaning) (b : ℕ) (lt : b < books_of x) where
  -- the book's number among all
  abbrev pub there : ℕ
  there = books_of (joined_all front) + b

  abbrev pub all_with : Meaning → List Content
  all_with y = (joined_all (front ++ y ∷ rest)).contents

  pub content-there : content_at there (all_with x) ≡ content_at b x.contents
  content-there =
      ap (content_at there) (contents-append front (x ∷ rest)) ∙ content_at-past b (joined_all front).contents (x.contents ++ (joined_all rest).contents)
      ∙ content_at-front b x.contents (joined_all rest).contents lt

  pub within-there : there < length (all_with x)
  within-there = let l = leaves-append front (x ∷ rest) in let m = length-append x.contents (joined_all rest).contents in omega (arith, l, m, lt)

  -- a change of one's book is one of all
  pub change_at-there : (f : Content → Content) (y : Meaning) → y.contents ≡ change_at b f x.contents → all_with y ≡ change_at there f (all_with x)
  change_at-there f y h = acts_within (λ (n : List ℕ). f) front rest x y ((b, []) ∷ []) (lt, tt) h

  pub same-there : (y : Meaning) → y.contents ≡ x.contents → all_with y ≡ all_with x
  same-there y h = acts_within {X = List ℕ} (λ n c. c) front rest x y [] tt h

  is_less : (a b : ℕ) → a < b → nat_lt a b ≡ true
  is_less a b l = grind (arith, nat_tests)

  pub holds-there : (kind : MetricKind) (s : ℕ) → holds_at kind (record { book = there; series = s }) (all_with x) ≡ holds_at kind (record { book = b; series = s }) x.contents
  holds-there kind s =
      ap (λ c. is_kind kind (kind_at s c) && nat_lt there (length (all_with x))) content-there
      ∙ ap (λ q. is_kind kind (kind_at s (content_at b x.contents)) && q) (is_less there (length (all_with x)) within-there ∙ sym (is_less b (books_of x) lt))

  -- an update of one's book is one of all
  pub updates-one : {A : Type 0} (y : Meaning) (s : ℕ) (by : Update) (r : Result A Refused) →
      Updates x y (record { book = b; series = s }) by r → Updates (joined_all (front ++ x ∷ rest)) (joined_all (front ++ y ∷ rest)) (record { book = there; series = s }) by r
  updates-one y s by (Ok done) h = (holds-there (kind_of by) s ∙ h.0, change_at-there (update_in by s) y h.1)
  updates-one y s by (Err (Memory a)) h = (holds-there (kind_of by) s ∙ h.0, h.1, h.2, same-there y h.3)
  updates-one y s by (Err NoSuchAddress) h = (holds-there (kind_of by) s ∙ h.0, same-there y h.1)
  updates-one y s by (Err NoSuchBook) h = absurd h
  updates-one y s by (Err BadHandle) h = absurd h

  -- and so is a snapshot
  pub snapshots-one : (y : Meaning) (reset : Reset) (r : Result SnapshotParts Refused) →
      Snapshots x y b reset r → Snapshots (joined_all (front ++ x ∷ rest)) (joined_all (front ++ y ∷ rest)) there reset r
  snapshots-one y reset (Ok found) h = (within-there, h.1 ∙ ap snapshot_of (sym content-there), change_at-there (reset_in reset) y h.2)
  snapshots-one y reset (Err (Memory a)) h = (within-there, h.1, same-there y h.2)
  snapshots-one y reset (Err NoSuchBook) h = absurd (omega (arith, h.0, lt))
  snapshots-one y reset (Err NoSuchAddress) h = absurd h
  snapshots-one y reset (Err BadHandle) h = absurd h

-- no series is at a number that no book has
pub holds_none : (kind : MetricKind) (b s : ℕ) (cs : List Content) → length cs ≤ b → false ≡ holds_at kind (record { book = b; series = s }) cs
holds_none kind b s cs le = never (is_kind kind (kind_at s (content_at b cs))) (not_less b (length cs) le)
  where
    not_less : (a b : ℕ) → b ≤ a → nat_lt a b ≡ false
    not_less a b l = grind (arith, nat_tests)

    never : (p : Bool) {q : Bool} → q ≡ false → false ≡ (p && q)
    never true e = sym e
    never false e = refl

-- ---- addresses

module _ (kind : MetricKind) (labels : List (List ℕ × List ℕ)) where
  -- the addresses in one recorder's targets, raised, are those among all
  pub addresses-one : (front rest : List Meaning) (x : Meaning) (ts : List (ℕ × List ℕ)) → AllBelow (books_of x) ts →
      raised (books_of (joined_all front)) (addresses kind labels ts x.contents) ≡ addresses kind labels (raise (books_of (joined_all front)) ts) (joined_all (front ++ x ∷ rest)).contents
  addresses-one front rest x [] b = refl
  addresses-one front rest x (t ∷ ts) b =
      let k = books_of (joined_all front) in
      ap (λ c. record { book = k + t.0; series = place (key_in_book kind labels t.1) c } ∷ raised k (addresses kind labels ts x.contents)) (sym (content-there front rest x t.0 b.0))
      ∙ ap (λ as'. address_in kind labels (joined_all (front ++ x ∷ rest)).contents (k + t.0, t.1) ∷ as') (addresses-one front rest x ts b.1)

  -- each address is in a book
  pub addresses-below : (ts : List (ℕ × List ℕ)) (cs : List Content) (n : ℕ) → AllBelow n ts → All (λ a. a.book < n) (addresses kind labels ts cs)
  addresses-below [] cs n b = All-nil _
  addresses-below (t ∷ ts) cs n b = All-cons (λ a. a.book < n) (address_in kind labels cs t) (addresses kind labels ts cs) b.0 (addresses-below ts cs n b.1)
