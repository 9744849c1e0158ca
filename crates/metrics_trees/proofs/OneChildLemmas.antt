-- One child of several: a call that goes to it alone, by the number of its book among all.
use Rattle.std.proofs.Common.{◌≡◌, ℕ, ◌+◌, ◌<◌, List, ◌∷◌, ◌++◌, length, map, get_or, set, Result, ap, sym, ◌∙◌, subst, arith}
use Rattle.std.proofs.lemmas.List.{length-map, length-set}
use Rattle.metrics_names.specs.declared.kind.MetricKind.{MetricKind}
use Rattle.metrics.specs.declared.recorder.Recorder as recorder
use Rattle.metrics.specs.declared.debugging.Reset.{Reset}
use Rattle.metrics.specs.declared.handles.Update.{Update}
use Rattle.metrics_names.specs.declared.refused.Refused.{Refused}
use Rattle.metrics.specs.Book.{SnapshotParts}
use Rattle.metrics.proofs.MeaningLemmas.{length-updates, length-snapshots}
use Rattle.metrics.specs.Meaning.{Meaning, KeepsTargets, Updates, Snapshots, holds_at}
use Rattle.metrics.specs.Layers.{joined_all}
use Rattle.metrics_rules.specs.Nodes.{AreStarts, starts_from}
use Rattle.metrics_rules.proofs.JoinedLemmas.{leaves-one, starts-stay, leaves-stay}
use Rattle.metrics_rules.proofs.OneChildLemmas.{front, rest, by_parts, front-more}
use Rattle.metrics_trees.specs.Places.{IsPlace}
use Rattle.metrics_trees.specs.Calls.{Calls, Stay}
use Rattle.metrics_trees.specs.Recorders.{books_of, books_in, spread}
use Rattle.metrics_trees.specs.declared.row.Row.{Row}
use Rattle.metrics_trees.proofs.JoinedLemmas.{same_spread, holds-there, updates-one, snapshots-one}

-- another in one's place, of the same targets and as many books
module _ {B : Type 0} (m : B → Meaning) (bs : List B) (n : ℕ) (x : B) (lt : n < length bs) (at : x ≡ get_or bs n x) (y : B) (keeps : KeepsTargets (m x) (m y)) (same : books_of (m y) ≡ books_of (m x)) where
  abbrev fs : List Meaning
  fs = front m bs n x lt at

  abbrev rs : List Meaning
  rs = rest m bs n x lt at

  pub stay-one : Stay m bs (set bs n y)
  stay-one = record {
    count = length-set bs n y;
    books = by_parts m bs n x lt at y (λ old new. books_in new ≡ books_in old) (leaves-stay fs rs (m x) (m y) same);
    same = λ kind ts. by_parts m bs n x lt at y (λ old new. spread new kind ts ≡ spread old kind ts) (same_spread fs rs (m x) (m y) keeps same kind ts);
  }

  pub starts-back : AreStarts (starts_from 0 (map m bs)) (map m (set bs n y))
  starts-back = sym (by_parts m bs n x lt at y (λ old new. starts_from 0 new ≡ starts_from 0 old) (starts-stay 0 fs rs (m x) (m y) same))

pub stay-called : {B : Type 0} (m : B → Meaning) (leaf : ℕ) {was now : List B} {R : Meaning → Meaning → Type 0} (c : Calls m leaf was now R) → books_of (m c.after) ≡ books_of (m c.before) → Stay m was now
stay-called m leaf {was} c same = subst (Stay m was) (sym c.is) (stay-one m was leaf c.before c.within c.at c.after c.keeps same)

-- what a row keeps of its recorders is true after a call of one of them
module _ {B : Type 0} {r : recorder.Ghosts B} (row : Row B r) (n : ℕ) (x : B) (at : x ≡ get_or row.recorders.items n x) where
  abbrev bs : List B
  bs = row.recorders.items

  pub record PutBack (now : List B) : Type 0 where
    pub starts_are : AreStarts row.starts.items (map r.meaning now)
    pub count : row.books ≡ books_in (map r.meaning now)
    pub stay : Stay r.meaning bs now

  pub put-back : n < length bs → (y : B) → KeepsTargets (r.meaning x) (r.meaning y) → books_of (r.meaning y) ≡ books_of (r.meaning x) → PutBack (set bs n y)
  put-back lt y keeps same =
      let stay = stay-one r.meaning bs n x lt at y keeps same in
      record { starts_are = row.starts_are ∙ starts-back r.meaning bs n x lt at y keeps same; count = row.count ∙ sym stay.books; stay = stay }

  -- a place among all is one recorder's, with a number of its own
  module _ (book b : ℕ) (place : IsPlace (map r.meaning bs) book (n, b)) where
    inside : n < length bs
    inside = let l = length-map bs r.meaning in omega (arith, place.recorder, l)

    below : b < books_of (r.meaning x)
    below =
        let e = ap books_in (front-more r.meaning bs n x inside at) ∙ leaves-one (front r.meaning bs n x inside at) (r.meaning x) in
        omega (arith, place.number, place.below, e)

    by_place : (y : B) (P : List Meaning → List Meaning → ℕ → Type 0) →
        ((fs rs : List Meaning) → P (fs ++ r.meaning x ∷ rs) (fs ++ r.meaning y ∷ rs) (books_in fs + b)) → P (map r.meaning bs) (map r.meaning (set bs n y)) book
    by_place y P h = subst (P (map r.meaning bs) (map r.meaning (set bs n y))) place.number (by_parts r.meaning bs n x inside at y (λ old new. P old new (books_in (front r.meaning bs n x inside at) + b)) (h _ _))

    pub holds-place : (kind : MetricKind) (s : ℕ) → holds_at kind (record { book = b; series = s }) (r.meaning x).contents ≡ holds_at kind (record { book = book; series = s }) (joined_all (map r.meaning bs)).contents
    holds-place kind s =
        by_place x (λ old new k. holds_at kind (record { book = b; series = s }) (r.meaning x).contents ≡ holds_at kind (record { book = k; series = s }) (joined_all old).contents)
        (λ fs rs. sym (holds-there fs rs (r.meaning x) b below kind s))

    pub put-updated : {A : Type 0} (y : B) → KeepsTargets (r.meaning x) (r.meaning y) → (s : ℕ) (by : Update) (q : Result A Refused) → Updates (r.meaning x) (r.meaning y) (record { book = b; series = s }) by q →
        PutBack (set bs n y) × Updates (joined_all (map r.meaning bs)) (joined_all (map r.meaning (set bs n y))) (record { book = book; series = s }) by q
    put-updated y keeps s by q h = (
      put-back inside y keeps (length-updates (r.meaning x) (r.meaning y) (record { book = b; series = s }) by q h),
      by_place y (λ old new k. Updates (joined_all old) (joined_all new) (record { book = k; series = s }) by q) (λ fs rs. updates-one fs rs (r.meaning x) b below (r.meaning y) s by q h),
    )

    pub put-read : (y : B) → KeepsTargets (r.meaning x) (r.meaning y) → (reset : Reset) (q : Result SnapshotParts Refused) → Snapshots (r.meaning x) (r.meaning y) b reset q →
        PutBack (set bs n y) × Snapshots (joined_all (map r.meaning bs)) (joined_all (map r.meaning (set bs n y))) book reset q
    put-read y keeps reset q h = (
      put-back inside y keeps (length-snapshots (r.meaning x) (r.meaning y) b reset q h),
      by_place y (λ old new k. Snapshots (joined_all old) (joined_all new) k reset q) (λ fs rs. snapshots-one fs rs (r.meaning x) b below (r.meaning y) reset q h),
    )
