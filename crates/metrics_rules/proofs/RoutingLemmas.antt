-- What is stored for the routes, and what the list of them says.
use Rattle.std.proofs.Common.{◌≡◌, ℕ, zero, suc, ◌<◌, ◌≤◌, Bool, true, false, cond, ◌&&◌, List, [], ◌∷◌, ◌++◌, length, take, Option, None, Some, IsSome, slice_get, refl, sym, ap, ◌∙◌, subst, arith, true≢false, inl, inr}
use Rattle.std.specs.Prelude.{◌⊎◌, IfSome, IfNone}
use Rattle.std.specs.Option.{option_or, option_map}
use Rattle.std.specs.Str.{bytes_eq}
use Rattle.std.proofs.lemmas.List.{length-take-le}
use Rattle.std.proofs.Math.Nat.{eq-or-lt_of_le}
use Rattle.std.proofs.lemmas.Slice.Eq.{bytes_eq-Decides}
use Rattle.metrics_names.specs.declared.kind.MetricKind.{MetricKind}
use Rattle.metrics_names.specs.declared.kind.MetricKind.TheVariants.{Counter, Gauge, Histogram}
use Rattle.metrics.specs.Layers.{Route, mask_has, fits, NoneFits, IsWinner, winner}
use Rattle.metrics.proofs.LayersLemmas.{IsBest, winner-IsBest}
use Rattle.metrics_names.specs.Equality.{and_left, and_right, and_both}
use Rattle.prefix_match.specs.TriePatterns.{stored, IsFront, HasNoFront, IsLongestFront, IsLongest}
use Rattle.prefix_match.proofs.TrieFronts.{front_begins, begins_fits, begins_take}
use Rattle.metrics.specs.Kinds.{of_kind}
use Rattle.metrics.specs.declared.kind.PerKind.{PerKind}
use Rattle.prefix_match.specs.declared.trie.PrefixTrie.{PrefixTrie}
use Rattle.metrics_rules.specs.Nodes.{IsWithin}
use Rattle.metrics_rules.specs.Routing.{RouteTables, longest_within, target_of, branch_of, AddsRoute, last_target, AreTablesOf}

-- ---- the longest stored prefix

none_of : (o : Option ℕ) → (IsSome o → ⊥) → o ≡ None
none_of None h = refl
none_of (Some t) h = absurd (h refl)

take_front : (name : List ℕ) (n : ℕ) → n ≤ length name → IsFront (take n name) name
take_front name n l = (bytes_eq-Decides _ _).1 (sym (begins_take n name l))

within_none : (pairs : List (List ℕ × ℕ)) (name : List ℕ) (n : ℕ) → HasNoFront pairs name → n ≤ length name → longest_within pairs name n ≡ None
within_none pairs name zero h l = none_of (stored pairs []) (λ s. h [] s refl)
within_none pairs name (suc n) h l =
    ap (λ o. option_or o (longest_within pairs name n)) (none_of (stored pairs (take (suc n) name)) (λ s. h (take (suc n) name) s (take_front name (suc n) l)))
    ∙ within_none pairs name n h (omega arith)

within_some : (pairs : List (List ℕ × ℕ)) (name p : List ℕ) (v n : ℕ) → IsLongestFront pairs name p v → length p ≤ n → n ≤ length name → longest_within pairs name n ≡ Some v
within_some pairs name [] v zero a l m = a.has_value
within_some pairs name (x ∷ p) v zero a l m = absurd (omega arith)
within_some pairs name p v (suc n) a l m = at_or_below (λ b. within_some pairs name p v n a b (omega arith)) (eq-or-lt_of_le l)
  where
    at_or_below : (length p ≤ n → longest_within pairs name n ≡ Some v) → (length p ≡ suc n) ⊎ (length p < suc n) → longest_within pairs name (suc n) ≡ Some v
    at_or_below below (inl e) =
        let same : take (suc n) name ≡ p = ap (λ k. take k name) (sym e) ∙ front_begins p name a.front in
        ap (λ o. option_or o (longest_within pairs name n)) (ap (stored pairs) same ∙ a.has_value)
    at_or_below below (inr l) =
        let len : length (take (suc n) name) ≡ suc n = length-take-le (suc n) name m in
        let no : IsSome (stored pairs (take (suc n) name)) → ⊥ = λ s. (let le = a.longest (take (suc n) name) s (take_front name (suc n) m) in omega (arith, le, len)) in
        ap (λ o. option_or o (longest_within pairs name n)) (none_of (stored pairs (take (suc n) name)) no) ∙ below (omega (arith, l))

-- a result of a trie is the longest stored prefix
pub longest_answers : (pairs : List (List ℕ × ℕ)) (name : List ℕ) (answer : Option ℕ) → IfSome answer (IsLongest pairs name) → IfNone answer (HasNoFront pairs name) → answer ≡ longest_within pairs name (length name)
longest_answers pairs name None s h = sym (within_none pairs name (length name) h (omega arith))
longest_answers pairs name (Some v) (p, a) h =
    sym (within_some pairs name p v (length name) a (begins_fits p name (front_begins p name a.front)) (omega arith))

-- ---- what is stored are the tables of the routes

-- a route has the kind and this very pattern
abbrev has : MetricKind → List ℕ → Route → Bool
has kind p r = mask_has kind r.mask && bytes_eq p r.pattern

or_cond : (b : Bool) (t : ℕ) (o rest : Option ℕ) → option_or (cond b (Some t) o) rest ≡ cond b (Some t) (option_or o rest)
or_cond true t o rest = refl
or_cond false t o rest = refl

last_more : (routes : List Route) (r : Route) (kind : MetricKind) (p : List ℕ) → last_target (routes ++ r ∷ []) kind p ≡ cond (has kind p r) (Some r.target) (last_target routes kind p)
last_more [] r kind p = refl
last_more (x ∷ routes) r kind p =
    ap (λ o. option_or o (cond (has kind p x) (Some x.target) None)) (last_more routes r kind p)
    ∙ or_cond (has kind p r) r.target (last_target routes kind p) (cond (has kind p x) (Some x.target) None)

pub tables-more : (old new : RouteTables) (routes : List Route) (mask : ℕ) (pattern : List ℕ) (target : ℕ) → AreTablesOf old routes → AddsRoute old new mask pattern target →
    AreTablesOf new (routes ++ record { mask = mask; pattern = pattern; target = target } ∷ [])
tables-more old new routes mask pattern target s a = λ kind p.
    a kind p
    ∙ ap (λ o. cond (mask_has kind mask && bytes_eq p pattern) (Some target) o) (s kind p)
    ∙ sym (last_more routes (record { mask = mask; pattern = pattern; target = target }) kind p)

-- ---- the last target

none_last : (routes : List Route) (kind : MetricKind) (p : List ℕ) → ((i : ℕ) (r : Route) → slice_get routes i ≡ Some r → has kind p r ≡ false) → last_target routes kind p ≡ None
none_last [] kind p h = refl
none_last (r ∷ routes) kind p h =
    ap (λ o. option_or o (cond (has kind p r) (Some r.target) None)) (none_last routes kind p (λ i s e. h (suc i) s e))
    ∙ ap (λ b. cond b (Some r.target) None) (h 0 r refl)

-- a route of the list that has the kind and the pattern
abbrev Found : List Route → MetricKind → List ℕ → Type 0
Found routes kind p = (i : ℕ) × (r : Route) × (slice_get routes i ≡ Some r) × (has kind p r ≡ true)

last_found : (routes : List Route) (kind : MetricKind) (p : List ℕ) → IsSome (last_target routes kind p) → Found routes kind p
last_found [] kind p h = absurd (true≢false (sym h))
last_found (r ∷ routes) kind p h =
    elim (last_target routes kind p) as (λ o. last_target routes kind p ≡ o → IsSome (option_or o (cond (has kind p r) (Some r.target) None)) → Found (r ∷ routes) kind p) [
      | Some t ↦ λ e g. let f = last_found routes kind p (subst IsSome (sym e) refl) in (suc f.0, f.1, f.2, f.3)
      | None ↦ λ e g. (0, r, refl, held (has kind p r) r.target g)
    ] refl h
  where
    held : (b : Bool) (t : ℕ) → IsSome (cond b (Some t) None) → b ≡ true
    held true t h = refl
    held false t h = absurd (true≢false (sym h))

last_at : (routes : List Route) (kind : MetricKind) (p : List ℕ) (at : ℕ) (r : Route) → slice_get routes at ≡ Some r → has kind p r ≡ true →
    ((i : ℕ) (other : Route) → slice_get routes i ≡ Some other → has kind p other ≡ true → i ≤ at) → last_target routes kind p ≡ Some r.target
last_at [] kind p at r e h last = absurd (cc)
last_at (x ∷ routes) kind p zero r e h last =
    let same : x ≡ r = cc in
    ap (λ o. option_or o (cond (has kind p x) (Some x.target) None)) (none_last routes kind p (λ i s g. not_held (has kind p s) (λ t. (let l = last (suc i) s g t in omega arith))))
    ∙ ap (λ (y : Route). cond (has kind p y) (Some y.target) None) same
    ∙ ap (λ b. cond b (Some r.target) None) h
  where
    not_held : (b : Bool) → (b ≡ true → ⊥) → b ≡ false
    not_held true h = absurd (h refl)
    not_held false h = refl
last_at (x ∷ routes) kind p (suc at) r e h last =
    ap (λ o. option_or o (cond (has kind p x) (Some x.target) None))
    (last_at routes kind p at r e h (λ i s g t. (let l = last (suc i) s g t in omega arith)))

-- ---- the longest stored prefix is the winner

same_pattern : (kind : MetricKind) (p : List ℕ) (r : Route) → has kind p r ≡ true → p ≡ r.pattern
same_pattern kind p r h = (bytes_eq-Decides p r.pattern).0 (and_right (mask_has kind r.mask) (bytes_eq p r.pattern) h)

has_fits : (kind : MetricKind) (name p : List ℕ) (r : Route) → has kind p r ≡ true → IsFront p name → fits kind name r ≡ true
has_fits kind name p r h f =
    and_both (mask_has kind r.mask) _ (and_left (mask_has kind r.mask) (bytes_eq p r.pattern) h) (subst (λ q. IsFront q name) (same_pattern kind p r h) f)

found_of : (s : RouteTables) (routes : List Route) (kind : MetricKind) (q : List ℕ) → AreTablesOf s routes → IsSome (stored (of_kind kind s) q) → Found routes kind q
found_of s routes kind q h e = last_found routes kind q (subst IsSome (h kind q) e)

no_front : (s : RouteTables) (routes : List Route) (kind : MetricKind) (name : List ℕ) → AreTablesOf s routes → NoneFits routes kind name → HasNoFront (of_kind kind s) name
no_front s routes kind name h none = λ q e f.
    let g = found_of s routes kind q h e in
    true≢false (sym (has_fits kind name q g.1 g.3 f) ∙ none g.0 g.1 g.2)

is_longest : (s : RouteTables) (routes : List Route) (kind : MetricKind) (name : List ℕ) (r : Route) → AreTablesOf s routes → IsWinner routes kind name r → IsLongest (of_kind kind s) name r.target
is_longest s routes kind name r h w = (
  r.pattern,
  record {
    has_value = h kind r.pattern ∙ last_at routes kind r.pattern w.at r w.stands self
        (λ i o e g. w.last i o e (has_fits kind name r.pattern o g front) (sym (same_pattern kind r.pattern o g)));
    front = front;
    longest = λ q e f.
        let g = found_of s routes kind q h e in
        subst (λ p. length p ≤ length r.pattern) (sym (same_pattern kind q g.1 g.3)) (w.longest g.0 g.1 g.2 (has_fits kind name q g.1 g.3 f));
  },
)
  where
    front : IsFront r.pattern name
    front = and_right (mask_has kind r.mask) _ w.fitting

    self : has kind r.pattern r ≡ true
    self = and_both (mask_has kind r.mask) _ (and_left (mask_has kind r.mask) _ w.fitting) ((bytes_eq-Decides r.pattern r.pattern).1 refl)

-- the target that a look-up finds is the winner's
pub winner-target : (s : RouteTables) (routes : List Route) → AreTablesOf s routes → (kind : MetricKind) (name : List ℕ) →
    target_of s kind name ≡ option_map (λ (r : Route). r.target) (winner routes kind name)
winner-target s routes h kind name = at_best (winner routes kind name) (winner-IsBest routes kind name)
  where
    at_best : (w : Option Route) → IsBest routes kind name w → target_of s kind name ≡ option_map (λ (r : Route). r.target) w
    at_best None b = sym (longest_answers (of_kind kind s) name None tt (no_front s routes kind name h b))
    at_best (Some r) b = sym (longest_answers (of_kind kind s) name (Some r.target) (is_longest s routes kind name r h b) tt)

-- ---- routes to one of so many branches

pub within-more : (old new : RouteTables) (mask : ℕ) (pattern : List ℕ) (target n k : ℕ) → IsWithin (Some old) n → AddsRoute old new mask pattern target → suc target < k → n ≤ k → IsWithin (Some new) k
within-more old new mask pattern target n k h a l m kind p =
    subst (λ o. branch_of o < k) (sym (a kind p)) (at (mask_has kind mask && bytes_eq p pattern) (stored (of_kind kind old) p) (h kind p))
  where
    at : (b : Bool) (o : Option ℕ) → branch_of o < n → branch_of (cond b (Some target) o) < k
    at true o h = l
    at false o h = omega (arith, h)

-- each name goes to one of them
pub target-within : (s : RouteTables) (n : ℕ) → IsWithin (Some s) n → (kind : MetricKind) (name : List ℕ) → branch_of (target_of s kind name) < n
target-within s n h kind name = at (length name)
  where
    either : (o rest : Option ℕ) → branch_of o < n → branch_of rest < n → branch_of (option_or o rest) < n
    either None rest p q = q
    either (Some t) rest p q = p

    at : (m : ℕ) → branch_of (longest_within (of_kind kind s) name m) < n
    at zero = h kind []
    at (suc m) = either (stored (of_kind kind s) (take (suc m) name)) (longest_within (of_kind kind s) name m) (h kind (take (suc m) name)) (at m)

-- the pairs of a kind's trie are those of the kind
pub pairs-of : (kind : MetricKind) (tables : PerKind PrefixTrie) →
    (of_kind kind tables).pairs ≡ of_kind {T = List (List ℕ × ℕ)} kind (record { counter = tables.counter.pairs; gauge = tables.gauge.pairs; histogram = tables.histogram.pairs })
pairs-of Counter tables = refl
pairs-of Gauge tables = refl
pairs-of Histogram tables = refl
