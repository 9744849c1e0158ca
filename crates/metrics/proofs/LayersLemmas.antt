-- What the tests of the layers decide.
use Rattle.std.proofs.Common.{◌≡◌, ℕ, zero, suc, ◌<◌, ◌≤◌, Bool, true, false, cond, ◌&&◌, ◌||◌, List, [], ◌∷◌, ◌++◌, length, take, drop, get_or, Option, None, Some, refl, ap, sym, ◌∙◌, subst, arith, append_assoc, append-nil, length-append, nat_eq, slice_get, true≢false, take-append-drop, inl, inr, ⊎_elim}
use Rattle.std.proofs.lemmas.Bool.{or_left, or_right}
use Rattle.std.specs.Prelude.{◌⊎◌}
use Rattle.std.specs.Bool.{Decides}
use Rattle.std.specs.Prelude.{Contains, nat_le}
use Rattle.std.specs.Option.{MatchOption}
use Rattle.std.specs.List.{list_any, starts_with}
use Rattle.std.proofs.lemmas.Slice.Eq.{bytes_eq-Decides}
use Rattle.std.proofs.lemmas.Bool.Decides.{nat_tests}
use Rattle.std.proofs.Math.Seq.{take-append_seam}
use Rattle.metrics_names.specs.declared.kind.MetricKind.{MetricKind}
use Rattle.metrics.specs.Layers.{folded, IsSubstring, Matches, is_substring, matches, Route, fits, NoneFits, IsWinner, better, winner_from, winner}
use Rattle.metrics_names.specs.Equality.{and_left, and_right}

-- ---- substrings

starts_at : (text p : List ℕ) → starts_with nat_eq text p ≡ true → text ≡ p ++ drop (length p) text
starts_at text p h =
    let e : p ≡ take (length p) text = (bytes_eq-Decides p (take (length p) text)).0 h in
    sym (take-append-drop (length p) text) ∙ ap (λ x. x ++ drop (length p) text) (sym e)

starts_with-append : (p b : List ℕ) → starts_with nat_eq (p ++ b) p ≡ true
starts_with-append p b = (bytes_eq-Decides p (take (length p) (p ++ b))).1 (sym (take-append_seam p b))

found_front : (p text : List ℕ) → starts_with nat_eq text p ≡ true → is_substring p text ≡ true
found_front p [] h = h
found_front p (x ∷ text) h = or_left (starts_with nat_eq (x ∷ text) p) (is_substring p text) h

substring_found : (p text : List ℕ) → is_substring p text ≡ true → IsSubstring p text
substring_found p [] h = ([], drop (length p) [], starts_at [] p h)
substring_found p (x ∷ text) h =
    elim (starts_with nat_eq (x ∷ text) p) as (λ q. starts_with nat_eq (x ∷ text) p ≡ q → (q || is_substring p text) ≡ true → IsSubstring p (x ∷ text)) [
      | true ↦ λ e g. ([], drop (length p) (x ∷ text), starts_at (x ∷ text) p e)
      | false ↦ λ e g. let s = substring_found p text g in (x ∷ s.0, s.1, ap (λ t. x ∷ t) s.2)
    ] refl h

substring_made : (p a b text : List ℕ) → text ≡ (a ++ p) ++ b → is_substring p text ≡ true
substring_made p [] b text e = subst (λ t. is_substring p t ≡ true) (sym e) (found_front p (p ++ b) (starts_with-append p b))
substring_made p (x ∷ a) b text e =
    subst (λ t. is_substring p t ≡ true) (sym e)
    (or_right (starts_with nat_eq (x ∷ ((a ++ p) ++ b)) p) (is_substring p ((a ++ p) ++ b)) (substring_made p a b ((a ++ p) ++ b) refl))

pub is_substring-Decides : (p text : List ℕ) → Decides (is_substring p text) (IsSubstring p text)
is_substring-Decides p text = (substring_found p text, λ s. substring_made p s.0 s.1 text s.2)

any_found : {A : Type 0} (test : A → Bool) (xs : List A) → list_any test xs ≡ true → (x : A) × Contains xs x × (test x ≡ true)
any_found test [] h = absurd (true≢false (sym h))
any_found test (x ∷ xs) h =
    elim (test x) as (λ q. test x ≡ q → (q || list_any test xs) ≡ true → (y : _) × Contains (x ∷ xs) y × (test y ≡ true)) [
      | true ↦ λ e g. (x, (0, omega arith, refl), e)
      | false ↦ λ e g. let s = any_found test xs g in (s.0, (suc s.1.0, (let l = s.1.1 in omega arith), s.1.2), s.2)
    ] refl h

any_made : {A : Type 0} (test : A → Bool) (xs : List A) (x : A) (k : ℕ) → k < length xs → get_or xs k x ≡ x → test x ≡ true → list_any test xs ≡ true
any_made test [] x k lt e h = absurd (omega arith)
any_made test (y ∷ xs) x zero lt e h = or_left (test y) (list_any test xs) (ap test e ∙ h)
any_made test (y ∷ xs) x (suc k) lt e h = or_right (test y) (list_any test xs) (any_made test xs x k (omega arith) e h)

-- the test of a filter is the existence of a listed pattern that is a substring
pub matches-Decides : (fold : Bool) (patterns : List (List ℕ)) (name : List ℕ) → Decides (matches fold patterns name) (Matches fold patterns name)
matches-Decides fold patterns name = (
  λ h.
      let s = any_found (λ p. is_substring (folded fold p) (folded fold name)) patterns h in
      (s.0, s.1, (is_substring-Decides (folded fold s.0) (folded fold name)).0 s.2),
  λ m. any_made (λ p. is_substring (folded fold p) (folded fold name)) patterns m.0 m.1.0 m.1.1 m.1.2 ((is_substring-Decides (folded fold m.0) (folded fold name)).1 m.2),
)

-- ---- the winner of routes

slice_get-front : {A : Type 0} (xs ys : List A) (i : ℕ) → i < length xs → slice_get (xs ++ ys) i ≡ slice_get xs i
slice_get-front [] ys i lt = absurd (omega arith)
slice_get-front (x ∷ xs) ys zero lt = refl
slice_get-front (x ∷ xs) ys (suc i) lt = slice_get-front xs ys i (omega arith)

slice_get-end : {A : Type 0} (xs : List A) (y : A) → slice_get (xs ++ y ∷ []) (length xs) ≡ Some y
slice_get-end [] y = refl
slice_get-end (x ∷ xs) y = slice_get-end xs y

-- an element of a list with one more at the end is in the list, or is that one
slice_get-push : {A : Type 0} (xs : List A) (y z : A) (i : ℕ) → slice_get (xs ++ y ∷ []) i ≡ Some z → (slice_get xs i ≡ Some z) ⊎ ((i ≡ length xs) × (y ≡ z))
slice_get-push [] y z zero e = let s : y ≡ z = cc in inr (refl, s)
slice_get-push [] y z (suc i) e = absurd (cc)
slice_get-push (x ∷ xs) y z zero e = inl e
slice_get-push (x ∷ xs) y z (suc i) e = one_more (slice_get-push xs y z i e)
  where
    one_more : (slice_get xs i ≡ Some z) ⊎ ((i ≡ length xs) × (y ≡ z)) → (slice_get (x ∷ xs) (suc i) ≡ Some z) ⊎ ((suc i ≡ length (x ∷ xs)) × (y ≡ z))
    one_more (inl h) = inl h
    one_more (inr h) = inr (ap suc h.0, h.1)

within : {A : Type 0} (xs : List A) (i : ℕ) (x : A) → slice_get xs i ≡ Some x → i < length xs
within [] i x e = absurd (cc)
within (y ∷ xs) zero x e = omega arith
within (y ∷ xs) (suc i) x e = let l = within xs i x e in omega arith

-- the best so far: the winner, or none if none fits
abbrev pub IsBest : List Route → MetricKind → List ℕ → Option Route → Type 0
IsBest routes kind name best = MatchOption best (NoneFits routes kind name) (IsWinner routes kind name)

none_more : (seen : List Route) (kind : MetricKind) (name : List ℕ) (r : Route) → NoneFits seen kind name → fits kind name r ≡ false → NoneFits (seen ++ r ∷ []) kind name
none_more seen kind name r h f i s e = ⊎_elim (λ (l : slice_get seen i ≡ Some s). h i s l) (λ (n : (i ≡ length seen) × (r ≡ s)). ap (fits kind name) (sym n.1) ∙ f) (slice_get-push seen r s i e)

first_fits : (seen : List Route) (kind : MetricKind) (name : List ℕ) (r : Route) → NoneFits seen kind name → fits kind name r ≡ true → IsWinner (seen ++ r ∷ []) kind name r
first_fits seen kind name r h f = record {
  at = length seen;
  stands = slice_get-end seen r;
  fitting = f;
  longest = λ i s e g. ⊎_elim (λ (l : slice_get seen i ≡ Some s). absurd (true≢false (sym g ∙ h i s l)))
      (λ (n : (i ≡ length seen) × (r ≡ s)). subst (λ (x : Route). length x.pattern ≤ length r.pattern) n.1 (same_le (length r.pattern))) (slice_get-push seen r s i e);
  last = λ i s e g p. let lt = within (seen ++ r ∷ []) i s e in omega (arith, length-append seen (r ∷ []));
}
  where
    same_le : (n : ℕ) → n ≤ n
    same_le n = omega arith

-- a later route that fits and is as long wins
wins : (seen : List Route) (kind : MetricKind) (name : List ℕ) (best r : Route) → IsWinner seen kind name best → fits kind name r ≡ true → length best.pattern ≤ length r.pattern → IsWinner (seen ++ r ∷ []) kind name r
wins seen kind name best r h f le = record {
  at = length seen;
  stands = slice_get-end seen r;
  fitting = f;
  longest = λ i s e g. ⊎_elim (λ (l : slice_get seen i ≡ Some s). let m = h.longest i s l g in omega (arith, m))
      (λ (n : (i ≡ length seen) × (r ≡ s)). subst (λ (x : Route). length x.pattern ≤ length r.pattern) n.1 (same_le (length r.pattern))) (slice_get-push seen r s i e);
  last = λ i s e g p. let lt = within (seen ++ r ∷ []) i s e in omega (arith, length-append seen (r ∷ []));
}
  where
    same_le : (n : ℕ) → n ≤ n
    same_le n = omega arith

-- a later route that doesn't fit, or is shorter, changes nothing
stays : (seen : List Route) (kind : MetricKind) (name : List ℕ) (best r : Route) → IsWinner seen kind name best → (fits kind name r ≡ true → length r.pattern < length best.pattern) → IsWinner (seen ++ r ∷ []) kind name best
stays seen kind name best r h less = record {
  at = h.at;
  stands = slice_get-front seen (r ∷ []) h.at (within seen h.at best h.stands) ∙ h.stands;
  fitting = h.fitting;
  longest = λ i s e g. ⊎_elim (λ (l : slice_get seen i ≡ Some s). h.longest i s l g)
      (λ (n : (i ≡ length seen) × (r ≡ s)). subst (λ (x : Route). length x.pattern ≤ length best.pattern) n.1 (under (length r.pattern) (length best.pattern) (less (ap (fits kind name) n.1 ∙ g)))) (slice_get-push seen r s i e);
  last = λ i s e g p. ⊎_elim (λ (l : slice_get seen i ≡ Some s). h.last i s l g p)
      (λ (n : (i ≡ length seen) × (r ≡ s)). absurd (apart (length r.pattern) (length best.pattern) (less (ap (fits kind name) n.1 ∙ g)) (ap (λ (x : Route). length x.pattern) n.1 ∙ ap length p))) (slice_get-push seen r s i e);
}
  where
    under : (a b : ℕ) → a < b → a ≤ b
    under a b l = omega arith

    apart : (a b : ℕ) → a < b → a ≡ b → ⊥
    apart a b l e = omega arith

best_more : (seen : List Route) (kind : MetricKind) (name : List ℕ) (best : Option Route) (r : Route) → IsBest seen kind name best → IsBest (seen ++ r ∷ []) kind name (better kind name best r)
best_more seen kind name None r h =
    elim (fits kind name r) as (λ q. fits kind name r ≡ q → IsBest (seen ++ r ∷ []) kind name (cond q (Some r) None)) [
      | true ↦ λ f. first_fits seen kind name r h f
      | false ↦ λ f. none_more seen kind name r h f
    ] refl
best_more seen kind name (Some best) r h =
    let test = fits kind name r && nat_le (length best.pattern) (length r.pattern) in
    elim test as (λ q. test ≡ q → IsBest (seen ++ r ∷ []) kind name (cond q (Some r) (Some best))) [
      | true ↦ λ e. wins seen kind name best r h (and_left _ _ e) (le_of (length best.pattern) (length r.pattern) (and_right (fits kind name r) _ e))
      | false ↦ λ e. stays seen kind name best r h (λ f. less_of (length best.pattern) (length r.pattern) (sym (ap (λ x. x && nat_le (length best.pattern) (length r.pattern)) f) ∙ e))
    ] refl
  where
    le_of : (a b : ℕ) → nat_le a b ≡ true → a ≤ b
    le_of a b e = grind (arith, nat_tests)

    less_of : (a b : ℕ) → nat_le a b ≡ false → b < a
    less_of a b e = grind (arith, nat_tests)

best_all : (seen rest : List Route) (kind : MetricKind) (name : List ℕ) (best : Option Route) → IsBest seen kind name best → IsBest (seen ++ rest) kind name (winner_from kind name best rest)
best_all seen [] kind name best h = subst (λ rs. IsBest rs kind name best) (sym (append-nil seen)) h
best_all seen (r ∷ rest) kind name best h =
    subst (λ rs. IsBest rs kind name (winner_from kind name (better kind name best r) rest)) (append_assoc seen (r ∷ []) rest)
    (best_all (seen ++ r ∷ []) rest kind name (better kind name best r) (best_more seen kind name best r h))

-- the winner that is found is the winner; if none is found no route fits
pub winner-IsBest : (routes : List Route) (kind : MetricKind) (name : List ℕ) → IsBest routes kind name (winner routes kind name)
winner-IsBest routes kind name = best_all [] routes kind name None (λ i r e. absurd (nothing_there i r e))
  where
    nothing_there : (i : ℕ) (r : Route) → slice_get {X = Route} [] i ≡ Some r → ⊥
    nothing_there i r e = cc
