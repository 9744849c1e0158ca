-- Recorders side by side, and how far routes are added.
use Rattle.std.proofs.Common.{◌≡◌, ◌↔◌, ℕ, ◌<◌, ◌≤◌, ◌+◌, List, [], ◌∷◌, ◌++◌, length, sym, ap, subst, ◌∙◌, arith, append-nil, append_assoc, length-append, suc, max, map, take, drop, get_or, refl, add-one, drop-cons, take-suc, ◌-◌}
use Rattle.std.proofs.lemmas.List.{map-append, nil_from_length}
use Rattle.std.proofs.lemmas.Bool.Decides.{nat_tests}
use Rattle.metrics.specs.declared.error.Error.{Error}
use Rattle.metrics.specs.declared.error.Error.TheVariants as error
use Rattle.metrics.specs.Meaning.{Meaning}
use Rattle.metrics.specs.Layers.{joined_all}
use Rattle.metrics_trees.specs.Recorders.{books_in, refusal, route_refusal, target_refusal}
use Rattle.metrics_trees.proofs.JoinedLemmas.{leaves-append}
use Rattle.tool_grammar.specs.Kinds.{HasKind}
use Rattle.tool_trees.specs.declared.level.Level.{Level}
use Rattle.tool_trees.specs.declared.level.LineError.{LineError}
use Rattle.tool_trees.specs.declared.level.LineError.TheVariants.{Memory, Bad}
use Rattle.tool_trees.specs.Doing.{level_meaning, level_meanings, Adds, CantAdd}
use Rattle.std.proofs.Math.ListN.{drop_of_length-le}
use Rattle.tool_trees.specs.declared.tree_line.RouteWord.{RouteWord}
use Rattle.tool_trees.specs.Trees.{NameTargets, route_of}

-- where a recorder was rejected for anything but memory, it and those around it have too many books
pub too_many : (now others whole : List Meaning) (m : Meaning) (e : Error) (r : LineError) → now ++ m ∷ others ≡ whole → e ≡ refusal now m → (e ≡ error.Memory → r ≡ Memory) → r ≡ Bad → 65536 < books_in whole
too_many now others whole m e r all is from bad =
    let more : 65536 < books_in now + length m.contents = grind (arith, nat_tests) in
    omega (arith, more, sym (ap books_in all) ∙ leaves-append now (m ∷ others), length-append m.contents (joined_all others).contents)

-- a route to a target that is there fails for memory alone
pub to_earlier : (mask target count : ℕ) (e : Error) (r : LineError) → e ≡ target_refusal mask target count → HasKind mask → target < count → (e ≡ error.Memory → r ≡ Memory) → r ≡ Bad → ⊥
to_earlier mask target count e r is some lt from bad = grind (arith, nat_tests, some.0)

-- a route with some kind to one recorder more is rejected as the recorder alone is
pub like_others : (mask : ℕ) (all : List Meaning) (m : Meaning) → HasKind mask → route_refusal mask all m ≡ refusal all m
like_others mask all m some = grind (arith, nat_tests, some.0)

-- ---- one route

pub adds_earlier : (target named : ℕ) (ms new : List Meaning) (ls : List Level) → target < named → suc named ≡ length ms → new ≡ ms → Adds target named named ms new ls ls
adds_earlier target named ms new ls lt number e = rw e (record { low = omega (arith, lt); next_is = omega (arith, lt); number = sym number; count = refl; whole = refl })

pub adds_next : (target named : ℕ) (old new : List Meaning) (before after : List Level) (l : Level) → target ≡ named → suc named ≡ length old → before ≡ l ∷ after → new ≡ old ++ level_meaning l ∷ []
    → Adds target named (named + 1) old new before after
adds_next target named old new before after l is number e f = record {
  low = omega (arith, is);
  next_is = omega (arith, is);
  number = omega (arith, number, ap length f, length-append old (level_meaning l ∷ []));
  count = omega (arith, ap length e);
  whole = rw (e, f) (append_assoc old (level_meaning l ∷ []) (level_meanings after));
}

-- ---- several routes

pub record RoutesSoFar (old now : List Meaning) (targets rest : List Level) (routes left : List RouteWord) (named : ℕ) : Type 0 where
  pub names : NameTargets (length targets) named left ↔ NameTargets (length targets) 0 routes
  pub count : named + length rest ≡ length targets
  pub whole : now ++ level_meanings rest ≡ old ++ level_meanings targets
  pub number : length now ≡ suc named

pub added_step : (rs : List RouteWord) (i : ℕ) (r : RouteWord) → i < length rs → r ≡ get_or rs i r → map route_of (take i rs) ++ route_of r ∷ [] ≡ map route_of (take (i + 1) rs)
added_step rs i r lt e = rw add-one (sym (ap (map route_of) (take-suc rs i r lt ∙ ap (λ x. take i rs ++ x ∷ []) (sym e)) ∙ map-append route_of (take i rs) (r ∷ [])))

few : (n named : ℕ) (routes : List RouteWord) → NameTargets n named routes → named ≤ n
few n named [] h = omega (arith, h)
few n named (r ∷ routes) h = omega (arith, few n (max named (suc r.target)) routes h.1)

module _ (old now : List Meaning) (targets rest : List Level) (routes : List RouteWord) (named i : ℕ) (so : RoutesSoFar old now targets rest routes (drop i routes) named) where
  module _ (r : RouteWord) (lt : i < length routes) (e : r ≡ get_or routes i r) where
    next : RoutesSoFar old now targets rest routes (r ∷ drop (i + 1) routes) named
    next = subst (λ (ls : List RouteWord). RoutesSoFar old now targets rest routes ls named) (rw add-one (drop-cons routes i r lt ∙ ap (λ x. x ∷ drop (suc i) routes) (sym e))) so

    pub step_more : (new : List Meaning) (after : List Level) (then : ℕ) → Adds r.target named then now new rest after → RoutesSoFar old new targets after routes (drop (i + 1) routes) then
    step_more new after then a = rw a.next_is (record {
      names = (λ h. next.names.0 (a.low, h), λ h. (next.names.1 h).1);
      count = rw a.next_is at (a.count ∙ so.count);
      whole = a.whole ∙ so.whole;
      number = rw a.next_is at a.number;
    })

    pub step_bad : CantAdd r.target named now rest → NameTargets (length targets) 0 routes → books_in (old ++ level_meanings targets) ≤ 65536 → ⊥
    step_bad cant names le =
        let h = next.names.1 names in
        cant h.0 (omega (arith, few _ _ _ h.1, so.count)) (rw so.whole le)

  pub step_end : length routes ≤ i → length rest ≡ 0 → NameTargets (length targets) 0 routes × (now ≡ old ++ level_meanings targets)
  step_end le none = (
    so.names.0 (rw (drop_of_length-le routes le) (omega (arith, none, so.count))),
    sym (append-nil now) ∙ ap (λ (ls : List Level). now ++ level_meanings ls) (sym (nil_from_length rest none)) ∙ so.whole,
  )

-- ---- a router

pub others : (taken rest : List Level) (l : Level) → taken ≡ l ∷ rest → length taken - 1 ≡ length rest
others taken rest l items = omega (arith, ap length items)

-- the default, and the others
pub together : (taken rest : List Level) (l : Level) (old : List Meaning) → taken ≡ l ∷ rest → old ≡ level_meaning l ∷ [] → old ++ level_meanings rest ≡ level_meanings taken
together taken rest l old items alone = rw (items, alone) refl
