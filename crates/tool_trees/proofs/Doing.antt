-- What a line does, from what was taken and what was made of it.
use Rattle.std.proofs.Common.{◌≡◌, ℕ, suc, ◌<◌, List, [], ◌∷◌, ◌++◌, length, refl, sym, ap, subst, ◌∙◌, arith}
use Rattle.tool_trees.specs.declared.tree_line.TreeLine.{TreeLine}
use Rattle.tool_trees.specs.declared.tree_line.TreeLine.TheVariants as line
use Rattle.tool_trees.specs.Words.{spelling, CanBeSpelled, Spells}
use Rattle.tool_trees.proofs.Lines.{line_same}
use Rattle.tool_trees.specs.Trees.{Tree, Node, Trees, none, more, number_of, append, push, arity, line_meaning, meanings_of, most_levels, Fits, Makes, AreAllowed, Steps, IsStuck}
use Rattle.tool_trees.proofs.OneListAtMost.{number-append, split_same, end_stuck}
use Rattle.tool_trees.specs.declared.level.Level.{Level}
use Rattle.tool_trees.specs.declared.level.LineError.{LineError}
use Rattle.tool_trees.specs.declared.level.LineError.TheVariants.{Bad}
use Rattle.tool_trees.specs.Doing.{level_meaning, level_meanings, most_of, IsBuilt, AreBuilt}

-- ---- stacks that are built

-- what is known of them
pub record AreAlike (ls : List Level) (ts : Trees) : Type 0 where
  pub number : length ls ≡ number_of ts
  pub meanings : level_meanings ls ≡ meanings_of ts
  pub levels : most_of ls ≡ most_levels ts
  pub allowed : AreAllowed ts

pub alike : (ls : List Level) (ts : Trees) → AreBuilt ls ts → AreAlike ls ts
alike [] none h = record { number = refl; meanings = refl; levels = refl; allowed = tt }
alike (l ∷ ls) (more t ts) (b, h) =
    let rest = alike ls ts h in
    record { number = ap suc rest.number; meanings = cc (b.meaning, rest.meanings); levels = cc (b.levels, rest.levels); allowed = (b.allowed, rest.allowed) }
alike ls ts h = absurd h

built_push : (ls : List Level) (ts : Trees) (l : Level) (t : Tree) → AreBuilt ls ts → IsBuilt l t → AreBuilt (ls ++ l ∷ []) (push ts t)
built_push [] none l t h g = (g, tt)
built_push (k ∷ ls) (more s ts) l t h g = (h.0, built_push ls ts l t h.1 g)
built_push ls ts l t h g = absurd h

built_split : (front all : List Level) (ts : Trees) → AreBuilt (front ++ all) ts → (before : Trees) × (here : Trees) × (ts ≡ append before here) × AreBuilt front before × AreBuilt all here
built_split [] all ts h = (none, ts, refl, tt, h)
built_split (l ∷ front) all none h = absurd h
built_split (l ∷ front) all (more t ts) h = let (before, here, whole, f, a) = built_split front all ts h.1 in (more t before, here, ap (more t) whole, (h.0, f), a)

-- ---- lines

module _ (l : TreeLine) (old front all : List Level) (whole : old ≡ front ++ all) (count : length all ≡ arity l) where
  -- a step uses what was taken, so this fits the line and has few levels
  pub can : (ts us : Trees) → AreBuilt old ts → Steps l ts us → Fits l (level_meanings all) × (most_of all < 1000)
  can ts us h s =
      let (before, here, is, f, a) = built_split front all ts (rw (← whole) h) in
      let k = alike all here a in
      let same = split_same s.front before s.used here (sym s.before ∙ is) (s.makes.number ∙ sym count ∙ k.number) in
      (subst (Fits l) (ap meanings_of same.1 ∙ sym k.meanings) s.makes.fits, omega (arith, ap most_levels same.1, k.levels, s.makes.low))

  -- a recorder over it was pushed
  pub does_put : (new : List Level) (top : Level) → CanBeSpelled l → Fits l (level_meanings all) → level_meaning top ≡ line_meaning l (level_meanings all)
      → top.levels ≡ suc (most_of all) → most_of all < 1000 → new ≡ front ++ top ∷ [] → (ts : Trees) → AreBuilt old ts → (us : Trees) × Steps l ts us × AreBuilt new us
  does_put new top spelled fit mean lev low is ts h =
      let (before, here, cut, front_built, a) = built_split front all ts (rw (← whole) h) in
      let k = alike all here a in
      let makes : Makes l here = record { spelled = spelled; number = sym k.number ∙ count; fits = subst (Fits l) k.meanings fit; low = omega (arith, k.levels, low) } in
      let built : IsBuilt top (Node l here) = record { meaning = mean ∙ ap (line_meaning l) k.meanings; levels = omega (arith, lev, k.levels); allowed = (makes, k.allowed) } in
      (push before (Node l here), record { front = before; used = here; before = cut; after = refl; makes = makes }, rw is (built_push front before top (Node l here) front_built built))

-- too short a stack
pub does_short : (l : TreeLine) (old : List Level) → length old < arity l → (ts us : Trees) → AreBuilt old ts → Steps l ts us → ⊥
does_short l old lt ts us h s = absurd (omega (arith, (alike old ts h).number, ap number_of s.before, number-append s.front s.used, s.makes.number, lt))

-- ---- bytes

-- `end` over more or fewer trees than one
pub not_one : (bytes : List ℕ) (old : List Level) (ts : Trees) → bytes ≡ spelling line.End → (length old ≡ 1 → ⊥) → AreBuilt old ts →
    ((t : Tree) → bytes ≡ spelling line.End → ts ≡ more t none → ⊥) × IsStuck bytes ts
not_one bytes old ts e ne b = ((λ t f g. ne ((alike old ts b).number ∙ ap number_of g)), rw e (end_stuck ts))

-- a line that is bad there
pub bad_line : (said : TreeLine) (old : List Level) (e : LineError) → (e ≡ Bad → (ts us : Trees) → AreBuilt old ts → Steps said ts us → ⊥) → (bytes : List ℕ) → Spells bytes said
    → (bytes ≡ spelling line.End → ⊥) → e ≡ Bad → (ts : Trees) → AreBuilt old ts → ((t : Tree) → bytes ≡ spelling line.End → ts ≡ more t none → ⊥) × IsStuck bytes ts
bad_line said old e fails bytes sp not_end bad ts b =
    ((λ t is one. not_end is), λ l us sq st. fails bad ts us b (subst (λ k. Steps k ts us) (line_same l said sq.0 sp.0 (sym sq.1 ∙ sp.1)) st))
