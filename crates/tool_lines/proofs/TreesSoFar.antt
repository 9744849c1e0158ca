-- How far the lines of a tree are read, and how that ends.
use Rattle.std.proofs.Common.{◌≡◌, ℕ, suc, ◌+◌, ◌<◌, ◌≤◌, List, [], ◌∷◌, ◌++◌, length, Option, OnSome, Result, Ok, Err, MatchResult, true, false, refl, sym, ap, subst, ◌∙◌, inl, inr, arith, append-nil}
use Rattle.std.specs.Io.KnownBytes.{Consumes, IsAtEnd}
use Rattle.std.proofs.KnownBytes.{Consumes-nil, Consumes-trans}
use Rattle.metrics.specs.Meaning.{Meaning}
use Rattle.tool_grammar.specs.declared.error.RunError.{RunError}
use Rattle.tool_grammar.specs.declared.error.RunError.TheVariants.{BadLine, Device}
use Rattle.tool_trees.specs.Trees.{Trees, none, more, tree_lines, trees_lines, AreAllowed, NoTree, AreOfTrees}
use Rattle.tool_trees.proofs.OneListAtMost.{step_lines, no_end, first_bad}
use Rattle.tool_trees.specs.declared.level.Level.{Level}
use Rattle.tool_trees.specs.declared.level.LineError.{LineError}
use Rattle.tool_trees.specs.declared.level.LineError.TheVariants as levels
use Rattle.tool_trees.specs.Doing.{level_meaning, AreBuilt, DoesLine}
use Rattle.tool_trees.proofs.Doing.{alike}
use Rattle.tool_stream.specs.Lines.{lines_of, ended, unlines, IsLine}
use Rattle.tool_stream.specs.declared.stream.Fault.{Fault}
use Rattle.tool_stream.specs.declared.stream.Fault.TheVariants as faults
use Rattle.tool_stream.specs.Answering.{fault_at}
use Rattle.tool_lines.specs.TreeReading.{AreRead, StopsAfter, BuildsTree, RefusesTree, error_at}
use Rattle.tool_stream.proofs.LinesLemmas.{lines-last, lines-one}
use Rattle.std.proofs.lemmas.List.{length_push}
use Rattle.tool_stream.proofs.Loop.{unlines_push, split_push}
use Rattle.tool_stream.proofs.Reading.{at_end_from}

-- a line is one at most
line_or_none : (bytes : List ℕ) → IsLine bytes → length (lines_of bytes) ≤ 1
line_or_none [] h = omega arith
line_or_none (x ∷ bytes) h = omega (arith, ap length (lines-last (x ∷ bytes) h (omega arith)))

one_line : (bytes : List ℕ) → IsLine bytes → length (lines_of (ended bytes)) ≤ 1
one_line bytes h = omega (arith, ap length (lines-one bytes h))

-- the lines of trees have no `end`
ends_early : (ts : Trees) → AreAllowed ts → (ls : List (List ℕ)) → ls ≡ trees_lines ts → AreOfTrees ls × NoTree ls
ends_early ts h ls e = ((ts, h, e), subst NoTree (sym e) (no_end ts h))

-- These lines were read, and the stack is what they make.
pub record TreesSoFar (a b : Option (List ℕ)) (stack : List Level) (number : ℕ) : Type 0 where
  pub trees : Trees
  pub read : Consumes a b (unlines (trees_lines trees))
  pub split : (rest : List ℕ) → lines_of (unlines (trees_lines trees) ++ rest) ≡ trees_lines trees ++ lines_of rest
  pub built : AreBuilt stack trees
  pub numbered : number ≡ suc (length (trees_lines trees))

-- no line was read
pub begun : (a : Option (List ℕ)) (stack : List Level) → stack ≡ [] → TreesSoFar a a stack 1
begun a stack e = record {
  trees = none;
  read = Consumes-nil a;
  split = λ rest. refl;
  built = subst (λ (ls : List Level). AreBuilt ls none) (sym e) tt;
  numbered = refl;
}

-- what `tree` ensures
abbrev pub Ends : Option (List ℕ) → Option (List ℕ) → (List ℕ → Type 0) → Type 0
Ends a c P = (read : List ℕ) × Consumes a c read × P read

abbrev pub Refused : Option (List ℕ) → Option (List ℕ) → RunError → Type 0
Refused a c e = (read : List ℕ) × Consumes a c read × RefusesTree (OnSome a (IsAtEnd c)) read e

abbrev pub Built : Option (List ℕ) → Option (List ℕ) → Meaning → ℕ → Type 0
Built a c m n = (read : List ℕ) × Consumes a c read × BuildsTree (OnSome a (IsAtEnd c)) read m n

module _ (a b c : Option (List ℕ)) (stack : List Level) (number : ℕ) (so : TreesSoFar a b stack number) (bytes : List ℕ) where
  -- one more line
  pub trees_more : (new : List Level) → IsLine bytes → Consumes b c (ended bytes) → DoesLine bytes stack new (Ok false) → TreesSoFar a c new (number + 1)
  trees_more new h r does =
      let (said, us, sp, st, built) = does so.trees so.built in
      let lines : trees_lines us ≡ trees_lines so.trees ++ bytes ∷ [] = step_lines bytes said so.trees us sp st in
      let long : length (trees_lines us) ≡ suc (length (trees_lines so.trees)) = ap length lines ∙ omega (arith, length_push (trees_lines so.trees) bytes) in
      record {
        trees = us;
        read = subst (λ (ls : List (List ℕ)). Consumes a c (unlines ls)) (sym lines) (subst (Consumes a c) (sym (unlines_push (trees_lines so.trees) bytes)) (Consumes-trans a b c _ _ so.read r));
        split = subst (λ (ls : List (List ℕ)). (rest : List ℕ) → lines_of (unlines ls ++ rest) ≡ ls ++ lines_of rest) (sym lines) (split_push (trees_lines so.trees) bytes h so.split);
        built = built;
        numbered = omega (arith, so.numbered, long);
      }

  -- lines of trees were read, and this much more
  stops : (part : List ℕ) → Consumes b c part → length (lines_of part) ≤ 1 → (read : List ℕ) × Consumes a c read × StopsAfter read (trees_lines so.trees)
  stops part r short =
      let old = unlines (trees_lines so.trees) in
      (old ++ part, Consumes-trans a b c _ _ so.read r, (part, (so.trees, (alike stack so.trees so.built).allowed, refl), refl, so.split part, short))

  -- the line was read, with its line feed
  line_read : IsLine bytes → Consumes b c (ended bytes) → Ends a c (λ read. AreRead (OnSome a (IsAtEnd c)) read (trees_lines so.trees ++ bytes ∷ []))
  line_read h r =
      let e = unlines_push (trees_lines so.trees) bytes in
      (unlines (trees_lines so.trees ++ bytes ∷ []), subst (Consumes a c) (sym e) (Consumes-trans a b c _ _ so.read r), inl (refl, split_push (trees_lines so.trees) bytes h so.split))

  -- the last line was read, which has none
  last_read : IsLine bytes → 0 < length bytes → Consumes b c bytes → OnSome b (IsAtEnd c) → Ends a c (λ read. AreRead (OnSome a (IsAtEnd c)) read (trees_lines so.trees ++ bytes ∷ []))
  last_read h p r e =
      (unlines (trees_lines so.trees) ++ bytes, Consumes-trans a b c _ _ so.read r, inr (at_end_from a b c _ so.read e, so.split bytes ∙ ap (λ ls. trees_lines so.trees ++ ls) (lines-last bytes h p)))

  -- it was `end`
  finish : Ends a c (λ read. AreRead (OnSome a (IsAtEnd c)) read (trees_lines so.trees ++ bytes ∷ [])) → (new : List Level) → DoesLine bytes stack new (Ok true) → (m : Meaning) (n : ℕ) → n ≡ number + 1 → ((l : Level) → new ≡ l ∷ [] → m ≡ level_meaning l) → Built a c m n
  finish (read, took, are) new (is, one, same) m n e mean = of_one stack so.trees so.built one refl refl
    where
      of_one : (ls : List Level) (ts : Trees) → AreBuilt ls ts → length ls ≡ 1 → ls ≡ stack → ts ≡ so.trees → Built a c m n
      of_one [] ts h g p q = absurd (omega arith)
      of_one (l ∷ (k ∷ ls)) ts h g p q = absurd (omega arith)
      of_one (l ∷ []) none h g p q = absurd h
      of_one (l ∷ []) (more t (more u ts)) h g p q = absurd h.1
      of_one (l ∷ []) (more t none) h g p q =
          let lines : trees_lines so.trees ≡ tree_lines t = ap trees_lines (sym q) ∙ append-nil (tree_lines t) in
          let long : length (trees_lines so.trees) ≡ length (tree_lines t) = ap length lines in
          (read, took, (t, h.0.allowed, mean l (same ∙ sym p) ∙ h.0.meaning, subst (λ (ls : List (List ℕ)). AreRead (OnSome a (IsAtEnd c)) read ls) (ap (λ ls. ls ++ bytes ∷ []) lines ∙ ap (λ x. tree_lines t ++ x ∷ []) is) are, omega (arith, e, so.numbered, long)))

  -- it was bad
  refuse : (part : List ℕ) → Consumes b c part → length (lines_of part) ≤ 1 → Ends a c (λ read. AreRead (OnSome a (IsAtEnd c)) read (trees_lines so.trees ++ bytes ∷ [])) → (new : List Level) (e : LineError) → DoesLine bytes stack new (Err e) → Refused a c (error_at number e)
  refuse part r short are new levels.Memory does = let (read, took, stopped) = stops part r short in (read, took, (trees_lines so.trees, stopped, so.numbered))
  refuse part r short (read, took, are) new levels.Bad does =
      let bad = does refl so.trees so.built in
      (read, took, inl (trees_lines so.trees, bytes, are, first_bad so.trees bytes (alike stack so.trees so.built).allowed bad.0 bad.1, so.numbered))

  pub refuse_line : IsLine bytes → Consumes b c (ended bytes) → (new : List Level) (e : LineError) → DoesLine bytes stack new (Err e) → Refused a c (error_at number e)
  refuse_line h r = refuse (ended bytes) r (one_line bytes h) (line_read h r)

  pub refuse_last : IsLine bytes → 0 < length bytes → Consumes b c bytes → OnSome b (IsAtEnd c) → (new : List Level) (e : LineError) → DoesLine bytes stack new (Err e) → Refused a c (error_at number e)
  refuse_last h p r e = refuse bytes r (line_or_none bytes h) (last_read h p r e)

  -- the last line accepted its trees, and no `end` follows
  pub ended_early : IsLine bytes → 0 < length bytes → Consumes b c bytes → OnSome b (IsAtEnd c) → (new : List Level) → DoesLine bytes stack new (Ok false) → Refused a c (BadLine (number + 1))
  ended_early h p r e new does =
      let (said, us, sp, st, built) = does so.trees so.built in
      let lines : trees_lines us ≡ trees_lines so.trees ++ bytes ∷ [] = step_lines bytes said so.trees us sp st in
      let long : length (trees_lines us) ≡ suc (length (trees_lines so.trees)) = ap length lines ∙ omega (arith, length_push (trees_lines so.trees) bytes) in
      let whole : lines_of (unlines (trees_lines so.trees) ++ bytes) ≡ trees_lines us = so.split bytes ∙ ap (λ ls. trees_lines so.trees ++ ls) (lines-last bytes h p) ∙ sym lines in
      let early = ends_early us (alike new us built).allowed _ whole in
      (unlines (trees_lines so.trees) ++ bytes, Consumes-trans a b c _ _ so.read r, inr (at_end_from a b c _ so.read e, early.0, early.1, omega (arith, so.numbered, long, ap length whole)))

  -- no line is left
  pub none_left : Consumes b c [] → OnSome b (IsAtEnd c) → Refused a c (BadLine number)
  none_left r e =
      let whole : lines_of (unlines (trees_lines so.trees) ++ []) ≡ trees_lines so.trees = so.split [] ∙ append-nil (trees_lines so.trees) in
      let early = ends_early so.trees (alike stack so.trees so.built).allowed _ whole in
      (unlines (trees_lines so.trees) ++ [], Consumes-trans a b c _ _ so.read r, inr (at_end_from a b c _ so.read e, early.0, early.1, omega (arith, so.numbered, ap length whole)))

  of_result : {F : Type 0} (mean : F → Meaning) (num : F → ℕ) (r : Result F RunError) (new : List Level) → MatchResult r (λ found. (num found ≡ number + 1) × ((l : Level) → new ≡ l ∷ [] → mean found ≡ level_meaning l)) (λ e. e ≡ Device)
      → (part : List ℕ) → Consumes b c part → length (lines_of part) ≤ 1 → Ends a c (λ read. AreRead (OnSome a (IsAtEnd c)) read (trees_lines so.trees ++ bytes ∷ [])) → DoesLine bytes stack new (Ok true)
      → Ends a c (λ read. MatchResult r (λ found. BuildsTree (OnSome a (IsAtEnd c)) read (mean found) (num found)) (λ e. RefusesTree (OnSome a (IsAtEnd c)) read e))
  of_result mean num (Ok found) new h part r short are does = finish are new does (mean found) (num found) h.0 h.1
  of_result mean num (Err e) new h part r short are does =
      let (read, took, stopped) = stops part r short in
      (read, took, subst (RefusesTree (OnSome a (IsAtEnd c)) read) (sym h) (trees_lines so.trees, stopped))

  pub result_line : {F : Type 0} (mean : F → Meaning) (num : F → ℕ) (r : Result F RunError) (new : List Level) → MatchResult r (λ found. (num found ≡ number + 1) × ((l : Level) → new ≡ l ∷ [] → mean found ≡ level_meaning l)) (λ e. e ≡ Device)
      → IsLine bytes → Consumes b c (ended bytes) → DoesLine bytes stack new (Ok true)
      → Ends a c (λ read. MatchResult r (λ found. BuildsTree (OnSome a (IsAtEnd c)) read (mean found) (num found)) (λ e. RefusesTree (OnSome a (IsAtEnd c)) read e))
  result_line mean num r new h il took does = of_result mean num r new h (ended bytes) took (one_line bytes il) (line_read il took) does

  pub result_last : {F : Type 0} (mean : F → Meaning) (num : F → ℕ) (r : Result F RunError) (new : List Level) → MatchResult r (λ found. (num found ≡ number + 1) × ((l : Level) → new ≡ l ∷ [] → mean found ≡ level_meaning l)) (λ e. e ≡ Device)
      → IsLine bytes → 0 < length bytes → Consumes b c bytes → OnSome b (IsAtEnd c) → DoesLine bytes stack new (Ok true)
      → Ends a c (λ read. MatchResult r (λ found. BuildsTree (OnSome a (IsAtEnd c)) read (mean found) (num found)) (λ e. RefusesTree (OnSome a (IsAtEnd c)) read e))
  result_last mean num r new h il p took e does = of_result mean num r new h bytes took (line_or_none bytes il) (last_read il p took e) does

  -- a line that could not be read
  pub unread_tree : (f : Fault) → IsLine bytes → Consumes b c bytes → Refused a c (fault_at number f)
  unread_tree faults.Memory h r = let (read, took, stopped) = stops bytes r (line_or_none bytes h) in (read, took, (trees_lines so.trees, stopped, so.numbered))
  unread_tree faults.Device h r = let (read, took, stopped) = stops bytes r (line_or_none bytes h) in (read, took, (trees_lines so.trees, stopped))

-- more lines than have numbers
pub given_up : (a b : Option (List ℕ)) (stack : List Level) (number : ℕ) → TreesSoFar a b stack number → Refused a b Device
given_up a b stack number so =
    let (read, took, stopped) = stops a b b stack number so [] [] (Consumes-nil b) (omega arith) in
    (read, took, (trees_lines so.trees, stopped))
