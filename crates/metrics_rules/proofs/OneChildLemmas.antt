-- One child of several: its targets and leaves among all.
use Rattle.std.proofs.Common.{◌≡◌, ℕ, suc, ◌+◌, ◌<◌, ◌≤◌, List, [], ◌∷◌, ◌++◌, length, take, drop, map, get_or, set, ap, sym, ◌∙◌, subst, arith, length-append}
use Rattle.std.proofs.Math.Seq.{split_at}
use Rattle.std.proofs.lemmas.List.{set_split, map-set, length-map, length-take-le, get_or-map, take_more}
use Rattle.metrics_names.specs.declared.kind.MetricKind.{MetricKind}
use Rattle.metrics.specs.Targets.{raise}
use Rattle.metrics.specs.Meaning.{Meaning}
use Rattle.metrics.specs.Layers.{joined_all, targets_of}
use Rattle.metrics_rules.specs.Nodes.{leaves_of, leaves_in}
use Rattle.metrics_rules.proofs.JoinedLemmas.{targets_of-past, leaves-append}

module _ {Y : Type 0} (M : Y → Meaning) (ys : List Y) (n : ℕ) (x : Y) (lt : n < length ys) (at : x ≡ get_or ys n x) where
  abbrev pub front : List Meaning
  front = take n (map M ys)

  abbrev pub rest : List Meaning
  rest = drop (suc n) (map M ys)

  -- the leaves of the children before it
  abbrev pub before : ℕ
  before = leaves_in front

  pub inside : n < length (map M ys)
  inside = let l = length-map ys M in omega (arith, lt, l)

  pub child-is : get_or (map M ys) n (M x) ≡ M x
  child-is = get_or-map M ys n x (M x) lt ∙ ap M (sym at)

  pub all_is : map M ys ≡ front ++ M x ∷ rest
  all_is = split_at (map M ys) n (M x) inside ∙ ap (λ a. front ++ a ∷ rest) child-is

  pub new_is : (y : Y) → map M (set ys n y) ≡ front ++ M y ∷ rest
  new_is y = map-set M ys n y ∙ set_split (map M ys) n (M y) inside

  -- what holds of all before and after it became another, by the parts of both
  pub by_parts : (y : Y) (P : List Meaning → List Meaning → Type 0) → P (front ++ M x ∷ rest) (front ++ M y ∷ rest) → P (map M ys) (map M (set ys n y))
  by_parts y P h = subst (λ all. P all (map M (set ys n y))) (sym all_is) (subst (P (front ++ M x ∷ rest)) (sym (new_is y)) h)

  -- the children up to this one
  pub front-more : take (n + 1) (map M ys) ≡ front ++ M x ∷ []
  front-more = take_more (map M ys) n (M x) inside ∙ ap (λ a. front ++ a ∷ []) child-is

  pub targets-one : (kind : MetricKind) (name : List ℕ) → targets_of n (map M ys) kind name ≡ raise before ((M x).targets kind name)
  targets-one kind name =
      let l = length-take-le n (map M ys) (omega (arith, inside)) in
      let k : n ≡ length front + 0 = omega (arith, l) in
      ap (λ all. targets_of n all kind name) all_is ∙ ap (λ k. targets_of k (front ++ M x ∷ rest) kind name) k ∙ targets_of-past kind name front (M x ∷ rest) 0

  pub child-most : before + leaves_of (M x) ≤ leaves_in (map M ys)
  child-most =
      let b = ap leaves_in all_is ∙ leaves-append front (M x ∷ rest) in
      let e = length-append (M x).contents (joined_all rest).contents in
      omega (arith, b, e)
