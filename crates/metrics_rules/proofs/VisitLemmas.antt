-- Visits, one after another, and the visit that goes from child to child.
use Rattle.std.proofs.Common.{◌≡◌, ℕ, ◌+◌, ◌<◌, ◌≤◌, ◌^◌, List, [], ◌∷◌, ◌++◌, length, take, drop, map, get_or, Result, Ok, Err, Some, None, Vec, Global, refl, ap, sym, ◌∙◌, subst, arith, length-append, append-nil, append_assoc, inl, inr}
use Rattle.std.specs.List.{FoldsTo}
use Rattle.std.proofs.Math.Seq.{take-append-add, drop-append-add}
use Rattle.std.proofs.lemmas.List.{take-append-le, drop-append-le, take-append-drop, take_all, length-map}
use Rattle.metrics_names.specs.declared.kind.MetricKind.{MetricKind}
use Rattle.metrics_names.specs.declared.refused.Refused.{Refused}
use Rattle.metrics_names.specs.Names.{KeyParts}
use Rattle.metrics.specs.Targets.{raise}
use Rattle.metrics.specs.TargetsLaws.{raise-append, raise-raise, length-raise, few}
use Rattle.metrics.specs.Meaning.{Meaning}
use Rattle.metrics.specs.Layers.{joined_all, targets_of}
use Rattle.metrics_rules.specs.Routing.{RouteTables, target_of, branch_of}
use Rattle.metrics_rules.specs.Nodes.{node_meaning, leaves_of, leaves_in, most_leaves}
use Rattle.metrics_rules.specs.Visits.{key_at, listed, shown, StopsAt, EndsEarly, Visits, FitsMore, after_more}
use Rattle.metrics_rules.specs.declared.visitor.Stopped.{Stopped}
use Rattle.metrics_rules.specs.declared.node.Node.{Node}
use Rattle.metrics_rules.proofs.JoinedLemmas.{targets-append}
use Rattle.metrics_rules.proofs.NodesLemmas.{IsGroup, meaning-is, start-of}
use Rattle.metrics_rules.proofs.OneChildLemmas.{front, before, front-more, targets-one}

module _ {V : Type 0} (accepts : V → ℕ → KeyParts → V → Type 0) (refuses : V → ℕ → KeyParts → Refused → V → Type 0) (labels : List (List ℕ × List ℕ)) where
  pub folds-append : (a : V) (ts : List (ℕ × List ℕ)) (b : V) (us : List (ℕ × List ℕ)) (c : V) →
      FoldsTo (shown accepts labels) a ts b → FoldsTo (shown accepts labels) b us c → FoldsTo (shown accepts labels) a (ts ++ us) c
  folds-append a [] b us c p q = subst (λ (v : V). FoldsTo (shown accepts labels) v us c) (sym p) q
  folds-append a (t ∷ ts) b us c p q = (p.0, p.1, folds-append p.0 ts b us c p.2 q)

  -- a visit, after all of those
  pub visits-after : (a : V) (ts : List (ℕ × List ℕ)) (b : V) (us : List (ℕ × List ℕ)) (c : V) (n : ℕ) (r : Result ℕ Stopped) → n ≡ length ts →
      FoldsTo (shown accepts labels) a ts b → Visits accepts refuses labels b us c r → Visits accepts refuses labels a (ts ++ us) c (after_more n r)
  visits-after a ts b us c n (Ok k) e p q = (omega (arith, e, q.0, length-append ts us), folds-append a ts b us c p q.1)
  visits-after a ts b us c n (Err s) e p q =
      subst (λ i. EndsEarly accepts refuses labels a (ts ++ us) c (record { accepted = i + s.accepted; refused = s.refused })) (sym e) (record {
        last = q.last;
        most = (let m = q.most in let l = length-append ts us in omega (arith, m, l));
        accepted = subst (λ vs. FoldsTo (shown accepts labels) a vs q.last) (sym (take-append-add ts us s.accepted)) (folds-append a ts b (take s.accepted us) q.last p q.accepted);
        stops = subst (λ vs. StopsAt refuses labels vs q.last s.refused c) (sym (drop-append-add ts us s.accepted)) q.stops;
      })

  pub fits-more : (a c : V) (us : List (ℕ × List ℕ)) (n : ℕ) (r : Result ℕ Stopped) → n + length us < 2 ^ 64 → Visits accepts refuses labels a us c r → FitsMore n r
  fits-more a c us n (Ok k) l q = omega (arith, l, q.0)
  fits-more a c us n (Err s) l q = let m = q.most in omega (arith, l, m)

  -- a visit that ended early does so if there are more
  pub ends-before : (a : V) (ts us : List (ℕ × List ℕ)) (c : V) (s : Stopped) → EndsEarly accepts refuses labels a ts c s → EndsEarly accepts refuses labels a (ts ++ us) c s
  ends-before a ts us c s q = record {
    last = q.last;
    most = (let m = q.most in let l = length-append ts us in omega (arith, m, l));
    accepted = subst (λ vs. FoldsTo (shown accepts labels) a vs q.last) (sym (take-append-le s.accepted ts us q.most)) q.accepted;
    stops = as_before q.stops;
  }
    where
      as_before : StopsAt refuses labels (drop s.accepted ts) q.last s.refused c → StopsAt refuses labels (drop s.accepted (ts ++ us)) q.last s.refused c
      as_before (inl (t, more, is, h)) = inl (t, more ++ us, drop-append-le s.accepted ts us q.most ∙ ap (λ vs. vs ++ us) is, h)
      as_before (inr s) = inr s

  -- a visit of one target, which refused
  pub refuses-one : (a b : V) (leaf : ℕ) (key : KeyParts) (e : Refused) → key.labels ≡ labels → refuses a leaf key e b →
      EndsEarly accepts refuses labels a ((leaf + 0, key.name) ∷ []) b (record { accepted = 0; refused = e })
  refuses-one a b leaf key e l h =
      let n : leaf ≡ leaf + 0 = omega arith in record {
        last = a;
        most = omega arith;
        accepted = refl;
        stops = inl ((leaf + 0, key.name), [], refl, subst (λ k. refuses a k (key_at labels (0, key.name)) e b) n (subst (λ ls. refuses a leaf (record { name = key.name; labels = ls }) e b) l h));
      }

-- a visitor that adds each target to a list has them all, in order
pub copies-are : {V : Type 0} (items : V → List (ℕ × KeyParts)) (labels : List (List ℕ × List ℕ)) (v : V) (ts : List (ℕ × List ℕ)) (w : V) →
    FoldsTo (shown (λ v leaf key w. items w ≡ items v ++ (leaf, key) ∷ []) labels) v ts w → items w ≡ items v ++ map (listed labels) ts
copies-are items labels v [] w h = ap items (sym h) ∙ sym (append-nil (items v))
copies-are items labels v (t ∷ ts) w h =
    copies-are items labels h.0 ts w h.2 ∙ ap (λ xs. xs ++ map (listed labels) ts) h.1 ∙ append_assoc (items v) (listed labels t ∷ []) (map (listed labels) ts)

-- ---- a visit of a group

-- the targets of the first of several nodes, whose leaves are numbered from some number on
abbrev pub got : MetricKind → List ℕ → ℕ → List Node → ℕ → List (ℕ × List ℕ)
got kind name from nodes i = raise from ((joined_all (take i (map node_meaning nodes))).targets kind name)

module _ {v : Vec Node Global} {starts : Vec ℕ Global} {leaves : ℕ} {old : Node} (kind : MetricKind) (name : List ℕ) (from : ℕ) where
  -- a name goes to one of several by routes
  pub only-targets : {tables : RouteTables} (group : IsGroup v starts leaves (Some tables) old) (k : ℕ) (x : Node) (lt : k < length v.items) → x ≡ get_or v.items k x → (start : ℕ) → start ≡ get_or starts.items k start →
      k ≡ branch_of (target_of tables kind name) → raise (from + start) ((node_meaning x).targets kind name) ≡ raise from ((node_meaning old).targets kind name)
  only-targets group k x lt at start begins e =
      let ts = (node_meaning x).targets kind name in
      ap (λ i. raise (from + i) ts) (sym (start-of group k x lt at start begins)) ∙ sym (raise-raise from (before node_meaning v.items k x lt at) ts)
      ∙ ap (raise from) (sym (targets-one node_meaning v.items k x lt at kind name)) ∙ ap (λ i. raise from (targets_of i (map node_meaning v.items) kind name)) e
      ∙ ap (λ (a : Meaning). raise from (a.targets kind name)) (sym (meaning-is group))

  module _ (group : IsGroup v starts leaves None old) where
    -- those of the others follow
    split : (i : ℕ) → raise from ((node_meaning old).targets kind name) ≡ got kind name from v.items i ++ raise from (raise (leaves_in (take i (map node_meaning v.items))) ((joined_all (drop i (map node_meaning v.items))).targets kind name))
    split i =
        let all = map node_meaning v.items in
        ap (λ (a : Meaning). raise from (a.targets kind name)) (meaning-is group) ∙ ap (λ bs. raise from ((joined_all bs).targets kind name)) (sym (take-append-drop i all))
        ∙ ap (raise from) (targets-append kind name (take i all) (drop i all))
        ∙ raise-append from ((joined_all (take i all)).targets kind name) (raise (leaves_in (take i all)) ((joined_all (drop i all)).targets kind name))

    few-got : (i : ℕ) → length (got kind name from v.items i) ≤ most_leaves
    few-got i =
        let a = node_meaning old in
        let l = ap length (split i) ∙ length-append (got kind name from v.items i) _ in
        omega (arith, l, length-raise from (a.targets kind name), few (leaves_of a) (a.targets kind name) (a.below kind name) (a.distinct kind name), group.tree.1)

    pub got-all : (i : ℕ) → length v.items ≤ i → got kind name from v.items i ≡ raise from ((node_meaning old).targets kind name)
    got-all i le =
        let l = length-map v.items node_meaning in
        ap (λ all. raise from ((joined_all all).targets kind name)) (take_all i (map node_meaning v.items) (omega (arith, l, le)))
        ∙ ap (λ (a : Meaning). raise from (a.targets kind name)) (sym (meaning-is group))

    -- a child is visited after those before it
    module _ (i : ℕ) (x : Node) (lt : i < length v.items) (at : x ≡ get_or v.items i x) (start : ℕ) (begins : start ≡ get_or starts.items i start)
        {V : Type 0} (accepts : V → ℕ → KeyParts → V → Type 0) (refuses : V → ℕ → KeyParts → Refused → V → Type 0) (labels : List (List ℕ × List ℕ))
        (b c : V) (n : ℕ) (r : Result ℕ Stopped) (e : n ≡ length (got kind name from v.items i)) (h : Visits accepts refuses labels b (raise (from + start) ((node_meaning x).targets kind name)) c r) where
      abbrev here : List (ℕ × List ℕ)
      here = raise (from + start) ((node_meaning x).targets kind name)

      more : got kind name from v.items (i + 1) ≡ got kind name from v.items i ++ here
      more =
          let fs = front node_meaning v.items i x lt at in
          let ts = (node_meaning x).targets kind name in
          ap (λ all. raise from ((joined_all all).targets kind name)) (front-more node_meaning v.items i x lt at)
          ∙ ap (raise from) (targets-append kind name fs (node_meaning x ∷ []) ∙ ap (λ us. (joined_all fs).targets kind name ++ raise (leaves_in fs) us) (append-nil ts))
          ∙ raise-append from ((joined_all fs).targets kind name) (raise (leaves_in fs) ts)
          ∙ ap (λ us. got kind name from v.items i ++ us) (raise-raise from (leaves_in fs) ts ∙ ap (λ k. raise (from + k) ts) (start-of group i x lt at start begins))

      pub next-fits : FitsMore n r
      next-fits =
          let l = ap length more ∙ length-append (got kind name from v.items i) here in
          fits-more accepts refuses labels b c here n r (omega (arith, l, e, few-got (i + 1))) h

      pub next-visits : (a : V) (q : Result ℕ Stopped) → FoldsTo (shown accepts labels) a (got kind name from v.items i) b → q ≡ after_more n r →
          Visits accepts refuses labels a (got kind name from v.items (i + 1)) c q
      next-visits a q p is =
          subst (λ ts. Visits accepts refuses labels a ts c q) (sym more)
          (subst (Visits accepts refuses labels a (got kind name from v.items i ++ here) c) (sym is) (visits-after accepts refuses labels a (got kind name from v.items i) b here c n r e p h))

      -- if it ended early, so does the visit of all
      pub next-ends : (a : V) (s : Stopped) → FoldsTo (shown accepts labels) a (got kind name from v.items i) b → Err s ≡ after_more n r →
          EndsEarly accepts refuses labels a (raise from ((node_meaning old).targets kind name)) c s
      next-ends a s p is =
          subst (λ ts. EndsEarly accepts refuses labels a ts c s) (sym (split (i + 1)))
          (ends-before accepts refuses labels a (got kind name from v.items (i + 1)) _ c s (next-visits a (Err s) p is))
