-- Lines are read in one way, each over the trees before it. So they begin with at most one tree, and a bad line over trees is the first one.
use Rattle.std.proofs.Common.{◌≡◌, ℕ, ◌+◌, List, [], ◌∷◌, ◌++◌, length, refl, sym, ap, subst, ◌∙◌, arith, append_assoc, append-nil, length-append}
use Rattle.tool_trees.specs.declared.tree_line.TreeLine.{TreeLine}
use Rattle.tool_trees.specs.declared.tree_line.TreeLine.TheVariants as line
use Rattle.tool_trees.specs.Words.{spelling, Spells}
use Rattle.tool_trees.specs.Trees.{Tree, Node, Trees, none, more, number_of, append, push, arity, tree_lines, trees_lines, meanings_of, Fits, IsAllowed, AreAllowed, Steps, IsStuck, AreOfTrees, IsFirstBad, BeginsWithTree, NoTree}
use Rattle.tool_trees.proofs.Lines.{line_same}

-- ---- several trees

append_none : (ts : Trees) → append ts none ≡ ts
append_none none = refl
append_none (more t ts) = ap (more t) (append_none ts)

append_append : (a b c : Trees) → append (append a b) c ≡ append a (append b c)
append_append none b c = refl
append_append (more t a) b c = ap (more t) (append_append a b c)

pub number-append : (a b : Trees) → number_of (append a b) ≡ number_of a + number_of b
number-append none b = omega arith
number-append (more t a) b = omega (arith, number-append a b)

lines-append : (a b : Trees) → trees_lines (append a b) ≡ trees_lines a ++ trees_lines b
lines-append none b = refl
lines-append (more t a) b = ap (λ ls. tree_lines t ++ ls) (lines-append a b) ∙ sym (append_assoc (tree_lines t) (trees_lines a) (trees_lines b))

-- two splits with parts of one length are one
pub split_same : (a b x y : Trees) → append a x ≡ append b y → number_of x ≡ number_of y → (a ≡ b) × (x ≡ y)
split_same none none x y e l = (refl, e)
split_same none (more t b) x y e l = absurd (omega (arith, ap number_of e, number-append b y))
split_same (more s a) none x y e l = absurd (omega (arith, ap number_of e, number-append a x))
split_same (more s a) (more t b) x y e l =
    let tail : append a x ≡ append b y = cc in
    let rest = split_same a b x y tail l in
    (cc, rest.1)

-- a line adds itself to those of the trees
pub step_lines : (bytes : List ℕ) (l : TreeLine) (ts us : Trees) → Spells bytes l → Steps l ts us → trees_lines us ≡ trees_lines ts ++ bytes ∷ []
step_lines bytes l ts us sp st = rw (st.after, st.before, sp.1) (simp (lines-append, append_assoc, append-nil))

-- ---- reading

-- the lines lead from these trees to those
abbrev Reads : List (List ℕ) → Trees → Trees → Type 0
Reads [] ts us = ts ≡ us
Reads (x ∷ ls) ts us = (l : TreeLine) × (mid : Trees) × Spells x l × Steps l ts mid × Reads ls mid us

mutual
  reads_tree : (t : Tree) → IsAllowed t → (ts us : Trees) (ls : List (List ℕ)) → Reads ls (push ts t) us → Reads (tree_lines t ++ ls) ts us
  reads_tree (Node l used) h ts us ls r =
      let step : Steps l (append ts used) (push ts (Node l used)) = record { front = ts; used = used; before = refl; after = refl; makes = h.0 } in
      rw (append_assoc (trees_lines used) (spelling l ∷ []) ls) (reads_trees used h.1 ts us (spelling l ∷ ls) (l, push ts (Node l used), (h.0.spelled, refl), step, r))

  reads_trees : (others : Trees) → AreAllowed others → (ts us : Trees) (ls : List (List ℕ)) → Reads ls (append ts others) us → Reads (trees_lines others ++ ls) ts us
  reads_trees none h ts us ls r = subst (λ vs. Reads ls vs us) (append_none ts) r
  reads_trees (more t others) h ts us ls r =
      rw (append_assoc (tree_lines t) (trees_lines others) ls)
      (reads_tree t h.0 ts us (trees_lines others ++ ls) (reads_trees others h.1 (push ts t) us ls (subst (λ vs. Reads ls vs us) (sym (append_append ts (more t none) others)) r)))

step_same : (x : List ℕ) (k l : TreeLine) (ts us vs : Trees) → Spells x k → Spells x l → Steps k ts us → Steps l ts vs → us ≡ vs
step_same x k l ts us vs p q f g =
    let said : k ≡ l = line_same k l p.0 q.0 (sym p.1 ∙ q.1) in
    let both = split_same f.front g.front f.used g.used (sym f.before ∙ g.before) (f.makes.number ∙ ap arity said ∙ sym g.makes.number) in
    f.after ∙ ap (λ ws. push ws (Node k f.used)) both.0 ∙ ap (λ ws. push g.front (Node k ws)) both.1 ∙ ap (λ m. push g.front (Node m g.used)) said ∙ sym g.after

-- lines are read up to one place where the next line is stuck
meet : (a b p q : List (List ℕ)) (x y : List ℕ) (ts us vs : Trees) → Reads a ts us → IsStuck x us → Reads b ts vs → IsStuck y vs → a ++ x ∷ p ≡ b ++ y ∷ q → (us ≡ vs) × (x ≡ y) × (p ≡ q)
meet [] [] p q x y ts us vs f h g k e = (sym f ∙ g, cc, cc)
meet [] (w ∷ b) p q x y ts us vs f h (l, mid, sp, st, g) k e = absurd (h l mid (sp.0, cc) (subst (λ ws. Steps l ws mid) f st))
meet (w ∷ a) [] p q x y ts us vs (l, mid, sp, st, f) h g k e = absurd (k l mid (sp.0, cc) (subst (λ ws. Steps l ws mid) g st))
meet (w ∷ a) (z ∷ b) p q x y ts us vs (l, mid, sp, st, f) h (m, end, sq, su, g) k e =
    let head : w ≡ z = cc in
    let tail : a ++ x ∷ p ≡ b ++ y ∷ q = cc in
    meet a b p q x y mid us vs f h (subst (λ ws. Reads b ws vs) (sym (step_same w l m ts mid end sp (sq.0, head ∙ sq.1) st su)) g) k tail

abbrev end : List ℕ
end = spelling line.End

pub end_stuck : (ts : Trees) → IsStuck (spelling line.End) ts
end_stuck ts l us sp st = subst (λ k. Fits k (meanings_of st.used)) (line_same l line.End sp.0 tt (sym sp.1)) st.makes.fits

-- so lines are those of one list of trees, up to there
only : (ts us : Trees) (x y : List ℕ) (p q : List (List ℕ)) → AreAllowed ts → IsStuck x ts → AreAllowed us → IsStuck y us → trees_lines ts ++ x ∷ p ≡ trees_lines us ++ y ∷ q → (ts ≡ us) × (x ≡ y) × (p ≡ q)
only ts us x y p q h f g k e = meet (trees_lines ts) (trees_lines us) p q x y none ts us (reads ts h) f (reads us g) k e
  where
    reads : (vs : Trees) → AreAllowed vs → Reads (trees_lines vs) none vs
    reads vs a = subst (λ ls. Reads ls none vs) (append-nil (trees_lines vs)) (reads_trees vs a none vs [] refl)

-- ---- whole texts

-- the lines of one tree
begins : (ls : List (List ℕ)) (t : Tree) (rest : List (List ℕ)) → BeginsWithTree ls t rest → ls ≡ trees_lines (more t none) ++ spelling line.End ∷ rest
begins ls t rest w = rw (append-nil (tree_lines t)) w.1

-- lines begin with at most one tree
pub one_tree : (ls : List (List ℕ)) (s t : Tree) (rest others : List (List ℕ)) → BeginsWithTree ls s rest → BeginsWithTree ls t others → (s ≡ t) × (rest ≡ others)
one_tree ls s t rest others h g =
    let both = only (more s none) (more t none) _ _ rest others (h.0, tt) (end_stuck (more s none)) (g.0, tt) (end_stuck (more t none)) (sym (begins ls s rest h) ∙ begins ls t others g) in
    let trees : more s none ≡ more t none = both.0 in
    (cc, both.2)

-- lines of trees have no `end`
pub no_end : (ts : Trees) → AreAllowed ts → NoTree (trees_lines ts)
no_end ts h t rest w =
    let lines = ap (λ ls. ls ++ end ∷ []) (begins (trees_lines ts) t rest w) ∙ append_assoc (trees_lines (more t none)) (end ∷ rest) (end ∷ []) in
    let both = only ts (more t none) end end [] (rest ++ end ∷ []) h (end_stuck ts) (w.0, tt) (end_stuck (more t none)) lines in
    absurd (omega (arith, ap length both.2, length-append rest (end ∷ [])))

-- a bad line over trees, which is neither the end of one tree nor a line that accepts the trees there, is the first one
pub first_bad : (ts : Trees) (bad : List ℕ) → AreAllowed ts → ((t : Tree) → bad ≡ spelling line.End → ts ≡ more t none → ⊥) → IsStuck bad ts → IsFirstBad (trees_lines ts) bad
first_bad ts bad h not_end stuck = record { before = (ts, h, refl); no_more = no_more; no_tree = no_tree }
  where
    no_more : AreOfTrees (trees_lines ts ++ bad ∷ []) → ⊥
    no_more (us, g, e) =
        let both = only ts us bad end (end ∷ []) [] h stuck g (end_stuck us) (sym (append_assoc (trees_lines ts) (bad ∷ []) (end ∷ [])) ∙ ap (λ ls. ls ++ end ∷ []) e) in
        absurd (omega (arith, ap length both.2))

    no_tree : (following : List (List ℕ)) → NoTree ((trees_lines ts ++ bad ∷ []) ++ following)
    no_tree following t rest w =
        let both = only ts (more t none) bad end following rest h stuck (w.0, tt) (end_stuck (more t none)) (sym (append_assoc (trees_lines ts) (bad ∷ []) following) ∙ begins _ t rest w) in
        not_end t both.1 both.0
