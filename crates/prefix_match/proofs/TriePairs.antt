-- The pairs that the nodes hold, and what a new node leaves of them.
use Rattle.std.proofs.Common.{◌≡◌, ℕ, List, [], ◌∷◌, ◌++◌, length, Option, Some, None, Result, Ok, Err, IfOk, OnErr, refl, sym, ap, ◌∙◌, subst, arith}
use Rattle.std.proofs.lemmas.List.{length-map}
use Rattle.std.proofs.lemmas.List.Elements.{Contains-append_left}
use Rattle.std.specs.List.{Contains}
use Rattle.prefix_match.specs.declared.trie.tree.Node.{Node}
use Rattle.prefix_match.specs.TrieTree.{paths, values, pairs_of, SameNodes, AddsNode, Grows}

pub pairs_push : (ps : List (List ℕ)) (vs : List (Option ℕ)) (p : List ℕ) → length ps ≡ length vs → pairs_of (ps ++ p ∷ []) (vs ++ None ∷ []) ≡ pairs_of ps vs
pairs_push [] [] p e = refl
pairs_push [] (v ∷ vs) p e = absurd (omega arith)
pairs_push (q ∷ ps) [] p e = absurd (omega arith)
pairs_push (q ∷ ps) (None ∷ vs) p e = pairs_push ps vs p (omega arith)
pairs_push (q ∷ ps) (Some v ∷ vs) p e = ap (λ r. (q, v) ∷ r) (pairs_push ps vs p (omega arith))

pub same_lengths : (nodes : List Node) → length (paths nodes) ≡ length (values nodes)
same_lengths nodes = length-map nodes (λ (x : Node). x.path.items) ∙ sym (length-map nodes (λ (x : Node). x.value))

pub same_grows : (old new : List Node) → SameNodes old new → Grows old new
same_grows old new s = record {
  same_pairs = ap (λ ps. pairs_of ps (values new)) s.same_paths ∙ ap (pairs_of (paths old)) s.same_values;
  keeps_room = λ q h. subst (λ (ps : List (List ℕ)). Contains ps q) (sym s.same_paths) h;
}

pub added_grows : (old new : List Node) (path : List ℕ) (n : ℕ) → AddsNode old new path n → Grows old new
added_grows old new path n a = record {
  same_pairs = ap (λ ps. pairs_of ps (values new)) a.more_paths ∙ ap (pairs_of (paths old ++ path ∷ [])) a.more_values ∙ pairs_push (paths old) (values old) path (same_lengths old);
  keeps_room = λ q h. subst (λ (ps : List (List ℕ)). Contains ps q) (sym a.more_paths) (Contains-append_left (paths old) (path ∷ []) q h);
}

pub grows_trans : (a b c : List Node) → Grows a b → Grows b c → Grows a c
grows_trans a b c g h = record {
  same_pairs = h.same_pairs ∙ g.same_pairs;
  keeps_room = λ q r. h.keeps_room q (g.keeps_room q r);
}

-- after a call that adds a node or leaves them as they are
pub result_grows : {E : Type 0} (old new : List Node) (path : List ℕ) (r : Result ℕ E) → IfOk r (AddsNode old new path) → OnErr r (SameNodes old new) → Grows old new
result_grows old new path (Ok n) a s = added_grows old new path n a
result_grows old new path (Err e) a s = same_grows old new s
