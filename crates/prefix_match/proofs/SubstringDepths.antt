-- The states with the numbers of their bytes.
use Rattle.std.proofs.Common.{◌≡◌, ℕ, ◌+◌, ◌<◌, inl, inr, List, [], ◌∷◌, ◌++◌, length, get_or, refl, sym, ◌∙◌, ap, subst, arith}
use Rattle.std.specs.List.{All}
use Rattle.std.specs.List.Sorted.{IsPermutation, IsNonDecreasingBy}
use Rattle.std.proofs.lemmas.List.{get_or_append_left, get_or_push, get_or_default, length_push}
use Rattle.std.proofs.lemmas.List.Sorted.{All-permutation, Contains-permutation}
use Rattle.prefix_match.specs.declared.substring.trie.Node.{Node}
use Rattle.prefix_match.specs.declared.substring.trie.Place.{Place}
use Rattle.prefix_match.specs.SubstringStates.{node_at, text_of, IsTree, IsByDepth}
use Rattle.prefix_match.proofs.SubstringStates.{text_of-root, text_of-child, last_or_before}

abbrev pub no_place : Place
no_place = record { depth = 0; state = 0 }

abbrev pub place_of : List Node → ℕ → Place
place_of nodes x = record { depth = length (text_of nodes x); state = x }

pub place_root : (nodes : List Node) → record { depth = 0; state = 0 } ≡ place_of nodes 0
place_root nodes = ap (λ n. record { depth = n; state = 0 }) (sym (ap length (text_of-root nodes)))

-- a state has one byte more than its parent
pub depth_more : (nodes : List Node) (c : ℕ) → IsTree nodes → 0 < c → c < length nodes → length (text_of nodes c) ≡ length (text_of nodes (node_at nodes c).parent) + 1
depth_more nodes c t up l = ap length (text_of-child nodes c t up l) ∙ length_push (text_of nodes (node_at nodes c).parent) (node_at nodes c).byte

pub places_more : (nodes : List Node) (xs : List Place) (s d : ℕ) → length xs ≡ s → ((k : ℕ) → k < s → get_or xs k no_place ≡ place_of nodes k) → d ≡ length (text_of nodes s) → (k : ℕ) → k < s + 1 → get_or (xs ++ record { depth = d; state = s } ∷ []) k no_place ≡ place_of nodes k
places_more nodes xs s d len each e k h =
    elim (last_or_before s k h) [
      | inl same ↦ ap (λ z. get_or (xs ++ record { depth = d; state = s } ∷ []) z no_place) same ∙ get_or_push xs (record { depth = d; state = s }) no_place s len ∙ ap (λ z. record { depth = z; state = s }) e ∙ ap (place_of nodes) (sym same)
      | inr before ↦ get_or_append_left xs (record { depth = d; state = s } ∷ []) no_place k (omega arith) ∙ each k before
    ]

pub by_depth_from : (nodes : List Node) (xs ys : List Place) → length xs ≡ length nodes → ((k : ℕ) → k < length nodes → get_or xs k no_place ≡ place_of nodes k) → IsPermutation xs ys → IsNonDecreasingBy (λ p. p.depth) ys → IsByDepth nodes ys
by_depth_from nodes xs ys len each moved rises =
    let P : Place → Type 0 = λ p. (p.state < length nodes) × (p.depth ≡ length (text_of nodes p.state)) in
    let read : (k : ℕ) (d : Place) → k < length xs → get_or xs k d ≡ place_of nodes k = λ k d l. get_or_default xs k d no_place l ∙ each k (omega arith) in
    let first : All P xs = λ k d l. subst P (sym (read k d l)) (omega arith, refl) in
    record {
      places = All-permutation P xs ys moved first;
      all = λ x l. Contains-permutation xs ys (place_of nodes x) moved (x, omega arith, read x (place_of nodes x) (omega arith));
      rises = rises;
    }

pub read_place : (nodes : List Node) (xs : List Place) (s p : ℕ) (x : Place) → length xs ≡ s → ((k : ℕ) → k < s → get_or xs k no_place ≡ place_of nodes k) → p < s → x ≡ get_or xs p x → x ≡ place_of nodes p
read_place nodes xs s p x len each l e = e ∙ get_or_default xs p x no_place (omega arith) ∙ each p l
