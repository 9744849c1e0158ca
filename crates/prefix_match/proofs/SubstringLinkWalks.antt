-- A walk along the links.
use Rattle.std.proofs.Common.{◌≡◌, ℕ, ◌+◌, ◌*◌, ◌<◌, ◌≤◌, Bool, true, false, inl, inr, List, [], ◌∷◌, ◌++◌, length, take, get_or, sym, ◌∙◌, ap, arith}
use Rattle.std.proofs.lemmas.Bool.{cases_lt}
use Rattle.std.proofs.lemmas.List.{take_more}
use Rattle.prefix_match.specs.declared.substring.trie.Node.{Node}
use Rattle.prefix_match.specs.Substring.{some_ends, longest_front, walk_end}
use Rattle.prefix_match.specs.SubstringStates.{node_at, text_of, IsLinked, IsLinkWalk, StepsTo}
use Rattle.prefix_match.proofs.SubstringFronts.{longest_front_nil, longest_front_push, some_ends_front}
use Rattle.prefix_match.proofs.SubstringWalks.{walk_end_is}
use Rattle.prefix_match.proofs.SubstringStates.{text_of-root}

-- after i bytes, without a match
pub record IsWalking (nodes : List Node) (t : List ℕ) (i state moves : ℕ) : Type 0 where
  pub within : state < length nodes
  pub cost : moves + length (text_of nodes state) ≤ 2 * i
  pub rise : length (text_of nodes state) ≤ moves
  pub text : (ps : List (List ℕ)) → IsLinked ps nodes → text_of nodes state ≡ longest_front ps (take i t)
  pub none : (ps : List (List ℕ)) → IsLinked ps nodes → (k : ℕ) → k ≤ i → some_ends ps (take k t) ≡ false

-- a state's match is that of all that was read
pub told : (ps : List (List ℕ)) (nodes : List Node) (w : List ℕ) (s : ℕ) (b : Bool) → IsLinked ps nodes → s < length nodes → text_of nodes s ≡ longest_front ps w → (node_at nodes s).matching ≡ b → some_ends ps w ≡ b
told ps nodes w s b k l e m = some_ends_front ps w ∙ ap (some_ends ps) (sym e) ∙ sym (k.links s l).matching ∙ m

root_text : (ps : List (List ℕ)) (nodes : List Node) (t : List ℕ) → text_of nodes 0 ≡ longest_front ps (take 0 t)
root_text ps nodes t = text_of-root nodes ∙ sym (longest_front_nil ps)

pub walk_start : (nodes : List Node) (t : List ℕ) → (0 < length nodes) → (node_at nodes 0).matching ≡ false → IsWalking nodes t 0 0 0
walk_start nodes t l m = record {
  within = l;
  cost = omega (arith, ap length (text_of-root nodes));
  rise = omega (arith, ap length (text_of-root nodes));
  text = λ ps k. root_text ps nodes t;
  none = λ ps k i h. (let z : i ≡ 0 = omega arith in ap (λ n. some_ends ps (take n t)) z ∙ told ps nodes (take 0 t) 0 false k l (root_text ps nodes t) m);
}

pub walk_at_root : (ps : List (List ℕ)) (nodes : List Node) (t : List ℕ) → 0 < length nodes → (node_at nodes 0).matching ≡ true → IsLinked ps nodes → IsLinkWalk ps t true 0
walk_at_root ps nodes t l m k =
    let hit : some_ends ps (take 0 t) ≡ true = told ps nodes (take 0 t) 0 true k l (root_text ps nodes t) m in
    let end : walk_end ps t ≡ 0 = walk_end_is ps t 0 (omega arith) (λ j h. absurd (omega arith)) (λ h. hit) in
    record {
      answer = ap (λ n. some_ends ps (take n t)) end ∙ hit;
      most = omega arith;
      least = omega (arith, ap (λ n. length (longest_front ps (take n t))) end, ap length (longest_front_nil ps));
    }

-- the text after one byte more
pub text_more : (ps : List (List ℕ)) (nodes : List Node) (t : List ℕ) (i s next b : ℕ) → i < length t → b ≡ get_or t i 0 → text_of nodes s ≡ longest_front ps (take i t) → text_of nodes next ≡ longest_front ps (text_of nodes s ++ b ∷ []) → text_of nodes next ≡ longest_front ps (take (i + 1) t)
text_more ps nodes t i s next b l e f g =
    g ∙ ap (λ w. longest_front ps (w ++ b ∷ [])) f ∙ sym (longest_front_push ps (take i t) b) ∙ ap (λ y. longest_front ps (take i t ++ y ∷ [])) e ∙ ap (longest_front ps) (sym (take_more t i 0 l))

pub next_text : (ps : List (List ℕ)) (nodes : List Node) (t : List ℕ) (i s moves next b : ℕ) → i < length t → b ≡ get_or t i 0 → IsWalking nodes t i s moves → StepsTo nodes s b next → IsLinked ps nodes → text_of nodes next ≡ longest_front ps (take (i + 1) t)
next_text ps nodes t i s moves next b l e h g k = text_more ps nodes t i s next b l e (h.text ps k) (g ps k.has (λ x xl short. k.links x xl))

pub walk_more : (nodes : List Node) (t : List ℕ) (i s moves next more b : ℕ) → i < length t → b ≡ get_or t i 0 → IsWalking nodes t i s moves → StepsTo nodes s b next → next < length nodes → more + length (text_of nodes next) ≤ length (text_of nodes s) + 2 → length (text_of nodes next) ≤ length (text_of nodes s) + more → (node_at nodes next).matching ≡ false → IsWalking nodes t (i + 1) next (moves + more)
walk_more nodes t i s moves next more b l e h g nl cost rise m = record {
  within = nl;
  cost = omega (arith, h.cost);
  rise = omega (arith, h.rise);
  text = λ ps k. next_text ps nodes t i s moves next b l e h g k;
  none = λ ps k j up. elim (cases_lt j (i + 1)) [
    | inl before ↦ h.none ps k j (omega arith)
    | inr after ↦ (let z : j ≡ i + 1 = omega arith in
        ap (λ n. some_ends ps (take n t)) z ∙ told ps nodes (take (i + 1) t) next false k nl (next_text ps nodes t i s moves next b l e h g k) m)
  ];
}

pub walk_hit : (ps : List (List ℕ)) (nodes : List Node) (t : List ℕ) (i s moves next more b : ℕ) → i < length t → b ≡ get_or t i 0 → IsWalking nodes t i s moves → StepsTo nodes s b next → next < length nodes → more + length (text_of nodes next) ≤ length (text_of nodes s) + 2 → length (text_of nodes next) ≤ length (text_of nodes s) + more → (node_at nodes next).matching ≡ true → IsLinked ps nodes → IsLinkWalk ps t true (moves + more)
walk_hit ps nodes t i s moves next more b l e h g nl cost rise m k =
    let text : text_of nodes next ≡ longest_front ps (take (i + 1) t) = next_text ps nodes t i s moves next b l e h g k in
    let hit : some_ends ps (take (i + 1) t) ≡ true = told ps nodes (take (i + 1) t) next true k nl text m in
    let end : walk_end ps t ≡ i + 1 = walk_end_is ps t (i + 1) (omega arith) (λ j up. h.none ps k j (omega arith)) (λ up. hit) in
    record {
      answer = ap (λ n. some_ends ps (take n t)) end ∙ hit;
      most = omega (arith, h.cost);
      least = omega (arith, h.rise, ap (λ n. length (longest_front ps (take n t))) end, ap length text);
    }

pub walk_over : (ps : List (List ℕ)) (nodes : List Node) (t : List ℕ) (i s moves : ℕ) → i ≡ length t → IsWalking nodes t i s moves → IsLinked ps nodes → IsLinkWalk ps t false moves
walk_over ps nodes t i s moves all h k =
    let end : walk_end ps t ≡ i = walk_end_is ps t i (omega arith) (λ j up. h.none ps k j (omega arith)) (λ up. absurd (omega arith)) in
    record {
      answer = ap (λ n. some_ends ps (take n t)) end ∙ h.none ps k i (omega arith);
      most = omega (arith, h.cost);
      least = omega (arith, h.rise, ap (λ n. length (longest_front ps (take n t))) end, ap length (h.text ps k));
    }
