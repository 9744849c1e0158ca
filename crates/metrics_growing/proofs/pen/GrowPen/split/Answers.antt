use Rattle.std.proofs.Common.{rules, ◌≡◌, ◌<◌, ◌∙◌, List, [], ◌∷◌, length, slice_index_or, slice_set, ap, arith}
use Rattle.metrics_growing.specs.Parts.{Part, left_part, right_part, left_parts, right_parts}
use Rattle.metrics_growing.proofs.pen.GrowPen.split.Goals as goal

halves : (ps : List Part) (p q r : Part) → 0 < length ps → p ≡ slice_index_or ps 0 p → q ≡ left_part p → r ≡ right_part p → (slice_set ps 0 q ≡ left_parts ps) × (r ∷ [] ≡ right_parts ps)
halves [] p q r l e a b = absurd (omega arith)
halves (x ∷ xs) p q r l e a b = (ap (λ (y : Part). y ∷ xs) (a ∙ ap left_part e), ap (λ (y : Part). y ∷ []) (b ∙ ap right_part e))

pub returns-clause-ok : goal.returns-clause-ok
returns-clause-ok c =
    let known = c.self.inside.known.items in
    let first = c.in-Some.first.now in
    let half = c.in_ok-half.half in
    let l : 0 < length known = search rules in
    let p : first ≡ slice_index_or known 0 first = search rules in
    let s = (c.in_ok-half.ensures {u = tt}).ok in
    let h = halves known first c.split.new.self half l p s.0 s.1 in
    let is : c.push_reserved.new.self.items ≡ half ∷ [] = search rules in
    let same : known ≡ c.args.self.now = search rules in
    (h.0 ∙ ap left_parts same, is ∙ (h.1 ∙ ap right_parts same))
