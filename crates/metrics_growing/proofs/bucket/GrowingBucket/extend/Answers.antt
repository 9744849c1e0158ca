use Rattle.std.proofs.Common.{rules, ◌≡◌, ◌<◌, List, ◌++◌, [], ◌∷◌, length, map, slice_index_or, sym, subst}
use Rattle.once_cell.specs.Once.{cell_name}
use Rattle.metrics_growing.specs.Parts.{Part, IsOf, IsNew}
use Rattle.metrics_growing.proofs.Chains.{of_snoc}
use Rattle.metrics_growing.proofs.bucket.GrowingBucket.extend.Goals as goal

pub returns-clause-own : goal.returns-clause-own
returns-clause-own g c =
    let links = c.self.inside.links.items in
    let known = c.args.known.now.items in
    let q : Part = record { link = c.make.new.note.cell; account = c.in_ok-pen.pen } in
    let nc : c.make.new.note.cell ≡ cell_name c.in-Some.link.now = search rules in
    let is : c.push_reserved.new.self.items ≡ known ++ q ∷ [] = search rules in
    let l : c.in-Some.link.now ≡ slice_index_or links (length known) c.in-Some.link.now = search rules in
    let le : length known < length links = search rules in
    let s : c.args.self.now ≡ map cell_name links = search rules in
    let own : IsOf (map cell_name links) (known ++ q ∷ []) = of_snoc cell_name links known c.in-Some.link.now q (search rules) le l nc in
    subst (λ xs. IsOf xs c.push_reserved.new.self.items) (sym s) (subst (λ (ps : List Part). IsOf (map cell_name links) ps) (sym is) own)

pub returns-clause-ok : goal.returns-clause-ok
returns-clause-ok g c =
    let q : Part = record { link = c.make.new.note.cell; account = c.in_ok-pen.pen } in
    let is : c.push_reserved.new.self.items ≡ c.args.known.now.items ++ q ∷ [] = search rules in
    let new : IsNew q = search rules in
    (q, is, new)
