use Rattle.std.proofs.Common.{◌≡◌, [], ◌∷◌, ◌∙◌, ap}
use Rattle.metrics.specs.Book.{Content}
use Rattle.metrics.specs.Meaning.{one_book}
use Rattle.tool_trees.proofs.building.book.Goals as goal

head_same : (c d : Content) → c ∷ [] ≡ d ∷ [] → c ≡ d
head_same c d e = cc

pub returns-in-Ok : goal.returns-in-Ok
returns-in-Ok c = c.leaf.ensures ∙ ap one_book (head_same _ _ c.in-Ok.ensures.new_book.contents)
