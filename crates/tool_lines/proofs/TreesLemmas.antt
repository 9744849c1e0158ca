-- Trees of new books.
use Rattle.std.proofs.Common.{◌≡◌, zero, suc, List, [], ◌∷◌, ◌++◌, refl, sym, subst, ap, arith}
use Rattle.std.specs.List.{AllByRecursion}
use Rattle.metrics.specs.Book.{Content, new_book}
use Rattle.metrics.specs.Layers.{joined_all}
use Rattle.metrics.specs.Meaning.{Meaning, AreNew}
use Rattle.tool_trees.specs.declared.tree_line.TreeLine.{TreeLine}
use Rattle.tool_trees.specs.declared.tree_line.TreeLine.TheVariants as line
use Rattle.tool_trees.specs.Trees.{Tree, Node, Trees, none, more, line_meaning, meaning_of, meanings_of}

one_new : AreNew (new_book ∷ [])
one_new zero lt = refl
one_new (suc b) lt = absurd (omega arith)

both_new : (cs ds : List Content) → AreNew cs → AreNew ds → AreNew (cs ++ ds)
both_new [] ds h g = g
both_new (c ∷ cs) ds h g = each (both_new cs ds (λ k l. h (suc k) (omega arith)) g) (h zero (omega arith))
  where
    each : AreNew (cs ++ ds) → c ≡ new_book → AreNew (c ∷ (cs ++ ds))
    each rest e zero lt = e
    each rest e (suc b) lt = rest b (omega arith)

joined_new : (ms : List Meaning) → AllByRecursion (λ m. AreNew m.contents) ms → AreNew (joined_all ms).contents
joined_new [] h = λ b lt. absurd (omega arith)
joined_new (m ∷ ms) h = both_new m.contents (joined_all ms).contents h.0 (joined_new ms h.1)

line_new : (l : TreeLine) (ms : List Meaning) → AllByRecursion (λ m. AreNew m.contents) ms → AreNew (line_meaning l ms).contents
line_new line.Book ms h = one_new
line_new (line.Prefix p) (m ∷ ms) h = h.0
line_new (line.Filter fold table patterns) (m ∷ ms) h = h.0
line_new (line.Fanout n) ms h = joined_new ms h
line_new (line.Router n routes) ms h = joined_new ms h
line_new l ms h = λ b lt. absurd (omega arith)

mutual
  tree_new : (t : Tree) → AreNew (meaning_of t).contents
  tree_new (Node l ts) = line_new l (meanings_of ts) (trees_new ts)

  trees_new : (ts : Trees) → AllByRecursion (λ m. AreNew m.contents) (meanings_of ts)
  trees_new none = tt
  trees_new (more t ts) = (tree_new t, trees_new ts)

-- what a tree means has new books
pub means_new : (m : Meaning) (t : Tree) → m ≡ meaning_of t → AreNew m.contents
means_new m t e = subst AreNew (sym (ap (λ (k : Meaning). k.contents) e)) (tree_new t)
