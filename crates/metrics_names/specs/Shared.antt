-- Lists that their clones share.
use Rattle.std.specs.Prelude.{List, [], Option, None, Some, Vec}
use Rattle.std.specs.Arc.{arc_value}
use Rattle.std.specs.declared.sync.Arc.{Arc}

-- the items of a shared list; none is the empty one
abbrev pub items_of : {T A Z : Type 0} → Option (Arc (Vec T A) Z) → List T
items_of None = []
items_of (Some c) = (arc_value c).items
