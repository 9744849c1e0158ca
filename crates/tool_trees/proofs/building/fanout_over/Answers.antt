use Rattle.metrics_trees.specs.Builders.{fanout_recorders}
use Rattle.tool_trees.specs.Doing.{level_meaning, level_meanings}
use Rattle.tool_trees.proofs.Joins.{too_many}
use Rattle.tool_trees.proofs.building.fanout_over.Goals as goal

pub returns-in-Err : goal.returns-in-Err
returns-in-Err c =
    too_many (fanout_recorders c.loop-child.builder) (level_meanings c.pop_front.new.self.items) _ (level_meaning c.in-Some.field-0) _ _
    (rw c.in-Some.ensures.items at c.loop-child.invariant) c.in-Err.ensures.0 c.from.ensures.0
