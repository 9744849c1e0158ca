use Rattle.std.proofs.Common.{◌∙◌, ap}
use Rattle.std.proofs.lemmas.Iterator.{YieldsList-from_chars}
use Rattle.std.proofs.lemmas.Iterator.Consumers.{YieldsList-end}
use Rattle.metrics_exposition.specs.Names.{spelled}
use Rattle.metrics_exposition.proofs.Yielded.{as_they_are}
use Rattle.metrics_exposition.proofs.names.spell.Goals as goal

pub returns : goal.returns
returns c =
    let t = YieldsList-end (YieldsList-from_chars c.args.name.now c.utf8.name cc) c.loop-c.yielded _ c.loop-c.yielded_by _ _ c.in-None.is c.next.ensures.steps in
    c.loop-c.invariant ∙ ap (spelled c.args.colons) (as_they_are c.loop-c.yielded ∙ t.0)
