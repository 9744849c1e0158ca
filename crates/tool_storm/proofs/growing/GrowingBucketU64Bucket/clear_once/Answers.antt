use Rattle.std.proofs.lemmas.Result.{IfOk-weaker, IfErr-weaker}
use Rattle.tool_storm.specs.Pens.{bags_in, HasTaken, TellsTaken}
use Rattle.tool_storm.proofs.Parts.{parts_took, parts_kept}
use Rattle.tool_storm.proofs.TallyLemmas.{either_way}
use Rattle.tool_storm.proofs.growing.GrowingBucketU64Bucket.clear_once.Goals as goal

pub returns-clause-taken : goal.returns-clause-taken
returns-clause-taken g c =
    let old = c.args.pen.now in
    let new = c.clear_to.new.pen in
    let found = c.clear_to.new.visitor in
    let Taken : Type 0 = HasTaken (bags_in old) (bags_in new) in
    either_way c.clear_to.result Taken
    (IfOk-weaker c.clear_to.result _ (λ _. Taken) (λ n p. (parts_took old p.0 new c.args.found.now found p.2 c.requires.found p.3).0) c.clear_to.ensures.ok)
    (IfErr-weaker c.clear_to.result _ (λ _. Taken) (λ e p. (parts_kept old new c.args.found.now found _ _ _ p.1 c.requires.found p.0).0) c.clear_to.ensures.err)

pub returns-clause-found : goal.returns-clause-found
returns-clause-found g c =
    let old = c.args.pen.now in
    let new = c.clear_to.new.pen in
    let found = c.clear_to.new.visitor in
    let Told : Type 0 = TellsTaken found (bags_in new) in
    either_way c.clear_to.result Told
    (IfOk-weaker c.clear_to.result _ (λ _. Told) (λ n p. (parts_took old p.0 new c.args.found.now found p.2 c.requires.found p.3).1) c.clear_to.ensures.ok)
    (IfErr-weaker c.clear_to.result _ (λ _. Told) (λ e p. (parts_kept old new c.args.found.now found _ _ _ p.1 c.requires.found p.0).1) c.clear_to.ensures.err)
