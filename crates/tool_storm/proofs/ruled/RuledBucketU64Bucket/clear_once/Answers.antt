use Rattle.std.proofs.lemmas.Result.{IfOk-weaker, IfErr-weaker}
use Rattle.tool_storm.specs.Pens.{bags_of, TellsTaken}
use Rattle.tool_storm.proofs.Accounts.{account_took, account_busy}
use Rattle.tool_storm.proofs.TallyLemmas.{either_way}
use Rattle.tool_storm.proofs.ruled.RuledBucketU64Bucket.clear_once.Goals as goal

pub returns-clause-found : goal.returns-clause-found
returns-clause-found g c =
    let old = c.args.pen.now in
    let new = c.clear_to_as.new.pen in
    let found = c.clear_to_as.new.visitor in
    let Told : Type 0 = TellsTaken found (bags_of new) in
    either_way c.clear_to_as.result Told
    (IfOk-weaker c.clear_to_as.result _ (λ _. Told) (λ n p. account_took old new p.0 c.args.found.now found p.2.0 c.requires.found p.3) c.clear_to_as.ensures.ok)
    (IfErr-weaker c.clear_to_as.result _ (λ _. Told) (λ e p. account_busy old new c.args.found.now found p.0 c.requires.found p.1) c.clear_to_as.ensures.err)
