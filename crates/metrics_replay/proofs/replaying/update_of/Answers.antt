use Rattle.std.proofs.Common.{◌≡◌, Bool, true, Option, Some, Err, MatchBool, sym, ◌∙◌, ap, subst}
use Rattle.std.specs.Option.{option_map}
use Rattle.metrics_names.specs.declared.kind.MetricKind.{MetricKind}
use Rattle.metrics.specs.declared.calls.Answer.TheVariants.{Refused}
use Rattle.metrics_names.specs.Names.{kind_eq}
use Rattle.metrics.specs.Book.{kind_of}
use Rattle.metrics.specs.Answering.{Handle, AllHeld, IsHeld, UpdatesCall, UpdatesHeld, IsBadHandle, places}
use Rattle.metrics_names.specs.Equality.{kind_eq-Decides}
use Rattle.metrics.proofs.HandlesLemmas.{handled}
use Rattle.metrics_replay.specs.Replaying.{handle_seen}
use Rattle.metrics_replay.proofs.replaying.update_of.Goals as goal

-- the addresses are held, so no update of them fails with no such address
pub returns-in-Err-clause-updates : goal.returns-in-Err-clause-updates
returns-in-Err-clause-updates g c is_held =
    let old = g.R.Recorder.meaning c.args.on.now in
    let new = g.R.Recorder.meaning c.update_all.new.on in
    let by = c.args.by in
    let found = c.in-Some.found.now in
    let seen : option_map handle_seen c.args.handle ≡ Some (c.in-Some.kind, found) = ap (option_map handle_seen) c.in-Some.is in
    let tested : kind_eq (kind_of by) c.in-Some.kind ≡ true = sym c.takes.ensures ∙ c.if-takes.true in
    let same : kind_of by ≡ c.in-Some.kind = (kind_eq-Decides (kind_of by) c.in-Some.kind).0 tested in
    let held = subst (λ (o : Option Handle). IsHeld o old.contents) seen is_held in
    let held_kind = subst (λ (k : MetricKind). AllHeld k found old.contents) (sym same) held in
    let updates = rw c.in-Err.is at c.update_all.ensures.updates in
    let each = handled old new found by (Err c.in-Err.refused) held_kind updates in
    subst (λ (o : Option Handle). UpdatesCall old new o by (Refused c.in-Err.refused)) (sym seen)
    (subst (λ (b : Bool). MatchBool b (UpdatesHeld old new (places found) by (Refused c.in-Err.refused)) (IsBadHandle old new (Refused c.in-Err.refused))) (sym tested) each)
