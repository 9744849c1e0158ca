use Rattle.std.proofs.Common.{reverse, ap, sym, ◌∙◌, subst}
use Rattle.metrics.specs.Book.{chunks}
use Rattle.metrics_storage.specs.Bucket.{IsCalledAtEach}
use Rattle.metrics_storage.proofs.Cuts.{chunks-joined}
use Rattle.metrics_storage.proofs.bucket.OwnedBucket.clear_to.Goals as goal

pub returns-clause-calls : goal.returns-clause-calls
returns-clause-calls g c =
    let cut = sym (chunks-joined c.self.inside.blocks.items c.self.invariant) ∙ ap chunks c.self.view_is in
    subst (λ cs. IsCalledAtEach g.F.FnMut c.args.f.now (reverse cs) c.take_out.new.f) cut c.take_out.ensures.calls
