use Rattle.std.proofs.Common.{reverse, ap, sym, ◌∙◌, subst}
use Rattle.metrics.specs.Book.{chunks}
use Rattle.metrics_storage.specs.Bucket.{IsCalledAtEach, TakesEach}
use Rattle.metrics_storage.proofs.Cuts.{chunks-joined}
use Rattle.metrics_storage.proofs.Walks.{in_turn}
use Rattle.metrics_storage.proofs.bucket.OwnedBucket.clear_with.Goals as goal

pub take_out_once-requires : goal.take_out_once-requires
take_out_once-requires g c =
    let cut = sym (chunks-joined c.self.inside.blocks.items c.self.invariant) ∙ ap chunks c.self.view_is in
    in_turn g.F.FnMut c.args.f (reverse c.self.inside.blocks.items) (subst (λ cs. TakesEach g.F.FnMut c.args.f (reverse cs)) (sym cut) c.requires).at

pub returns-clause-calls : goal.returns-clause-calls
returns-clause-calls g c =
    let cut = sym (chunks-joined c.self.inside.blocks.items c.self.invariant) ∙ ap chunks c.self.view_is in
    subst (λ cs. (last : g.row.F.Denot) × IsCalledAtEach g.F.FnMut c.args.f (reverse cs) last) cut c.take_out_once.ensures.calls
