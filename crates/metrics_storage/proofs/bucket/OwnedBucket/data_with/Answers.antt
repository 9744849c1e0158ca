use Rattle.std.proofs.Common.{reverse, ap, sym, ◌∙◌, subst}
use Rattle.metrics.specs.Book.{chunks}
use Rattle.metrics_storage.specs.Bucket.{IsCalledAtEach, TakesEach}
use Rattle.metrics_storage.proofs.Cuts.{chunks-joined}
use Rattle.metrics_storage.proofs.Walks.{in_turn}
use Rattle.metrics_storage.proofs.bucket.OwnedBucket.data_with.Goals as goal

pub show_once-requires : goal.show_once-requires
show_once-requires g c =
    let cut = c.deref.ensures.value ∙ sym (chunks-joined c.self.inside.blocks.items c.self.invariant) ∙ ap chunks c.self.view_is in
    in_turn g.F.FnMut c.args.f (reverse c.deref.result.now) (subst (λ cs. TakesEach g.F.FnMut c.args.f (reverse cs)) (sym cut) c.requires).at

pub returns : goal.returns
returns g c =
    let cut = c.deref.ensures.value ∙ sym (chunks-joined c.self.inside.blocks.items c.self.invariant) ∙ ap chunks c.self.view_is in
    subst (λ cs. (last : g.row.F.Denot) × IsCalledAtEach g.F.FnMut c.args.f (reverse cs) last) cut c.show_once.ensures.calls
