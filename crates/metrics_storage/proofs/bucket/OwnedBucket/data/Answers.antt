use Rattle.std.proofs.Common.{rules, List, ◌<◌, length, reverse, ap, sym, ◌∙◌, subst}
use Rattle.std.proofs.lemmas.List.Elements.{same_from_all_zip}
use Rattle.std.specs.List.{AllZip}
use Rattle.metrics.specs.Book.{chunks, joined_lists}
use Rattle.metrics_storage.proofs.Cuts.{chunks-joined, some_same}
use Rattle.metrics_storage.proofs.bucket.OwnedBucket.data.Goals as goal

pub returns-clause-clones : goal.returns-clause-clones
returns-clause-clones g c =
    let cut = c.deref.ensures.value ∙ sym (chunks-joined c.self.inside.blocks.items c.self.invariant) ∙ ap chunks c.self.view_is in
    subst (λ cs. AllZip g.T.Clone.is_clone (joined_lists (reverse cs)) c.in_ok-copied.field-0.items) cut (c.in_ok-copied.ensures {u = tt}).clones

pub returns-clause-same : goal.returns-clause-same
returns-clause-same g c exact = same_from_all_zip g.T.Clone.is_clone _ _ (returns-clause-clones g c) exact

pub returns-in_err-copied-clause-refused : goal.returns-in_err-copied-clause-refused
returns-in_err-copied-clause-refused g c =
    let P : List (List _) → Type 0 = λ cs. 0 < length cs in
    let Q : List _ → Type 0 = λ l. 0 < length l in
    let some : 0 < length c.args.self.now = subst Q c.self.view_is (some_same c.self.inside.blocks.items c.self.invariant (subst P c.deref.ensures.value (c.in_err-copied.ensures {u = tt}).refused)) in
    search rules
