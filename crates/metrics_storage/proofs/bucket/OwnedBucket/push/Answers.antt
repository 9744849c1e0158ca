use Rattle.std.proofs.Common.{◌++◌, ◌∷◌, [], ◌%◌, ◌≡◌, length, ap, sym, ◌∙◌, subst}
use Rattle.std.proofs.lemmas.Result.{on_ok_weaker, IfErr-weaker}
use Rattle.metrics.specs.Book.{joined_lists}
use Rattle.metrics_storage.specs.Bucket.{AreChunks}
use Rattle.metrics_storage.proofs.Cuts.{added_chunks, added_values, new_chunks, new_values, no_room}
use Rattle.metrics_storage.proofs.Walks.{either_way}
use Rattle.metrics_storage.proofs.bucket.OwnedBucket.push.Goals as goal

pub invariant_of-self : goal.invariant_of-self
invariant_of-self g c = added_chunks _ _ c.args.value (c.in-Ok.ensures {u = tt}).ok c.self.invariant

pub invariant_of-self-in-Err : goal.invariant_of-self-in-Err
invariant_of-self-in-Err g c =
    let e = (c.in-Err.ensures {u = tt}).err in let h = c.self.invariant in
    let same = subst AreChunks (sym e.2) h in
    let more = subst (λ l. AreChunks (l ++ (c.in-Err.value ∷ []) ∷ [])) (sym e.2) (new_chunks _ c.in-Err.value e.1 h) in
    either_way AreChunks c.push_new.result _ _ c.in-Err.value _ c.push_new.ensures.ok c.push_new.ensures.err more same

pub returns-in-Ok-clause-ok : goal.returns-in-Ok-clause-ok
returns-in-Ok-clause-ok g c = added_values _ _ c.args.value (c.in-Ok.ensures {u = tt}).ok ∙ ap (λ l. l ++ c.args.value ∷ []) c.self.view_is

pub returns-in-Err-clause-ok : goal.returns-in-Err-clause-ok
returns-in-Err-clause-ok g c =
    let e = (c.in-Err.ensures {u = tt}).err in
    on_ok_weaker c.push_new.result (λ new. ap joined_lists new ∙ new_values c.push_last.new.blocks.items c.in-Err.value ∙ (λ i. (ap joined_lists e.2 ∙ c.self.view_is) i ++ e.0 i ∷ [])) c.push_new.ensures.ok

pub returns-in-Err-clause-refused : goal.returns-in-Err-clause-refused
returns-in-Err-clause-refused g c =
    let e = (c.in-Err.ensures {u = tt}).err in
    IfErr-weaker c.push_new.result _ _ (λ y _. subst (λ l. length l % 64 ≡ 0) c.self.view_is (no_room _ e.1 c.self.invariant)) c.push_new.ensures.err
