use Rattle.std.proofs.Common.{refl, of_calls}
use Rattle.std.proofs.lemmas.Fn.{called_at}
use Rattle.metrics_storage.proofs.Walks.{called_more}
use Rattle.metrics_storage.proofs.bucket.take_out.Goals as goal

pub loop-block-preserved : goal.loop-block-preserved
loop-block-preserved g c =
    let i = c.loop-block.invariant in
    record {
      callable = search of_calls;
      calls = λ last h. i.calls last (called_more g.F.FnMut _ _ last _ _ c.in-Some.block c.data.result.now c.in-Some.ensures.items (called_at g.F.FnMut c.f.ensures refl) c.data.ensures.value h);
    }
