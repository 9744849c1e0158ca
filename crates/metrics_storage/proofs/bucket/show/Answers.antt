use Rattle.std.proofs.Common.{refl, of_calls}
use Rattle.std.proofs.lemmas.Fn.{called_at}
use Rattle.metrics_storage.proofs.Walks.{called_more}
use Rattle.metrics_storage.proofs.bucket.show.Goals as goal

pub loop-newest-preserved : goal.loop-newest-preserved
loop-newest-preserved g c =
    let i = c.loop-newest.invariant in
    record {
      callable = search of_calls;
      calls = λ last h. i.calls last (called_more g.F.FnMut _ _ last _ _ c.in-Some.newest.now c.data.result.now c.in-Some.ensures.cases.0 (called_at g.F.FnMut c.f.ensures refl) c.data.ensures.value h);
    }
