use Rattle.std.proofs.Common.{refl}
use Rattle.std.proofs.lemmas.Fn.{called_at}
use Rattle.metrics_storage.proofs.Walks.{called_more, takes_last, takes_more}
use Rattle.metrics_storage.proofs.bucket.show_once.Goals as goal

pub f-requires : goal.f-requires
f-requires g c = takes_last g.F.FnMut _ _ _ c.in-Some.newest.now c.data.result.now c.in-Some.ensures.cases.0 c.data.ensures.value c.loop-newest.invariant.takes c.data.result refl

pub loop-newest-preserved : goal.loop-newest-preserved
loop-newest-preserved g c =
    let i = c.loop-newest.invariant in
    let cut = c.in-Some.ensures.cases.0 in
    let call = called_at g.F.FnMut c.f.ensures refl in
    record {
      takes = takes_more g.F.FnMut _ _ _ _ c.in-Some.newest.now c.data.result.now cut call c.data.ensures.value i.takes;
      calls = λ last h. i.calls last (called_more g.F.FnMut _ _ last _ _ c.in-Some.newest.now c.data.result.now cut call c.data.ensures.value h);
    }
