use Rattle.std.proofs.Common.{refl}
use Rattle.std.proofs.lemmas.Fn.{called_at}
use Rattle.metrics_storage.proofs.Walks.{called_more, takes_last, takes_more}
use Rattle.metrics_storage.proofs.bucket.take_out_once.Goals as goal

pub f-requires : goal.f-requires
f-requires g c = takes_last g.F.FnMut _ _ _ c.in-Some.block c.data.result.now c.in-Some.ensures.items c.data.ensures.value c.loop-block.invariant.takes c.data.result refl

pub loop-block-preserved : goal.loop-block-preserved
loop-block-preserved g c =
    let i = c.loop-block.invariant in
    let call = called_at g.F.FnMut c.f.ensures refl in
    record {
      takes = takes_more g.F.FnMut _ _ _ _ c.in-Some.block c.data.result.now c.in-Some.ensures.items call c.data.ensures.value i.takes;
      calls = λ last h. i.calls last (called_more g.F.FnMut _ _ last _ _ c.in-Some.block c.data.result.now c.in-Some.ensures.items call c.data.ensures.value h);
    }
