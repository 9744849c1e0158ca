use Rattle.std.proofs.Common.{◌≡◌, ◌++◌, ◌∷◌, length, sym, ◌∙◌, ap, arith, append_assoc, cond, Some}
use Rattle.std.specs.Vec.Iter.{into_iter_items}
use Rattle.metrics_names.specs.Names.{series_key_eq}
use Rattle.metrics.proofs.RowsLemmas.{last_row-push}
use Rattle.metrics.proofs.debugging.Snapshot.into_hashmap.Goals as goal

pub loop-key-preserved : goal.loop-key-preserved
loop-key-preserved c =
    let s = c.in-Some.ensures {u = tt} in
    let next : into_iter_items c.loop-key.key-iterator ≡ (c.in-Some.key, c.in-Some.unit, c.in-Some.text, c.in-Some.value) ∷ into_iter_items c.next.new.self = s.steps.0 in
    record {
      ready = (tt, tt);
      room = omega (arith, c.loop-key.invariant.room, c.put.ensures.room, ap length next);
      all = c.loop-key.invariant.all ∙ ap (λ xs. c.loop-key.yielded ++ xs) next ∙ sym (append_assoc c.loop-key.yielded _ _);
      rows = λ k. c.put.ensures.rows k
          ∙ ap (λ o. cond (series_key_eq c.in-Some.key k) (Some (c.in-Some.unit, c.in-Some.text, c.in-Some.value)) o) (c.loop-key.invariant.rows k)
          ∙ sym (last_row-push k c.loop-key.yielded (c.in-Some.key, c.in-Some.unit, c.in-Some.text, c.in-Some.value));
    }
