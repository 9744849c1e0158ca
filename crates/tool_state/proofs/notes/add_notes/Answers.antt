use Rattle.std.proofs.Common.{◌∙◌, ℕ, List, ap, subst}
use Rattle.metrics_names.specs.declared.kind.MetricKind.{MetricKind}
use Rattle.metrics_names.specs.Names.{KeyParts}
use Rattle.tool_state.specs.Written.{TellsSame}
use Rattle.tool_state.proofs.WrittenLemmas.{notes-none, notes-both, all-more}
use Rattle.tool_state.proofs.notes.add_notes.Goals as goal

pub loop-one-init : goal.loop-one-init
loop-one-init c = record { adds = notes-none c.args.told.now c.args.body.now; same = tt }

pub loop-one-preserved : goal.loop-one-preserved
loop-one-preserved c =
    let K : MetricKind → Type 0 = λ k. TellsSame c.add_note.new.told c.args.on.now k c.name.result.now in
    let N : List ℕ → Type 0 = λ n. TellsSame c.add_note.new.told c.args.on.now c.one-item.result.kind n in
    record {
      adds = notes-both c.args.told.now c.loop-one.told c.add_note.new.told c.args.body.now c.loop-one.body c.add_note.new.body c.loop-one.invariant.adds c.in_ok-add_note.ensures.adds;
      same = all-more c.loop-one.told c.add_note.new.told c.args.on.now c.args.series.now c.loop-one.one-index c.one-item.result c.loop-one-test.true c.one-item.is c.loop-one.invariant.same
          c.in_ok-add_note.ensures.keeps (subst N (c.name.ensures ∙ ap (λ (k : KeyParts). k.name) c.key.ensures) (subst K c.kind.ensures c.in_ok-add_note.ensures.same));
    }
