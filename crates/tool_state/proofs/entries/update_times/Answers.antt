use Rattle.std.proofs.Common.{◌≡◌, ◌∙◌, ◌++◌, ℕ, refl, subst, arith}
use Rattle.std.specs.Prelude.{replicate}
use Rattle.metrics_exporter.specs.Exporting.{Log}
use Rattle.metrics_exporter.specs.Kept.{IsAfter}
use Rattle.tool_state.specs.State.{made_in}
use Rattle.tool_state.proofs.EntryLemmas.{made-none, made-more}
use Rattle.tool_state.proofs.entries.update_times.Goals as goal

pub loop-turn-init : goal.loop-turn-init
loop-turn-init c = record {
  stands = λ setup log after. let P : Log → Type 0 = λ l. IsAfter setup l c.args.on.now in subst P (made-none log c.args.unit c.args.key.now) after;
  told = refl;
}

pub loop-turn-preserved : goal.loop-turn-preserved
loop-turn-preserved c = record {
  stands = λ setup log after.
      let P : Log → Type 0 = λ l. IsAfter setup l c.update_in.new.self in
      subst P (made-more log c.args.unit c.args.key.now c.args.by c.loop-turn.turn) (c.in_ok-update_in.ensures.calls setup (log ++ made_in c.args.unit c.args.key.now (replicate c.loop-turn.turn c.args.by)) (c.loop-turn.invariant.stands setup log after));
  told = c.update_in.ensures.descriptions ∙ c.loop-turn.invariant.told;
}

pub returns-clause-calls : goal.returns-clause-calls
returns-clause-calls c = λ setup log after.
    let same : c.loop-turn.turn ≡ c.args.times = omega arith in
    let P : ℕ → Type 0 = λ n. IsAfter setup (log ++ made_in c.args.unit c.args.key.now (replicate n c.args.by)) c.loop-turn.on in
    subst P same (c.loop-turn.invariant.stands setup log after)
