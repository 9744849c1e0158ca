use Rattle.std.proofs.Common.{rules, ◌≡◌, ◌⊎◌, ℕ, ◌+◌, ◌<◌, ◌≤◌, List, length, map, inl, inr, refl, ap, arith}
use Rattle.std.specs.Result.{IfErr}
use Rattle.std.proofs.lemmas.Result.{IfErr-weaker}
use Rattle.once_cell.specs.Once.{cell_name}
use Rattle.metrics.specs.declared.error.Error.TheVariants.{Memory, NoPen}
use Rattle.std.proofs.lemmas.List.{length-set}
use Rattle.metrics_growing.specs.Parts.{Part, PushedIn, PassedIn, LostIn, LosesRace, ChangedAt, Reached}
use Rattle.metrics_growing.proofs.Chains.{few_parts, length_names, reached_in, came_next, came_passed, first_changed, race_looks, stopped, was_full, was_raced}
use Rattle.metrics_growing.proofs.bucket.GrowingBucket.try_word.Goals as goal

pub reach-requires : goal.reach-requires
reach-requires g c =
    let i = c.loop-at.invariant in
    record { own = i.0; at = i.1; full = λ n. came_passed c.loop-at.at c.args.known.now.items c.loop-at.known.items i.2 (omega arith) }

pub push_at-requires : goal.push_at-requires
push_at-requires g c =
    let reached : Reached c.loop-at.at c.loop-at.known.items c.reach.new.known.items = search rules in
    record { own = search rules; at = reached_in c.loop-at.at c.loop-at.known.items c.reach.new.known.items reached }

pub returns-in-Ok-clause-ok : goal.returns-in-Ok-clause-ok
returns-in-Ok-clause-ok g c =
    let reached : Reached c.loop-at.at c.loop-at.known.items c.reach.new.known.items = search rules in
    first_changed (PushedIn c.args.word) c.loop-at.at c.args.known.now.items c.loop-at.known.items c.reach.new.known.items c.push_at.new.known.items c.loop-at.invariant.2 reached (search rules)

pub returns-in-Err-Raced-clause-err : goal.returns-in-Err-Raced-clause-err
returns-in-Err-Raced-clause-err g c =
    let reached : Reached c.loop-at.at c.loop-at.known.items c.reach.new.known.items = search rules in
    let lost : ChangedAt LostIn c.loop-at.at c.reach.new.known.items c.push_at.new.known.items = was_raced _ _ _ c.in-Err-Raced.field-0-is c.in-Err-Raced.ensures.err in
    let race : LosesRace c.args.known.now.items c.push_at.new.known.items = first_changed LostIn c.loop-at.at c.args.known.now.items c.loop-at.known.items c.reach.new.known.items c.push_at.new.known.items c.loop-at.invariant.2 reached lost in
    (race_looks c.args.known.now.items c.push_at.new.known.items race, inr (refl, race))

pub loop-at-preserved : goal.loop-at-preserved
loop-at-preserved g c =
    let met = c.reach.new.known.items in
    let new = c.push_at.new.known.items in
    let at = c.loop-at.at in
    let reached : Reached at c.loop-at.known.items met = search rules in
    let passed : ChangedAt PassedIn at met new = was_full _ _ _ c.in-Err-Full.field-0-is c.in-Err-Full.ensures.err in
    let l = reached_in at c.loop-at.known.items met reached in
    let long : at + 1 ≤ length new = (let n = ap (λ (zs : List Part). length zs) passed.4 in let m = length-set met at passed.1 in omega arith) in
    (search rules, long, came_next at c.args.known.now.items c.loop-at.known.items met new c.loop-at.invariant.2 reached passed)

pub returns-in_err-reach-clause-err : goal.returns-in_err-reach-clause-err
returns-in_err-reach-clause-err g c =
    let at = c.loop-at.at in
    let known = c.loop-at.known.items in
    let new = c.reach.new.known.items in
    let links = c.args.self.now in
    let told : IfErr c.from_residual.result (λ e. (at ≡ length known) × (new ≡ known) × ((e ≡ Memory) ⊎ ((e ≡ NoPen) × (length known < length links)))) = search rules in
    IfErr-weaker c.from_residual.result _ _ (λ e t. let n = t.0 in stopped links at c.args.known.now.items known new e c.loop-at.invariant.2 (omega arith) t.1 t.2) told

pub returns-clause-err : goal.returns-clause-err
returns-clause-err g c =
    let at = c.loop-at.at in
    let known = c.loop-at.known.items in
    let links = c.self.inside.links.items in
    let few = few_parts c.args.self.now known c.loop-at.invariant.0 in
    let are : c.args.self.now ≡ map cell_name links = search rules in
    let long : length c.args.self.now ≡ length (map cell_name links) = ap (λ (xs : List ℕ). length xs) are in
    let same = length_names cell_name links in
    let all : length links ≡ 64 = search rules in
    let past : 64 ≤ at = search rules in
    stopped c.args.self.now at c.args.known.now.items known known Memory c.loop-at.invariant.2 (omega arith) refl (inl refl)
