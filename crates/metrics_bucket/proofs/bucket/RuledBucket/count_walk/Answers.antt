use Rattle.std.proofs.Common.{rules, ℕ, List, ◌∷◌, sym, ap, ◌∙◌}
use Rattle.atomic_table.specs.Table.{rest}
use Rattle.metrics_bucket.specs.declared.view.Turn.{Turn}
use Rattle.metrics_bucket.specs.History.{turn_at}
use Rattle.metrics_bucket.proofs.bucket.RuledBucket.count_walk.Goals as goal

pub slot_mut-turn-requires : goal.slot_mut-turn-requires
slot_mut-turn-requires g c = let t = c.requires.turn in let n : ℕ = c.args.seat.now.me.0.turn in (search rules, (turn_at n, t ∙ ap (λ (l : List (ℕ × Turn)). (0, turn_at n) ∷ rest l) (sym t)))
