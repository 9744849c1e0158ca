use Rattle.std.proofs.Common.{ℕ, ◌<◌, ◌≢◌, inl, inr, arith, ap, sym, ◌∙◌, length, get_or, set}
use Rattle.std.proofs.lemmas.List.{length-set, get_or-set_same, get_or-set_other}
use Rattle.prefix_match.specs.Substring.{lowered_byte}
use Rattle.prefix_match.proofs.SubstringStates.{last_or_before}
use Rattle.prefix_match.proofs.substring.table.folded.Goals as goal

pub loop-byte-preserved : goal.loop-byte-preserved
loop-byte-preserved c =
    let xs = c.loop-byte.classes in
    let b : ℕ = c.loop-byte.byte in
    let v : ℕ = get_or c.args.columns.now c.lowered.result 0 in
    let l : b < length xs = omega (arith, c.loop-byte.invariant.len) in
    record {
      len = length-set xs b v ∙ c.loop-byte.invariant.len;
      each = λ y i. elim (last_or_before b y i) [
        | inl e ↦ ap (λ z. get_or (set xs b v) z 0) e ∙ get_or-set_same xs b v 0 l ∙ ap (λ z. get_or c.args.columns.now z 0) c.lowered.ensures ∙ ap (λ z. get_or c.args.columns.now (lowered_byte c.args.fold_case z) 0) (sym e)
        | inr before ↦ (let d : y ≢ b = omega arith in get_or-set_other xs b y v 0 d ∙ c.loop-byte.invariant.each y before)
      ];
    }
