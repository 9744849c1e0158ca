use Rattle.std.proofs.Common.{◌≡◌, ℕ, ◌<◌, true, false, inl, inr, arith, ap, ◌∙◌, length, get_or, set}
use Rattle.std.proofs.lemmas.Bool.{cases_eq}
use Rattle.std.proofs.lemmas.List.{length-set, get_or-set_same, get_or-set_other}
use Rattle.prefix_match.specs.SubstringStates.{node_at}
use Rattle.prefix_match.proofs.SubstringStates.{last_or_before}
use Rattle.prefix_match.proofs.substring.table.used_bytes.Goals as goal

pub loop-state-preserved : goal.loop-state-preserved
loop-state-preserved c =
    let used = c.loop-state.used in
    let s : ℕ = c.loop-state.state in
    let b : ℕ = (node_at c.args.nodes.now s).byte in
    let l : b < length used = omega (arith, c.loop-state.invariant.len, c.loop-state-test.element_fits.fits) in
    let here : get_or (set used b true) b false ≡ true = get_or-set_same used b true false l in
    record {
      len = length-set used b true ∙ c.loop-state.invariant.len;
      marks = λ x up i. elim (cases_eq (node_at c.args.nodes.now x).byte b) [
        | inl e ↦ ap (λ z. get_or (set used b true) z false) e ∙ here
        | inr d ↦ elim (last_or_before s x i) [
          | inl e ↦ absurd (d (ap (λ z. (node_at c.args.nodes.now z).byte) e))
          | inr before ↦ get_or-set_other used b _ true false d ∙ c.loop-state.invariant.marks x up before
        ]
      ];
    }
