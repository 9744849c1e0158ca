use Rattle.std.proofs.Common.{◌≡◌, ◌≢◌, ℕ, List, Bool, false, sym, ◌∙◌, true≢false}
use Rattle.std.specs.Bool.{Decides}
use Rattle.std.proofs.lemmas.Bool.Decides.{Decides-eqb}
use Rattle.std.proofs.lemmas.Slice.Eq.{slice_eq-Decides}
use Rattle.tool_grammar.proofs.GrammarLemmas.{no_space, update_line}
use Rattle.tool_grammar.proofs.calls.call_of.Goals as goal

pub returns-in_default : goal.returns-in_default
returns-in_default c = no_space _ c.in_default.ensures

differs : {test : Bool} {word front literal : List ℕ} → Decides test (word ≡ front) → test ≡ false → front ≡ literal → word ≢ literal
differs d is_false same e = true≢false (sym (d.1 (e ∙ sym same)) ∙ is_false)

pub returns : goal.returns
returns c =
    let describes = differs (slice_eq-Decides Decides-eqb _ _ _ c.eq.ensures) c.if-eq.false c.as_slice.ensures in
    let registers = differs (slice_eq-Decides Decides-eqb _ _ _ c.eq-2.ensures) c.if-eq-2.false c.as_slice-2.ensures in
    let takes = differs (slice_eq-Decides Decides-eqb _ _ _ c.eq-3.ensures) c.if-eq-3.false c.as_slice-3.ensures in
    update_line _ _ _ _ c.in-Some.ensures.0 c.in-Some.ensures.1 describes registers takes c.update_call_of.ensures
