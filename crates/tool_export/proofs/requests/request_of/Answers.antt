use Rattle.std.proofs.Common.{◌≡◌, ◌≢◌, ℕ, List, Bool, false, sym, ◌∙◌, true≢false}
use Rattle.std.specs.Bool.{Decides}
use Rattle.std.proofs.lemmas.Bool.Decides.{Decides-eqb}
use Rattle.std.proofs.lemmas.Slice.Eq.{slice_eq-Decides}
use Rattle.tool_export.proofs.RequestLemmas.{no_space, change_line}
use Rattle.tool_export.proofs.requests.request_of.Goals as goal

pub returns-in_default : goal.returns-in_default
returns-in_default c = no_space c.args.line.now c.in_default.ensures

differs : {test : Bool} {word front literal : List ℕ} → Decides test (word ≡ front) → test ≡ false
    → front ≡ literal → word ≢ literal
differs d is_false same e = true≢false (sym (d.1 (e ∙ sym same)) ∙ is_false)

pub returns : goal.returns
returns c =
    let other = differs (slice_eq-Decides Decides-eqb _ _ _ c.eq.ensures) c.if-eq.false c.as_slice.ensures in
    change_line c.args.line.now c.in-Some.word.now c.in-Some.rest.now _ c.change_of.result c.in-Some.ensures.0
    c.in-Some.ensures.1 other c.change_of.ensures
