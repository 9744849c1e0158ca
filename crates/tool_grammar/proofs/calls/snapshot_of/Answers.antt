use Rattle.std.proofs.Common.{◌≡◌, ◌≢◌, ℕ, List, Bool, false, sym, ◌∙◌, true≢false}
use Rattle.std.specs.Bool.{Decides}
use Rattle.std.proofs.lemmas.Bool.Decides.{Decides-eqb}
use Rattle.std.proofs.lemmas.Slice.Eq.{slice_eq-Decides}
use Rattle.tool_grammar.proofs.GrammarLemmas.{no_book, no_keep}
use Rattle.tool_grammar.proofs.calls.snapshot_of.Goals as goal

pub returns-in_err-book-2 : goal.returns-in_err-book-2
returns-in_err-book-2 c = rw c.from_residual-in_err-book-2.ensures (no_book _ _ _ c.in-Some.ensures.0 c.in-Some.ensures.1 c.in_err-book-2.ensures)

differs : {test : Bool} {word front literal : List ℕ} → Decides test (word ≡ front) → test ≡ false → front ≡ literal → word ≢ literal
differs d is_false same e = true≢false (sym (d.1 (e ∙ sym same)) ∙ is_false)

pub returns-else-eq : goal.returns-else-eq
returns-else-eq c = no_keep _ _ _ c.in-Some.ensures.0 c.in-Some.ensures.1 (differs (slice_eq-Decides Decides-eqb _ _ _ c.eq.ensures) c.if-eq.false c.as_slice.ensures)
