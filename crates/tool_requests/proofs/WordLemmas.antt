-- How words are read.
use Rattle.std.proofs.Common.{◌≡◌, ◌∙◌, ℕ, List, ◌++◌, sym, subst}
use Rattle.std.specs.Prelude.{Result, Ok, Err, IsErrAnd, MatchResult}
use Rattle.tool_grammar.specs.Cuts.{Lacks, StartsAt}
use Rattle.tool_grammar.proofs.WordsLemmas.{before_same}
use Rattle.tool_requests.specs.declared.flaws.Unread.{Unread}
use Rattle.tool_requests.specs.declared.flaws.Unread.TheVariants.{Memory, Bad}
use Rattle.tool_requests.specs.Lines.{IsText, Fails}

-- a failure that is passed on says all that follows from it
pub passed-on : {T P Q : Type 0} (good : T → Type 0) (r : Result T Unread) (e : Unread) → IsErrAnd r (λ y. y ≡ e) → (P → Q)
    → Fails P e → MatchResult r good (Fails Q)
passed-on good (Ok t) e is f h = absurd is
passed-on good (Err y) Memory is f h = rw is tt
passed-on good (Err y) (Bad cause at) is f h = rw is (f h)

pub no-text : (c : ℕ) (bytes word rest : List ℕ) → bytes ≡ word ++ rest → Lacks c word → StartsAt c rest → (IsText word → ⊥)
    → (text r : List ℕ) → IsText text → Lacks c text → StartsAt c r → bytes ≡ text ++ r → ⊥
no-text c bytes word rest is lacks starts none text r h lt sr e =
    none (subst IsText (sym (before_same c word text rest r lacks lt starts sr (sym is ∙ e)).0) h)
