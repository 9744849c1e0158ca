use Rattle.std.proofs.Common.{◌≡◌, ◌≢◌, ℕ, List, Bool, false, sym, ◌∙◌, true≢false}
use Rattle.std.specs.Bool.{Decides}
use Rattle.std.proofs.lemmas.Bool.Decides.{Decides-eqb}
use Rattle.std.proofs.lemmas.Slice.Eq.{slice_eq-Decides}
use Rattle.tool_requests.proofs.SentenceLemmas.{scrape_line, describe_line, change_line}
use Rattle.tool_requests.proofs.requests.parsed_from.Goals as goal

differs : {test : Bool} {word front literal : List ℕ} → Decides test (word ≡ front) → test ≡ false → front ≡ literal → word ≢ literal
differs d is_false same e = true≢false (sym (d.1 (e ∙ sym same)) ∙ is_false)

pub returns-then-eq : goal.returns-then-eq
returns-then-eq c =
    let is = (slice_eq-Decides Decides-eqb _ _ _ c.eq.ensures).0 c.if-eq.true ∙ c.as_slice.ensures in
    scrape_line c.args.word.now c.args.rest.now c.requires.0 c.requires.1 c.requires.2 c.args.dialect.now is c.scrape_of.result
    (c.scrape_of.ensures c.args.dialect.now)

pub returns-then-eq-2 : goal.returns-then-eq-2
returns-then-eq-2 c =
    let is = (slice_eq-Decides Decides-eqb _ _ _ c.eq-2.ensures).0 c.if-eq-2.true ∙ c.as_slice-2.ensures in
    describe_line c.args.word.now c.args.rest.now c.requires.0 c.requires.1 c.requires.2 c.args.dialect.now is c.describe_of.result
    (c.describe_of.ensures c.args.dialect.now)

pub returns : goal.returns
returns c =
    let scrapes = differs (slice_eq-Decides Decides-eqb _ _ _ c.eq.ensures) c.if-eq.false c.as_slice.ensures in
    let describes = differs (slice_eq-Decides Decides-eqb _ _ _ c.eq-2.ensures) c.if-eq-2.false c.as_slice-2.ensures in
    change_line c.args.word.now c.args.rest.now c.requires.0 c.requires.1 c.requires.2 c.args.dialect.now scrapes describes c.change_of.result
    c.change_of.ensures
