use Rattle.std.proofs.Common.{◌≡◌, ◌≢◌, [], refl, sym, subst, ◌∙◌, append-nil, eqb-true, length}
use Rattle.std.specs.Io.BufRead.{FillKeeps}
use Rattle.std.proofs.KnownBytes.{Consumes-nil, Consumes-kept}
use Rattle.std.proofs.lemmas.List.Elements.{All-nil}
use Rattle.tool_stream.proofs.Known.{at_end, IfSome-weaker}
use Rattle.tool_stream.proofs.stream.take_part.Goals as goal

pub returns-then-is_empty : goal.returns-then-is_empty
returns-then-is_empty g c =
    let rested = c.fill_buf.follows.lender-at-none in
    let filled = subst (FillKeeps _ (g.I.Read.remaining rested) (g.I.BufRead.consumable_len rested)) c.in-Ok.is c.fill_buf.follows.holds-at-none in
    (refl, Consumes-kept _ _ _ [] (Consumes-nil _) filled.0, at_end _ _ filled.0 (IfSome-weaker _ (λ xs. length c.in-Ok.shown.now ≡ 0 → xs ≡ []) _ (λ x h. h (eqb-true _ _ (sym c.is_empty.ensures ∙ c.if-is_empty.true))) c.in-Ok.ensures.end))

pub returns-then-eq : goal.returns-then-eq
returns-then-eq g c = ([], sym (append-nil _), All-nil (λ x. x ≢ 10), Consumes-kept _ _ _ [] (Consumes-nil _) c.fill_buf.follows.holds-at-none.0)

pub returns-else-eq : goal.returns-else-eq
returns-else-eq g c = (refl, Consumes-kept _ _ _ [] (Consumes-nil _) c.fill_buf.follows.holds-at-none.0)
