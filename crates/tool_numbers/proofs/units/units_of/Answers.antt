use Rattle.std.proofs.Common.{◌∙◌, ◌+◌, ◌*◌, ◌^◌, sym}
use Rattle.tool_numbers.proofs.AmountLemmas.{no-room, no-worth}
use Rattle.tool_numbers.proofs.RoomLemmas.{too-many}
use Rattle.tool_numbers.specs.Numerals.{signed}
use Rattle.tool_numbers.proofs.units.units_of.Goals as goal

pub returns-then-has_too_many : goal.returns-then-has_too_many
returns-then-has_too_many c = λ minus units small h.
    let p = c.in-Some.parts in
    let (n, fits, is, parts) = c.in-Some.ensures.parts in
    no-room c.args.places c.args.word.now n fits is
    (too-many c.args.places n c.has_too_many.result p.is_plain p.places c.has_too_many.ensures c.if-has_too_many.true parts.is_plain parts.places)
    (signed minus units) h

pub returns-in-None : goal.returns-in-None
returns-in-None c = λ minus units small h.
    let (n, fits, is, parts) = c.in-Some.ensures.parts in
    no-worth c.args.places c.args.word.now n fits is
    (λ k below worth. c.in-None.ensures k below ((λ i. k * 10 ^ (parts.places i + parts.down i)) ∙ worth ∙ sym (λ i. parts.digits i * 10 ^ (c.from.ensures i + parts.up i))))
    minus units small h
