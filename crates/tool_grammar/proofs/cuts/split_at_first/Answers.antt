use Rattle.tool_grammar.proofs.WordsLemmas.{lacks_none}
use Rattle.tool_grammar.proofs.cuts.split_at_first.Goals as goal

pub returns-else-place-bytes : goal.returns-else-place-bytes
returns-else-place-bytes c = λ front back e.
    lacks_none c.args.byte c.args.bytes.now front back c.place_of-place.result c.if-place-bytes.false c.place_of-place.ensures.before e
