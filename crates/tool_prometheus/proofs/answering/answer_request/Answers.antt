use Rattle.std.proofs.Common.{[], sym, append-nil}
use Rattle.tool_prometheus.specs.Asked.{nothing_asked}
use Rattle.tool_prometheus.proofs.AnswerLemmas.{nothing_told}
use Rattle.tool_prometheus.proofs.AskedLemmas.{asks_none}
use Rattle.tool_prometheus.proofs.answering.answer_request.Goals as goal

pub returns-in-Change : goal.returns-in-Change
returns-in-Change g c =
    let (whole, done, ok) = c.answer_change.ensures in
    (nothing_asked, whole, rw c.in-Change.is done, asks_none _, ok)

pub returns-in-Describe : goal.returns-in-Describe
returns-in-Describe g c =
    let (whole, done, ok) = c.answer_describe.ensures in
    (nothing_asked, whole, rw (c.in-Describe.is, ← c.as_str.ensures, ← c.as_str-in-Describe.ensures) done, asks_none _, ok)

pub returns-in-Scrape : goal.returns-in-Scrape
returns-in-Scrape g c =
    let (more, whole, done, asked, ok) = c.answer_scrape.ensures in
    (more, whole, rw c.in-Scrape.is done, asked, ok)

pub returns-in-Nothing : goal.returns-in-Nothing
returns-in-Nothing g c = (nothing_asked, [], rw c.in-Nothing.is (nothing_told c.args.on.now), asks_none _, sym (append-nil _))
