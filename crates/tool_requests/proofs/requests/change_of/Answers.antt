use Rattle.std.proofs.Common.{◌∙◌, ap}
use Rattle.tool_requests.specs.Lines.{with_labels}
use Rattle.tool_requests.proofs.ReadLemmas.{no-change-space, no-change-name, no-change-amount, no-change-labels, change-read}
use Rattle.tool_requests.proofs.WordLemmas.{passed-on}
use Rattle.tool_requests.proofs.requests.change_of.Goals as goal

pub returns-in_err-amount : goal.returns-in_err-amount
returns-in_err-amount c =
    passed-on _ c.from_residual.result c.in_err-amount.field-0.0 c.from_residual.ensures.1
    (no-change-space c.args.dialect.now c.args.word.now c.args.bytes.now) c.in_err-amount.ensures

pub returns-in_err-name : goal.returns-in_err-name
returns-in_err-name c =
    passed-on _ c.from_residual-in_err-name.result c.in_err-name.field-0.0 c.from_residual-in_err-name.ensures.1
    (no-change-name c.args.dialect.now c.args.word.now c.args.bytes.now c.in_ok-amount.amount.now c.in_ok-amount.rest.now
    c.in_ok-amount.ensures.0 c.in_ok-amount.ensures.1 c.in_ok-amount.ensures.2) c.in_err-name.ensures

pub returns-in_err-by : goal.returns-in_err-by
returns-in_err-by c =
    passed-on _ c.from_residual-in_err-by.result c.in_err-by.field-0.0 c.from_residual-in_err-by.ensures.1
    (no-change-amount c.args.dialect.now c.args.word.now c.args.bytes.now c.in_ok-amount.amount.now c.in_ok-amount.rest.now
    c.in_ok-amount.ensures.0 c.in_ok-amount.ensures.1 c.in_ok-amount.ensures.2 c.in_ok-name.name.now c.in_ok-name.rest.now
    c.in_ok-name.ensures.0 c.in_ok-name.ensures.1 c.in_ok-name.ensures.2) (rw c.places_for.ensures at c.in_err-by.ensures)

pub returns-in_err-labels_of : goal.returns-in_err-labels_of
returns-in_err-labels_of c =
    passed-on _ c.from_residual-in_err-labels_of.result c.in_err-labels_of.field-0.0 c.from_residual-in_err-labels_of.ensures.1
    (no-change-labels c.args.dialect.now c.args.word.now c.args.bytes.now c.in_ok-amount.amount.now c.in_ok-amount.rest.now
    c.in_ok-amount.ensures.0 c.in_ok-amount.ensures.1 c.in_ok-amount.ensures.2 c.in_ok-name.name.now c.in_ok-name.rest.now
    c.in_ok-name.ensures.0 c.in_ok-name.ensures.1 c.in_ok-name.ensures.2) c.in_err-labels_of.ensures.words

pub returns : goal.returns
returns c =
    let own = c.in_ok-labels_of.field-0.items in
    change-read c.args.dialect.now c.args.word.now c.args.bytes.now c.in_ok-amount.amount.now c.in_ok-amount.rest.now
    c.in_ok-amount.ensures.0 c.in_ok-amount.ensures.1 c.in_ok-amount.ensures.2 c.in_ok-name.name.now c.in_ok-name.rest.now
    c.in_ok-name.ensures.0 c.in_ok-name.ensures.1 c.in_ok-name.ensures.2 c.in_ok-by.by own c.in_ok-labels.labels.items (rw c.places_for.ensures at c.in_ok-by.ensures.0) c.in_ok-by.ensures.1
    c.in_ok-labels_of.ensures.words (c.in_ok-labels.ensures.ok ∙ ap (λ ls. with_labels ls own) c.as_slice.ensures)
