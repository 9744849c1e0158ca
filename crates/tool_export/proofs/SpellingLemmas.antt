-- A line spells at most one request.
use Rattle.std.proofs.Common.{◌≡◌, ℕ, List, ◌∷◌, ◌++◌, refl, sym, ap, arith, codes, decimal}
use Rattle.std.proofs.lemmas.Fmt.{decimal_injective}
use Rattle.metrics.specs.declared.handles.Update.{Update}
use Rattle.metrics.specs.declared.handles.Update.TheVariants.{Increment}
use Rattle.metrics.specs.declared.calls.Call.{Call}
use Rattle.metrics.specs.declared.calls.Call.TheVariants as call
use Rattle.metrics_names.specs.Names.{KeyParts, name_word, label_words, kind_word}
use Rattle.metrics_names.specs.declared.kind.MetricKind.TheVariants.{Counter}
use Rattle.tool_grammar.specs.Grammar.{update_word, amount_word, IsName, AreLabels, IsInRange}
use Rattle.tool_grammar.specs.Grammar.{spelling as call_spelling}
use Rattle.tool_grammar.proofs.WordsLemmas.{first_same, lacks_update}
use Rattle.tool_grammar.proofs.CallLemmas.{call_same}
use Rattle.tool_export.specs.declared.requests.Request.{Request}
use Rattle.tool_export.specs.declared.requests.Request.TheVariants.{Change, Scrape}
use Rattle.tool_export.specs.Requests.{Spells}
use Rattle.tool_export.proofs.RequestLemmas.{lacks_amount, lacks_scrape, no_scrape}

abbrev update_in : Call → Update
update_in (call.Update h u) = u
update_in (call.Describe kind name unit text) = Increment 0
update_in (call.Register kind key) = Increment 0
update_in (call.Snapshot b) = Increment 0
update_in (call.SnapshotWith b reset) = Increment 0

abbrev key_in : KeyParts → Call → KeyParts
key_in other (call.Register kind key) = key
key_in other (call.Describe kind name unit text) = other
key_in other (call.Update h u) = other
key_in other (call.Snapshot b) = other
key_in other (call.SnapshotWith b reset) = other

-- by the lines of calls with the same words
pub same_update : (u v : Update) → IsInRange u → IsInRange v → update_word u ≡ update_word v
    → amount_word u ≡ amount_word v → u ≡ v
same_update u v h g w a =
    ap update_in (call_same (call_spelling (call.Update 0 u)) (call.Update 0 u) (call.Update 0 v) ((omega arith, h), refl)
    ((omega arith, g), λ i. w i ++ 32 ∷ (decimal 0 ++ 32 ∷ a i)))

same_key : (a b : KeyParts) → IsName a.name → AreLabels a.labels → IsName b.name → AreLabels b.labels
    → name_word a.name ++ label_words a.labels ≡ name_word b.name ++ label_words b.labels → a ≡ b
same_key a b m k n l e =
    ap (key_in a) (call_same (call_spelling (call.Register Counter a)) (call.Register Counter a) (call.Register Counter b)
    ((m, k), refl) ((n, l), λ i. codes "register " ++ (kind_word Counter ++ 32 ∷ e i)))

pub request_same : (line : List ℕ) (r s : Request) → Spells line r → Spells line s → r ≡ s
request_same line (Change a u) (Change b v) h g =
    let words = first_same 32 line (update_word u) _ (update_word v) _ (lacks_update u) (lacks_update v) h.1 g.1 in
    let amounts = first_same 32 _ (amount_word u) (name_word a.name ++ label_words a.labels) (amount_word v)
    (name_word b.name ++ label_words b.labels) (lacks_amount u h.0.0) (lacks_amount v g.0.0) refl words.1 in
    let keys = same_key a b h.0.1 h.0.2 g.0.1 g.0.2 amounts.1 in
    let updates = same_update u v h.0.0 g.0.0 words.0 amounts.0 in
    λ i. Change (keys i) (updates i)
request_same line (Scrape m) (Scrape n) h g =
    ap Scrape (decimal_injective m n h.0 g.0 (first_same 32 line (codes "scrape") (decimal m) (codes "scrape") (decimal n)
    lacks_scrape lacks_scrape h.1 g.1).1)
request_same line (Change a u) (Scrape n) h g =
    absurd (no_scrape u (sym (first_same 32 line (update_word u) _ (codes "scrape") (decimal n) (lacks_update u) lacks_scrape
    h.1 g.1).0))
request_same line (Scrape m) (Change b v) h g =
    absurd (no_scrape v ((first_same 32 line (codes "scrape") (decimal m) (update_word v) _ lacks_scrape (lacks_update v) h.1
    g.1).0))
