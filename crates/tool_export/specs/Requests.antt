-- The lines of an exporter: what each spells.
use Rattle.std.specs.Prelude.{◌≡◌, ℕ, ◌<◌, ◌^◌, List, ◌∷◌, ◌++◌, codes, decimal}
use Rattle.tool_grammar.specs.Grammar.{update_word, amount_word, IsName, AreLabels, IsInRange}
use Rattle.metrics_names.specs.Names.{name_word, label_words}
use Rattle.tool_export.specs.declared.requests.Request.{Request}
use Rattle.tool_export.specs.declared.requests.Request.TheVariants.{Change, Scrape}

-- the line of a request
abbrev pub spelling : Request → List ℕ
spelling (Change key u) = update_word u ++ 32 ∷ (amount_word u ++ 32 ∷ (name_word key.name ++ label_words key.labels))
spelling (Scrape now) = codes "scrape" ++ 32 ∷ decimal now

-- the requests that have a line
abbrev pub CanBeSpelled : Request → Type 0
CanBeSpelled (Change key u) = IsInRange u × IsName key.name × AreLabels key.labels
CanBeSpelled (Scrape now) = now < 2 ^ 64

-- the line spells the request
abbrev pub Spells : List ℕ → Request → Type 0
Spells line r = CanBeSpelled r × (line ≡ spelling r)

-- the line spells no request
abbrev pub IsBad : List ℕ → Type 0
IsBad line = (r : Request) → Spells line r → ⊥
