-- A line spells one request, or none.
use Rattle.std.proofs.Common.{◌≡◌, ◌≢◌, ℕ, suc, ◌<◌, ◌^◌, List, ◌∷◌, ◌++◌, Option, None, Some}
use Rattle.std.proofs.Common.{Result, Ok, Err, MatchResult, MatchOption, refl, ◌∙◌, ap, arith, codes, decimal}
use Rattle.std.proofs.Common.{FitsSigned, w64}
use Rattle.std.specs.Prelude.{ℤ, pos, negsuc}
use Rattle.std.specs.Fmt.{signed_decimal}
use Rattle.std.proofs.lemmas.Bool.{false≢true}
use Rattle.std.proofs.lemmas.Int.{ints}
use Rattle.std.proofs.lemmas.List.Elements.{All-cons}
use Rattle.std.proofs.lemmas.Slice.Eq.{bytes_eq-Decides}
use Rattle.metrics.specs.declared.handles.Update.{Update}
use Rattle.metrics.specs.declared.handles.Update.TheVariants.{Increment, Absolute, Add, Subtract, Set, Record}
use Rattle.metrics_names.specs.Names.{KeyParts, name_word, label_words}
use Rattle.metrics_names.specs.declared.refused.Refused.{Refused}
use Rattle.tool_grammar.specs.Cuts.{Lacks}
use Rattle.tool_grammar.specs.Grammar.{update_word, amount_word, IsName, AreLabels, IsInRange}
use Rattle.tool_grammar.proofs.WordsLemmas.{first_same, lacks_literal, lacks_update, lacks_decimal}
use Rattle.tool_export.specs.declared.requests.Request.{Request}
use Rattle.tool_export.specs.declared.requests.Request.TheVariants.{Change, Scrape}
use Rattle.tool_export.specs.Requests.{Spells, IsBad}

lacks_signed : (n : ℤ) → FitsSigned w64 n → Lacks 32 (signed_decimal n)
lacks_signed (pos n) h = lacks_decimal n (omega (arith, ints, h))
lacks_signed (negsuc n) h = All-cons (λ x. x ≢ 32) 45 (decimal (suc n)) (λ e. absurd (omega (arith, e)))
    (lacks_decimal (suc n) (omega (arith, ints, h)))

pub lacks_amount : (by : Update) → IsInRange by → Lacks 32 (amount_word by)
lacks_amount (Increment n) h = lacks_decimal n h
lacks_amount (Absolute n) h = lacks_decimal n h
lacks_amount (Add n) h = lacks_signed n h
lacks_amount (Subtract n) h = lacks_signed n h
lacks_amount (Set n) h = lacks_signed n h
lacks_amount (Record n) h = lacks_signed n h

-- these bytes after this word are no update
abbrev pub IsNoChange : List ℕ → List ℕ → Type 0
IsNoChange word bytes = (key : KeyParts) (by : Update) → IsInRange by → IsName key.name → AreLabels key.labels
    → word ≡ update_word by →
    bytes ≡ amount_word by ++ 32 ∷ (name_word key.name ++ label_words key.labels) → ⊥

pub no_amount : (word bytes amount rest : List ℕ) → bytes ≡ amount ++ 32 ∷ rest → Lacks 32 amount
    → ((by : Update) → IsInRange by → word ≡ update_word by → amount ≡ amount_word by → ⊥)
    → IsNoChange word bytes
no_amount word bytes amount rest split lacks none key by range name labels w e =
    none by range w ((first_same 32 bytes amount rest (amount_word by) _ lacks (lacks_amount by range) split e).0)

pub no_key : (word bytes amount rest : List ℕ) → bytes ≡ amount ++ 32 ∷ rest → Lacks 32 amount
    → ((key : KeyParts) → IsName key.name → AreLabels key.labels → rest ≡ name_word key.name ++ label_words key.labels
    → ⊥) → IsNoChange word bytes
no_key word bytes amount rest split lacks none key by range name labels w e =
    none key name labels ((first_same 32 bytes amount rest (amount_word by) _ lacks (lacks_amount by range) split e).1)

-- ---- lines

pub no_space : (line : List ℕ) → ((front back : List ℕ) → line ≡ front ++ 32 ∷ back → ⊥) → IsBad line
no_space line none (Change key u) h = none (update_word u) _ h.1
no_space line none (Scrape now) h = none (codes "scrape") (decimal now) h.1

pub no_scrape : (u : Update) → codes "scrape" ≡ update_word u → ⊥
no_scrape (Increment n) e = false≢true ((bytes_eq-Decides (codes "scrape") (codes "increment")).1 e)
no_scrape (Absolute n) e = false≢true ((bytes_eq-Decides (codes "scrape") (codes "absolute")).1 e)
no_scrape (Add n) e = false≢true ((bytes_eq-Decides (codes "scrape") (codes "add")).1 e)
no_scrape (Subtract n) e = false≢true ((bytes_eq-Decides (codes "scrape") (codes "sub")).1 e)
no_scrape (Set n) e = false≢true ((bytes_eq-Decides (codes "scrape") (codes "set")).1 e)
no_scrape (Record n) e = false≢true ((bytes_eq-Decides (codes "scrape") (codes "record")).1 e)

pub lacks_scrape : Lacks 32 (codes "scrape")
lacks_scrape = lacks_literal 32 (codes "scrape") refl

pub moment : (line word rest : List ℕ) (n : ℕ) → line ≡ word ++ 32 ∷ rest → word ≡ codes "scrape" → n < 2 ^ 64
    → rest ≡ decimal n → Spells line (Scrape n)
moment line word rest n split is range digits =
    (range, split ∙ ap (λ w. w ++ 32 ∷ rest) is ∙ ap (λ r. codes "scrape" ++ 32 ∷ r) digits)

-- any other line is an update, or bad
pub change_line : (line word rest : List ℕ) (P : Refused → Type 0) (r : Result (Option Request) Refused) → line ≡ word
    ++ 32 ∷ rest → Lacks 32 word → (word ≡ codes "scrape" → ⊥)
    → MatchResult r (λ found. MatchOption found (IsNoChange word rest) (Spells (word ++ 32 ∷ rest))) P
    → MatchResult r (λ found. MatchOption found (IsBad line) (Spells line)) P
change_line line word rest P (Err e) split lacks other h = h
change_line line word rest P (Ok (Some q)) split lacks other h = (h.0, split ∙ h.1)
change_line line word rest P (Ok None) split lacks other h = bad
  where
    bad : IsBad line
    bad (Change key u) g =
        let same = first_same 32 line word rest (update_word u) _ lacks (lacks_update u) split g.1 in
        h key u g.0.0 g.0.1 g.0.2 same.0 same.1
    bad (Scrape now) g = other ((first_same 32 line word rest (codes "scrape") (decimal now) lacks lacks_scrape split g.1).0)
