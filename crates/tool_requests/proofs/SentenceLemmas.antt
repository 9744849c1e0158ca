-- A line is that of one sentence, or of none.
use Rattle.std.proofs.Common.{◌≡◌, ◌≢◌, ◌∙◌, ℕ, ◌<◌, ◌^◌, cond, List, [], ◌∷◌, ◌++◌, codes, decimal, refl, ap, sym, subst}
use Rattle.std.specs.Prelude.{Option, Result, Ok, Err, MatchResult}
use Rattle.std.proofs.lemmas.Bool.{false≢true, ne_eqb}
use Rattle.std.proofs.lemmas.Slice.Eq.{bytes_eq-Decides}
use Rattle.metrics.specs.declared.handles.Update.{Update}
use Rattle.metrics.specs.declared.handles.Update.TheVariants.{Increment, Absolute, Add, Subtract, Set, Record}
use Rattle.metrics_names.specs.Names.{name_word, kind_word}
use Rattle.metrics_names.specs.declared.kind.MetricKind.{MetricKind}
use Rattle.metrics_names.specs.declared.common.Unit.{Unit as Measure}
use Rattle.tool_grammar.specs.Cuts.{Lacks, StartsAt}
use Rattle.tool_grammar.specs.Grammar.{unit_word, update_word}
use Rattle.tool_numbers.specs.Numerals.{IsAmount}
use Rattle.tool_requests.specs.declared.dialect.Dialect.{Dialect}
use Rattle.tool_requests.specs.Places.{places_at}
use Rattle.tool_grammar.proofs.WordsLemmas.{before_same, lacks_literal, lacks_update}
use Rattle.tool_requests.specs.declared.flaws.Unread.{Unread}
use Rattle.tool_requests.specs.declared.requests.Parsed.{Parsed}
use Rattle.tool_requests.specs.Lines.{IsName, IsText, Written, AreWritten, label_words, Sentence, change, describe, scrape, scrape_by_clock, comment, empty}
use Rattle.tool_requests.specs.Parsed.{request_parsed}
use Rattle.tool_requests.specs.Lines.{spelling, CanBeSpelled, Reads, IsNone, IsBegun, Fails, body_of}
use Rattle.tool_requests.specs.declared.flaws.Unread.TheVariants.{Memory, Bad}

pub lacks_name : (n : List ℕ) → IsName n → Lacks 32 (name_word n)
lacks_name [] h = lacks_literal 32 (codes "-") refl
lacks_name (x ∷ xs) h = h.1

-- ---- a line by its first word and what follows it

abbrev pub first_word : Sentence → List ℕ
first_word (change by amount name ws) = update_word by
first_word (describe kind name unit text) = codes "describe"
first_word (scrape now) = codes "scrape"
first_word scrape_by_clock = codes "scrape"
first_word (comment text) = []
first_word empty = []

abbrev pub behind_it : Sentence → List ℕ
behind_it (change by amount name ws) = 32 ∷ (amount ++ 32 ∷ (name_word name ++ label_words ws))
behind_it (describe kind name unit text) = 32 ∷ (kind_word kind ++ 32 ∷ (name_word name ++ 32 ∷ (unit_word unit ++ 32 ∷ text)))
behind_it (scrape now) = 32 ∷ decimal now
behind_it scrape_by_clock = []
behind_it (comment text) = []
behind_it empty = []

lacks_scrape : Lacks 32 (codes "scrape")
lacks_scrape = lacks_literal 32 (codes "scrape") refl

pub differs : codes "scrape" ≡ codes "describe" → ⊥
differs e = false≢true ((bytes_eq-Decides (codes "scrape") (codes "describe")).1 e)

pub no_scrape : (u : Update) → codes "scrape" ≡ update_word u → ⊥
no_scrape (Increment n) e = false≢true ((bytes_eq-Decides (codes "scrape") (codes "increment")).1 e)
no_scrape (Absolute n) e = false≢true ((bytes_eq-Decides (codes "scrape") (codes "absolute")).1 e)
no_scrape (Add n) e = false≢true ((bytes_eq-Decides (codes "scrape") (codes "add")).1 e)
no_scrape (Subtract n) e = false≢true ((bytes_eq-Decides (codes "scrape") (codes "sub")).1 e)
no_scrape (Set n) e = false≢true ((bytes_eq-Decides (codes "scrape") (codes "set")).1 e)
no_scrape (Record n) e = false≢true ((bytes_eq-Decides (codes "scrape") (codes "record")).1 e)

pub no_describe : (u : Update) → codes "describe" ≡ update_word u → ⊥
no_describe (Increment n) e = false≢true ((bytes_eq-Decides (codes "describe") (codes "increment")).1 e)
no_describe (Absolute n) e = false≢true ((bytes_eq-Decides (codes "describe") (codes "absolute")).1 e)
no_describe (Add n) e = false≢true ((bytes_eq-Decides (codes "describe") (codes "add")).1 e)
no_describe (Subtract n) e = false≢true ((bytes_eq-Decides (codes "describe") (codes "sub")).1 e)
no_describe (Set n) e = false≢true ((bytes_eq-Decides (codes "describe") (codes "set")).1 e)
no_describe (Record n) e = false≢true ((bytes_eq-Decides (codes "describe") (codes "record")).1 e)

-- nothing that begins is a comment or empty
abbrev pub IsOther : Sentence → Type 0
IsOther (change by amount name ws) = Unit {0}
IsOther (describe kind name unit text) = Unit {0}
IsOther (scrape now) = Unit {0}
IsOther scrape_by_clock = Unit {0}
IsOther (comment text) = ⊥
IsOther empty = ⊥

module _ (word rest : List ℕ) (lacks : Lacks 32 word) (starts : StartsAt 32 rest) (begun : IsBegun (word ++ rest)) where
  pub cut : (s : Sentence) → word ++ rest ≡ spelling s → IsOther s × (word ≡ first_word s) × (rest ≡ behind_it s)
  cut (change by amount name ws) e = let b = before_same 32 word (update_word by) rest _ lacks (lacks_update by) starts refl e in (tt, b.0, b.1)
  cut (describe kind name unit text) e = let b = before_same 32 word (codes "describe") rest _ lacks (lacks_literal 32 (codes "describe") refl) starts refl e in (tt, b.0, b.1)
  cut (scrape now) e = let b = before_same 32 word (codes "scrape") rest (32 ∷ decimal now) lacks lacks_scrape starts refl e in (tt, b.0, b.1)
  cut scrape_by_clock e = let b = before_same 32 word (codes "scrape") rest [] lacks lacks_scrape starts tt e in (tt, b.0, b.1)
  cut (comment text) e = absurd (subst IsBegun e begun refl)
  cut empty e = absurd (subst IsBegun e begun)

  -- ---- a line that begins with `scrape`

  pub scrape_line : (dialect : Dialect) → word ≡ codes "scrape" → (r : Result Parsed Unread)
      → MatchResult r (λ s. Reads dialect (codes "scrape" ++ rest) (request_parsed s))
      (Fails ((rest ≡ [] → ⊥) × ((now : ℕ) → now < 2 ^ 64 → rest ≡ 32 ∷ decimal now → ⊥)))
      → MatchResult r (λ s. Reads dialect (word ++ rest) (request_parsed s)) (Fails (IsNone dialect (word ++ rest)))
  scrape_line dialect is (Ok q) h = subst (λ w. Reads dialect (w ++ rest) (request_parsed q)) (sym is) h
  scrape_line dialect is (Err Memory) h = tt
  scrape_line dialect is (Err (Bad cause at)) h = λ s can is_spelled. no s can (cut s is_spelled) h
    where
      no : (s : Sentence) → CanBeSpelled dialect s → IsOther s × (word ≡ first_word s) × (rest ≡ behind_it s)
          → (rest ≡ [] → ⊥) × ((now : ℕ) → now < 2 ^ 64 → rest ≡ 32 ∷ decimal now → ⊥) → ⊥
      no (change by amount name ws) can at none = no_scrape by (sym is ∙ at.1)
      no (describe kind name unit text) can at none = differs (sym is ∙ at.1)
      no (scrape now) can at none = none.1 now can at.2
      no scrape_by_clock can at none = none.0 at.2
      no (comment text) can at none = at.0
      no empty can at none = at.0

  -- ---- a line that begins with `describe`

  pub describe_line : (dialect : Dialect) → word ≡ codes "describe" → (r : Result Parsed Unread)
      → MatchResult r (λ s. Reads dialect (codes "describe" ++ rest) (request_parsed s))
      (Fails ((kind : MetricKind) (name : List ℕ) (unit : Option Measure) (text : List ℕ) → IsName name → IsText text
      → rest ≡ 32 ∷ (kind_word kind ++ 32 ∷ (name_word name ++ 32 ∷ (unit_word unit ++ 32 ∷ text))) → ⊥))
      → MatchResult r (λ s. Reads dialect (word ++ rest) (request_parsed s)) (Fails (IsNone dialect (word ++ rest)))
  describe_line dialect is (Ok q) h = subst (λ w. Reads dialect (w ++ rest) (request_parsed q)) (sym is) h
  describe_line dialect is (Err Memory) h = tt
  describe_line dialect is (Err (Bad cause at)) h = λ s can is_spelled. no s can (cut s is_spelled) h
    where
      no : (s : Sentence) → CanBeSpelled dialect s → IsOther s × (word ≡ first_word s) × (rest ≡ behind_it s)
          → ((kind : MetricKind) (name : List ℕ) (unit : Option Measure) (text : List ℕ) → IsName name → IsText text
          → rest ≡ 32 ∷ (kind_word kind ++ 32 ∷ (name_word name ++ 32 ∷ (unit_word unit ++ 32 ∷ text))) → ⊥) → ⊥
      no (change by amount name ws) can at none = no_describe by (sym is ∙ at.1)
      no (describe kind name unit text) can at none = none kind name unit text can.0 can.1 at.2
      no (scrape now) can at none = differs (sym (sym is ∙ at.1))
      no scrape_by_clock can at none = differs (sym (sym is ∙ at.1))
      no (comment text) can at none = at.0
      no empty can at none = at.0

  -- ---- any other line

  pub change_line : (dialect : Dialect) → word ≢ codes "scrape" → word ≢ codes "describe" → (r : Result Parsed Unread)
      → MatchResult r (λ s. Reads dialect (word ++ rest) (request_parsed s))
      (Fails ((by : Update) (amount name : List ℕ) (ws : List Written) → IsAmount (places_at dialect.places name) by amount → IsName name → AreWritten ws
      → word ≡ update_word by → rest ≡ 32 ∷ (amount ++ 32 ∷ (name_word name ++ label_words ws)) → ⊥))
      → MatchResult r (λ s. Reads dialect (word ++ rest) (request_parsed s)) (Fails (IsNone dialect (word ++ rest)))
  change_line dialect scrapes describes (Ok q) h = h
  change_line dialect scrapes describes (Err Memory) h = tt
  change_line dialect scrapes describes (Err (Bad cause at)) h = λ s can is_spelled. no s can (cut s is_spelled) h
    where
      no : (s : Sentence) → CanBeSpelled dialect s → IsOther s × (word ≡ first_word s) × (rest ≡ behind_it s)
          → ((by : Update) (amount name : List ℕ) (ws : List Written) → IsAmount (places_at dialect.places name) by amount → IsName name → AreWritten ws
          → word ≡ update_word by → rest ≡ 32 ∷ (amount ++ 32 ∷ (name_word name ++ label_words ws)) → ⊥) → ⊥
      no (change by amount name ws) can at none = none by amount name ws can.0 can.1 can.2 at.1 at.2
      no (describe kind name unit text) can at none = describes at.1
      no (scrape now) can at none = scrapes at.1
      no scrape_by_clock can at none = scrapes at.1
      no (comment text) can at none = at.0
      no empty can at none = at.0

-- ---- the end of a line

pub body-return : (front : List ℕ) → body_of (front ++ 13 ∷ []) ≡ front
body-return [] = refl
body-return (x ∷ []) = refl
body-return (x ∷ (y ∷ ys)) = ap (λ z. x ∷ z) (body-return (y ∷ ys))

pub body-other : (front : List ℕ) (last : ℕ) → last ≢ 13 → body_of (front ++ last ∷ []) ≡ front ++ last ∷ []
body-other [] last h = ap (λ b. cond b [] (last ∷ [])) (ne_eqb last 13 h)
body-other (x ∷ []) last h = ap (λ z. x ∷ z) (body-other [] last h)
body-other (x ∷ (y ∷ ys)) last h = ap (λ z. x ∷ z) (body-other (y ∷ ys) last h)
