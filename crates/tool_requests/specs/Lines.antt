-- The lines of this tool: what each spells.
use Rattle.std.specs.Prelude.{if◌then◌else◌, ◌≡◌, ◌≢◌, ℕ, ◌<◌, ◌≤◌, ◌^◌, Bool, true, false, List, [], ◌∷◌, ◌++◌, ◌⊎◌, All, IsUtf8, nat_eq, bytes_eq}
use Rattle.std.specs.Prelude.{codes, decimal, flat_map, length, Option, None, Some}
use Rattle.std.specs.List.{AllByRecursion, list_any}
use Rattle.metrics_names.specs.Names.{KeyParts, LabelParts, name_word, kind_word}
use Rattle.metrics_names.specs.declared.kind.MetricKind.{MetricKind}
use Rattle.metrics_names.specs.declared.common.Unit.{Unit as Measure}
use Rattle.metrics.specs.declared.handles.Update.{Update}
use Rattle.metrics_exposition.specs.Labels.{placed}
use Rattle.tool_grammar.specs.Cuts.{Lacks}
use Rattle.tool_grammar.specs.Grammar.{unit_word, update_word}
use Rattle.tool_numbers.specs.Numerals.{IsAmount}
use Rattle.tool_requests.specs.declared.dialect.Dialect.{Dialect}
use Rattle.tool_requests.specs.Places.{places_at}
use Rattle.tool_requests.specs.declared.flaws.Unread.{Unread}
use Rattle.tool_requests.specs.declared.flaws.Unread.TheVariants as unread
use Rattle.tool_requests.specs.declared.requests.Request.{Request}
use Rattle.tool_requests.specs.declared.requests.Request.TheVariants.{Change, Describe, Scrape, Nothing}

-- ---- words

-- no control character
abbrev pub IsPlain : ℕ → Type 0
IsPlain c = (32 ≤ c) × (c ≢ 127)

-- a text without control characters
abbrev pub IsText : List ℕ → Type 0
IsText text = All IsPlain text × IsUtf8 text

-- no character of a series as the text format writes it: a brace, a quote, a comma or an equals sign
abbrev pub IsOfName : ℕ → Type 0
IsOfName c = (c ≢ 123) × (c ≢ 125) × (c ≢ 34) × (c ≢ 44) × (c ≢ 61)

-- a text in one word, save for the dash, and for a series with its labels
abbrev pub IsName : List ℕ → Type 0
IsName name = IsText name × Lacks 32 name × (name ≢ codes "-") × All IsOfName name

-- ---- labels

-- the character in a quoted value
abbrev pub escape : ℕ → List ℕ
escape c = if nat_eq c 92 then codes "\\\\" else (if nat_eq c 34 then codes "\\\"" else (if nat_eq c 10 then codes "\\n" else c ∷ []))

abbrev pub escaped : List ℕ → List ℕ
escaped value = flat_map escape value

-- a label as it is written: its key, its value, and whether that is in quotes
pub record Written : Type 0 where
  pub key : List ℕ
  pub value : List ℕ
  pub quoted : Bool

abbrev pub value_word : Bool → List ℕ → List ℕ
value_word true value = 34 ∷ (escaped value ++ 34 ∷ [])
value_word false value = value

-- a space, the key, an equals sign and the value
abbrev pub label_word : Written → List ℕ
label_word w = 32 ∷ (w.key ++ 61 ∷ value_word w.quoted w.value)

abbrev pub label_words : List Written → List ℕ
label_words ws = flat_map label_word ws

-- begins with another byte, or is empty
abbrev pub StartsElse : ℕ → List ℕ → Type 0
StartsElse c [] = Unit {0}
StartsElse c (x ∷ xs) = x ≢ c

-- in quotes a line feed is allowed too
abbrev pub IsQuotable : ℕ → Type 0
IsQuotable c = (c ≡ 10) ⊎ IsPlain c

abbrev pub CanBeValue : Bool → List ℕ → Type 0
CanBeValue true value = AllByRecursion IsQuotable value × IsUtf8 value
CanBeValue false value = IsText value × Lacks 32 value × StartsElse 34 value

abbrev pub IsWritten : Written → Type 0
IsWritten w = IsText w.key × Lacks 32 w.key × Lacks 61 w.key × CanBeValue w.quoted w.value

abbrev pub label_of : Written → LabelParts
label_of w = (w.key, w.value)

-- none of the labels has this key
abbrev pub LacksKey : List ℕ → List LabelParts → Type 0
LacksKey key labels = All (λ l. l.0 ≢ key) labels

-- there may be one more label
abbrev pub HasRoom : List LabelParts → Type 0
HasRoom labels = length labels < 1000

-- labels that may follow these: each has a key that none before it has, and there are 1,000 at most
abbrev pub MayFollow : List LabelParts → List Written → Type 0
MayFollow labels [] = Unit {0}
MayFollow labels (w ∷ ws) = IsWritten w × LacksKey w.key labels × HasRoom labels × MayFollow (placed (label_of w) labels) ws

abbrev pub AreWritten : List Written → Type 0
AreWritten ws = MayFollow [] ws

-- each inserted at its place among those before it
abbrev pub put_in : List LabelParts → List Written → List LabelParts
put_in labels [] = labels
put_in labels (w ∷ ws) = put_in (placed (label_of w) labels) ws

-- the labels in the order of their keys
abbrev pub in_order : List Written → List LabelParts
in_order ws = put_in [] ws

-- one of the labels has this key
abbrev pub has_key : List ℕ → List LabelParts → Bool
has_key key labels = list_any (λ l. bytes_eq l.0 key) labels

-- the labels with a common one in its place, unless one of them has its key
abbrev pub with_label : LabelParts → List LabelParts → List LabelParts
with_label l labels = if has_key l.0 labels then labels else placed l labels

-- the labels of a series that has the common ones beside its own
abbrev pub with_labels : List LabelParts → List LabelParts → List LabelParts
with_labels [] own = own
with_labels (l ∷ common) own = with_labels common (with_label l own)

-- the value of the first label with this key
abbrev pub value_of : List ℕ → List LabelParts → Option (List ℕ)
value_of key [] = None
value_of key (l ∷ labels) = if bytes_eq l.0 key then Some l.1 else value_of key labels

-- what follows the amount in a line spells the series of the key, which has the common labels too
abbrev pub SpellsSeries : List LabelParts → List ℕ → KeyParts → Type 0
SpellsSeries common bytes key = (ws : List Written) × IsName key.name × AreWritten ws × (key.labels ≡ with_labels common (in_order ws))
    × (bytes ≡ 32 ∷ (name_word key.name ++ label_words ws))

-- each of these bytes spells the series of its key
abbrev pub AreSpelled : List LabelParts → (ℕ → Option (List ℕ × KeyParts)) → Type 0
AreSpelled common found = (number : ℕ) (s : List ℕ × KeyParts) → found number ≡ Some s → SpellsSeries common s.0 s.1

-- ---- lines

-- a line as it is written; an update has its amount as a word
pub data Sentence : Type 0 where
  change : Update → List ℕ → List ℕ → List Written → Sentence
  describe : MetricKind → List ℕ → Option Measure → List ℕ → Sentence
  scrape : ℕ → Sentence
  scrape_by_clock : Sentence
  comment : List ℕ → Sentence
  empty : Sentence

abbrev pub spelling : Sentence → List ℕ
spelling (change by amount name ws) = update_word by ++ 32 ∷ (amount ++ 32 ∷ (name_word name ++ label_words ws))
spelling (describe kind name unit text) = codes "describe" ++ 32 ∷ (kind_word kind ++ 32 ∷ (name_word name ++ 32 ∷ (unit_word unit ++ 32 ∷ text)))
spelling (scrape now) = codes "scrape" ++ 32 ∷ decimal now
spelling scrape_by_clock = codes "scrape"
spelling (comment text) = 35 ∷ text
spelling empty = []

-- the sentences that have a line in a dialect, by the decimal places of its names
abbrev pub CanBeSpelled : Dialect → Sentence → Type 0
CanBeSpelled dialect (change by amount name ws) = IsAmount (places_at dialect.places name) by amount × IsName name × AreWritten ws
CanBeSpelled dialect (describe kind name unit text) = IsName name × IsText text
CanBeSpelled dialect (scrape now) = now < 2 ^ 64
CanBeSpelled dialect scrape_by_clock = Unit {0}
CanBeSpelled dialect (comment text) = Unit {0}
CanBeSpelled dialect empty = Unit {0}

-- the request of a sentence, where all series have these labels
abbrev pub request_in : List LabelParts → Sentence → Request
request_in common (change by amount name ws) = Change (record { name = name; labels = with_labels common (in_order ws) }) by
request_in common (describe kind name unit text) = Describe kind name unit text
request_in common (scrape now) = Scrape (Some now)
request_in common scrape_by_clock = Scrape None
request_in common (comment text) = Nothing
request_in common empty = Nothing

-- neither empty nor a comment
abbrev pub IsBegun : List ℕ → Type 0
IsBegun [] = ⊥
IsBegun (x ∷ xs) = x ≢ 35

-- a line without a carriage return at its end
abbrev pub body_of : List ℕ → List ℕ
body_of [] = []
body_of (x ∷ []) = if nat_eq x 13 then [] else x ∷ []
body_of (x ∷ (y ∷ ys)) = x ∷ body_of (y ∷ ys)

-- the bytes are those of a sentence with this request
abbrev pub Reads : Dialect → List ℕ → Request → Type 0
Reads dialect bytes request = (s : Sentence) × CanBeSpelled dialect s × (bytes ≡ spelling s) × (request ≡ request_in dialect.labels s)

-- the bytes are those of no sentence
abbrev pub IsNone : Dialect → List ℕ → Type 0
IsNone dialect bytes = (s : Sentence) → CanBeSpelled dialect s → bytes ≡ spelling s → ⊥

-- the line spells the request
abbrev pub Spells : Dialect → List ℕ → Request → Type 0
Spells dialect line request = Reads dialect (body_of line) request

-- the line spells no request
abbrev pub IsBad : Dialect → List ℕ → Type 0
IsBad dialect line = IsNone dialect (body_of line)

-- ---- errors

-- unless memory ran out, this holds
abbrev pub Fails : Type 0 → Unread → Type 0
Fails P unread.Memory = Unit {0}
Fails P (unread.Bad cause word) = P
