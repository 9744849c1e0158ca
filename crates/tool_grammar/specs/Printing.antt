-- The texts of answers.
use Rattle.std.specs.Prelude.{ℕ, List, [], ◌∷◌, ◌++◌, codes, decimal, flat_map, length, Option, None, Some, ℤ}
use Rattle.std.specs.Fmt.{signed_decimal}
use Rattle.std.specs.List.{filter_map}
use Rattle.metrics.specs.declared.debugging.DebugValue.{DebugValue}
use Rattle.metrics.specs.declared.debugging.DebugValue.TheVariants as value
use Rattle.metrics_names.specs.declared.refused.Refused.{Refused}
use Rattle.metrics_names.specs.declared.refused.Refused.TheVariants.{Memory, NoSuchAddress, NoSuchBook, BadHandle}
use Rattle.metrics.specs.declared.calls.Call.{Call}
use Rattle.metrics.specs.declared.calls.Call.TheVariants as call
use Rattle.metrics.specs.declared.calls.Answer.{Answer}
use Rattle.metrics.specs.declared.calls.Answer.TheVariants as answer
use Rattle.metrics.specs.Book.{RowParts}
use Rattle.metrics.specs.History.{Log, registration_of}
use Rattle.tool_grammar.specs.Grammar.{unit_word}
use Rattle.metrics_names.specs.Names.{name_word, label_words, kind_word}

-- ---- rows

-- signed decimal numbers, one comma between two
abbrev pub more_samples : List ℤ → List ℕ
more_samples ns = flat_map (λ n. 44 ∷ signed_decimal n) ns

abbrev pub samples_text : List ℤ → List ℕ
samples_text [] = []
samples_text (n ∷ ns) = signed_decimal n ++ more_samples ns

abbrev pub value_text : DebugValue → List ℕ
value_text (value.Counter n) = decimal n
value_text (value.Gauge n) = signed_decimal n
value_text (value.Histogram ns) = 91 ∷ (samples_text ns ++ 93 ∷ [])

-- the text of a description, if there is one
abbrev pub note_text : Option (List ℕ) → List ℕ
note_text None = []
note_text (Some text) = codes " text " ++ text

-- kind, name, labels, unit, value and text
abbrev pub row_text : RowParts → List ℕ
row_text r = kind_word r.0.kind ++ (32 ∷ (name_word r.0.key.name ++ (label_words r.0.key.labels ++
    (codes " unit " ++ (unit_word r.1 ++ (codes " value " ++ (value_text r.3 ++ (note_text r.2 ++ 10 ∷ []))))))))

abbrev pub rows_text : List RowParts → List ℕ
rows_text rows = flat_map row_text rows

-- ---- answers

-- the book of a snapshot call
abbrev pub book_of : Call → ℕ
book_of (call.Snapshot b) = b
book_of (call.SnapshotWith b reset) = b
book_of (call.Describe kind name unit text) = 0
book_of (call.Register kind key) = 0
book_of (call.Update h u) = 0

abbrev pub refusal_text_of : Refused → List ℕ
refusal_text_of (Memory n) = codes "refused E1 memory, acted " ++ (decimal n ++ 10 ∷ [])
refusal_text_of NoSuchAddress = codes "refused E2 no such address\n"
refusal_text_of NoSuchBook = codes "refused E3 no such book\n"
refusal_text_of BadHandle = codes "refused E18 bad handle\n"

-- the answer of a call, after so many register calls
abbrev pub text_of : ℕ → Call → Answer → List ℕ
text_of registers c (answer.Described n) = codes "described " ++ (decimal n ++ 10 ∷ [])
text_of registers c (answer.Registered found) = codes "registered " ++ (decimal registers ++ (32 ∷ (decimal (length found) ++ 10 ∷ [])))
text_of registers c (answer.Updated n) = codes "updated " ++ (decimal n ++ 10 ∷ [])
text_of registers c (answer.Snapshot taken) = codes "snapshot " ++ (decimal (book_of c) ++ (32 ∷ (decimal (length taken.rows) ++ (10 ∷ rows_text taken.rows))))
text_of registers c (answer.Refused e) = refusal_text_of e

-- the number of register calls, including those that failed
abbrev pub registers_in : Log → ℕ
registers_in log = length (filter_map registration_of log)

abbrev pub print_from : Log → Log → List ℕ
print_from before [] = []
print_from before (e ∷ log) = text_of (registers_in before) e.0 e.1 ++ print_from (before ++ e ∷ []) log

-- the answers, one after the other. The text of a register call has its number, from 0
abbrev pub print : Log → List ℕ
print log = print_from [] log
