-- What an export of what was read did and wrote.
use Rattle.std.specs.Prelude.{◌≡◌, ℕ, ◌+◌, List, [], ◌∷◌, ◌++◌, ◌⊎◌, map, length, Result, Ok, Err}
use Rattle.std.specs.Prelude.{Some, None}
use Rattle.tool_grammar.specs.declared.error.RunError.{RunError}
use Rattle.tool_grammar.specs.declared.error.RunError.TheVariants.{Memory, BadLine, Device}
use Rattle.tool_stream.specs.Lines.{lines_of}
use Rattle.tool_stream.specs.Answering.{Answering, IsRun, AreFirst, capped}
use Rattle.metrics_exporter.specs.declared.exporter.Exporter.{Exporter}
use Rattle.metrics_exporter.specs.Exporting.{Setup, Log}
use Rattle.metrics_exporter.specs.Kept.{IsAfter}
use Rattle.tool_export.specs.Requests.{IsBad}
use Rattle.tool_export.specs.Exported.{Exchange, requests_in, texts_in, AnswersLine, AreAnswered, IsAnswer, AreLines, LacksWant}
use Rattle.tool_export.specs.Exported.{IsExported}

-- what answers lines: an exporter, and no notes
abbrev pub answers : Answering (Exporter × Unit {0})
answers p line text q = AnswersLine p.0 line text q.0

-- what a run over lines did and wrote on an exporter
abbrev pub IsExportRun : Type 0 → ℕ → Exporter → Exporter → List ℕ → List ℕ → Result ℕ RunError → Type 0
IsExportRun at_end first old new read text r = IsRun answers (λ on. IsBad) at_end first (old, tt) new read text r

-- the calls that were made
abbrev pub log_of : List Exchange → Log
log_of xs = map (λ x. x.event) xs

-- The first lines of all were answered, each as expected or as out of memory, and the exporter is as after their calls.
-- If no line's answer is out of memory, the text is just what all the lines print.
pub record IsSession (setup : Setup) (new : Exporter) (first all : List (List ℕ)) (text : List ℕ) : Type 0 where
  pub exchanges : List Exchange
  pub spelled : AreLines first (requests_in exchanges)
  pub answers : AreAnswered IsAnswer setup [] exchanges
  pub stands : IsAfter setup (log_of exchanges) new
  pub prints : text ≡ texts_in exchanges
  pub exact : LacksWant exchanges → IsExported setup all text

-- a beginning of what the first lines print
abbrev pub IsBeginning : Setup → Exporter → Type 0 → List ℕ → List ℕ → Type 0
IsBeginning setup new at_end read text = (ls : List (List ℕ)) × (more : List ℕ)
    × AreFirst at_end read ls × IsSession setup new ls ls (text ++ more)

-- What an export did and wrote over what it read, from line `first` on, by its result.
abbrev pub Exports : Setup → Type 0 → ℕ → Exporter → List ℕ → List ℕ → Result ℕ RunError → Type 0
-- each line was answered, up to the end
Exports setup at_end first new read text (Ok n) =
    at_end × IsSession setup new (lines_of read) (lines_of read) text × (n ≡ capped (length (lines_of read)))
-- each line before the first bad one, which is the last that was read, and was read whole
Exports setup at_end first new read text (Err (BadLine k)) = (ls : List (List ℕ)) × (bad : List ℕ)
    × AreFirst at_end read (ls ++ bad ∷ []) × (lines_of read ≡ ls ++ bad ∷ []) × IsBad bad
    × IsSession setup new ls (lines_of read) text
    × (k ≡ capped (first + length ls))
-- each line before the one at which memory ran out
Exports setup at_end first new read text (Err (Memory (Some k))) = (ls : List (List ℕ))
    × AreFirst at_end read ls × IsSession setup new ls ls text × (k ≡ capped (first + length ls))
-- a beginning
Exports setup at_end first new read text (Err (Memory None)) = IsBeginning setup new at_end read text
Exports setup at_end first new read text (Err Device) = IsBeginning setup new at_end read text

-- The lines from the first on were answered by a new exporter; or none was made, and nothing was read or written.
abbrev pub IsExport : Setup → Type 0 → List ℕ → List ℕ → Result ℕ RunError → Type 0
IsExport setup at_end read text r =
    ((new : Exporter) × Exports setup at_end 1 new read text r) ⊎ ((read ≡ []) × (text ≡ []) × (r ≡ Err (Memory None)))

-- the text is what an exporter answers to some lines
abbrev pub PrintsExport : Setup → List ℕ → Type 0
PrintsExport setup text = (new : Exporter) × (ls : List (List ℕ)) × IsSession setup new ls ls text
