-- What a run over the lines of a stream does and writes, for any machine that answers lines.
use Rattle.std.specs.Prelude.{◌≡◌, ℕ, ◌+◌, ◌-◌, ◌^◌, min, Bool, true, false, List, [], ◌∷◌, ◌++◌, map, length, flat_map, ◌⊎◌, Result, Ok, Err, Option, Some, None}
use Rattle.std.specs.List.{FoldsTo}
use Rattle.tool_stream.specs.Lines.{lines_of, unlines, IsLine, IsEnded}
use Rattle.tool_stream.specs.Waiting.{HandsOn, LosesSome}
use Rattle.tool_stream.specs.declared.stream.Fault.{Fault}
use Rattle.tool_stream.specs.declared.stream.Fault.TheVariants as FaultVariants
use Rattle.tool_stream.specs.declared.machine.Unanswered.{Unanswered}
use Rattle.tool_stream.specs.declared.machine.Unanswered.TheVariants as unanswered
use Rattle.tool_grammar.specs.declared.error.RunError.{RunError}
use Rattle.tool_grammar.specs.declared.error.RunError.TheVariants.{Memory, BadLine, Device}

-- numbers saturate at 2^64 - 1
abbrev pub capped : ℕ → ℕ
capped n = min n (2 ^ 64 - 1)

-- on a line a machine may return a text and continue as another
abbrev pub Answering : Type 0 → Type 1
Answering M = M → List ℕ → List ℕ → M → Type 0

-- lines, each with its text
abbrev pub Dialogue : Type 0
Dialogue = List (List ℕ × List ℕ)

abbrev pub lines_in : Dialogue → List (List ℕ)
lines_in es = map (λ e. e.0) es

abbrev pub texts_in : Dialogue → List ℕ
texts_in es = flat_map (λ e. e.1) es

-- the lines were answered one after another, each by its text
abbrev pub AreAnswered : {M : Type 0} → Answering M → M → Dialogue → M → Type 0
AreAnswered answers old es new = FoldsTo (λ p e q. answers p e.0 e.1 q) old es new

-- the lines were answered, and left this of what they act on; notes are for the run alone
abbrev pub Leaves : {On Notes : Type 0} → Answering (On × Notes) → On × Notes → Dialogue → On → Type 0
Leaves answers old es on = (notes : _) × AreAnswered answers old es (on, notes)

-- why a line got no text
abbrev pub IsUnanswered : {On Notes : Type 0} → Answering (On × Notes) → (On → List ℕ → Type 0) → On × Notes → List ℕ → Unanswered → On × Notes → Type 0
IsUnanswered answers bad old line unanswered.Bad new = bad old.0 line × (new.0 ≡ old.0)
IsUnanswered answers bad old line unanswered.Memory new = new.0 ≡ old.0
IsUnanswered answers bad old line unanswered.Lost new = (text : List ℕ) × answers old line text new

-- What a machine did with a line: it appended the text that answers it to what was there, or returned none.
abbrev pub Replies : {On Notes : Type 0} → Answering (On × Notes) → (On → List ℕ → Type 0) → On × Notes → On × Notes → List ℕ → List ℕ → List ℕ → Result (Unit {0}) Unanswered → Type 0
Replies answers bad old new line before after (Ok _) = (text : List ℕ) × (after ≡ before ++ text) × answers old line text new
Replies answers bad old new line before after (Err e) = IsUnanswered answers bad old line e new

-- These are the first lines of what was read, each with its line feed; or all of them, if the reader is at its end.
abbrev pub AreFirst : Type 0 → List ℕ → List (List ℕ) → Type 0
AreFirst at_end read ls =
    ((rest : List ℕ) × (read ≡ unlines ls ++ rest) × (lines_of read ≡ ls ++ lines_of rest)) ⊎ (at_end × (lines_of read ≡ ls))

-- What was written begins the answers to the first lines.
abbrev pub IsCutShort : {On Notes : Type 0} → Answering (On × Notes) → Type 0 → On × Notes → On → List ℕ → List ℕ → Type 0
IsCutShort answers at_end old new read text = (es : Dialogue) × (more : List ℕ) × AreFirst at_end read (lines_in es) × Leaves answers old es new × (texts_in es ≡ text ++ more)

-- What a run over what was read, from line `first` on, did and wrote, by its result.
abbrev pub IsRun : {On Notes : Type 0} → Answering (On × Notes) → (On → List ℕ → Type 0) → Type 0 → ℕ → On × Notes → On → List ℕ → List ℕ → Result ℕ RunError → Type 0
-- each line was answered, up to the end
IsRun answers bad at_end first old new read text (Ok n) = (es : Dialogue)
    × at_end × (lines_of read ≡ lines_in es) × Leaves answers old es new × (text ≡ texts_in es) × (n ≡ capped (length es))
-- each line before the first bad one, which is the last and was read whole
IsRun answers bad at_end first old new read text (Err (BadLine k)) = (es : Dialogue) × (line : List ℕ)
    × AreFirst at_end read (lines_in es ++ line ∷ []) × (lines_of read ≡ lines_in es ++ line ∷ []) × bad new line
    × Leaves answers old es new × (text ≡ texts_in es) × (k ≡ capped (first + length es))
-- each line before the one at which memory ran out
IsRun answers bad at_end first old new read text (Err (Memory (Some k))) = (es : Dialogue)
    × AreFirst at_end read (lines_in es) × Leaves answers old es new × (text ≡ texts_in es) × (k ≡ capped (first + length es))
-- a beginning
IsRun answers bad at_end first old new read text (Err (Memory None)) = IsCutShort answers at_end old new read text
IsRun answers bad at_end first old new read text (Err Device) = IsCutShort answers at_end old new read text

-- What a run leaves after what it read: nothing if it answers a last line that lacks its line feed, and otherwise that line.
abbrev pub IsLeft : Bool → List ℕ → List ℕ → Result ℕ RunError → Type 0
IsLeft true read left r = left ≡ []
IsLeft false read left (Ok n) = IsEnded read × IsLine left
IsLeft false read left (Err (BadLine k)) = IsEnded read
IsLeft false read left (Err (Memory at)) = Unit {0}
IsLeft false read left (Err Device) = Unit {0}

-- ---- one line

-- What the answer to one line did, where this was written before it and after it, and these texts waited.
abbrev pub AnswersLine : {On Notes : Type 0} → Answering (On × Notes) → (On → List ℕ → Type 0) → On × Notes → On × Notes → List ℕ
    → Option (List ℕ) → Option (List ℕ) → List ℕ → List ℕ → ℕ → Result (Unit {0}) RunError → Type 0
AnswersLine answers bad old new line before after waiting waits number (Ok _) = (text : List ℕ) × answers old line text new × HandsOn before after (waiting ++ text) waits
AnswersLine answers bad old new line before after waiting waits number (Err (BadLine k)) = bad old.0 line × (new.0 ≡ old.0) × HandsOn before after waiting waits × (k ≡ number)
AnswersLine answers bad old new line before after waiting waits number (Err (Memory (Some k))) = (new.0 ≡ old.0) × HandsOn before after waiting waits × (k ≡ number)
AnswersLine answers bad old new line before after waiting waits number (Err (Memory None)) = (text : List ℕ) × answers old line text new × HandsOn before after waiting waits
AnswersLine answers bad old new line before after waiting waits number (Err Device) = (text : List ℕ) × answers old line text new × LosesSome before after (waiting ++ text) waits

-- ---- the end

-- neither memory nor the device failed
abbrev pub IsWhole : Result ℕ RunError → Type 0
IsWhole (Ok n) = Unit {0}
IsWhole (Err (BadLine k)) = Unit {0}
IsWhole (Err (Memory at)) = ⊥
IsWhole (Err Device) = ⊥

-- After a flush: what was answered before it; or the device failed at the flush, and nothing before it.
abbrev pub IsFlushed : Result ℕ RunError → Result ℕ RunError → Type 0
IsFlushed before after = (after ≡ before) ⊎ (IsWhole before × (after ≡ Err Device))

-- the error at a line with this number that could not be read
abbrev pub fault_at : ℕ → Fault → RunError
fault_at number FaultVariants.Memory = Memory (Some number)
fault_at number FaultVariants.Device = Device

-- the status of a program that stopped for this reason: 2 at a bad line, 1 at a fault of memory or the device
abbrev pub status_number : RunError → ℕ
status_number (BadLine k) = 2
status_number (Memory at) = 1
status_number Device = 1
