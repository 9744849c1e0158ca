-- What a run over the lines of a stream calls and writes.
use Rattle.std.specs.Prelude.{◌≡◌, ℕ, ◌+◌, ◌<◌, List, [], ◌∷◌, ◌++◌, length, Result, Ok, Err, Option, Some, None}
use Rattle.metrics.specs.declared.calls.Call.{Call}
use Rattle.metrics.specs.declared.calls.Answer.{Answer}
use Rattle.metrics.specs.declared.calls.Answer.TheVariants.{Described, Registered, Updated, Snapshot, Refused}
use Rattle.metrics.specs.declared.handles.Address.{Address}
use Rattle.metrics.specs.Book.{Content, content_at}
use Rattle.metrics.specs.Meaning.{Meaning, KeepsTargets, AreNew}
use Rattle.metrics.specs.History.{Log, reached, content_after, ArePlain}
use Rattle.metrics.specs.Answering.{Answers, IsHeld}
use Rattle.tool_trees.specs.Trees.{Tree, meaning_of, IsAllowed}
use Rattle.tool_stream.specs.Lines.{lines_of}
use Rattle.tool_stream.specs.Answering.{capped, AreFirst}
use Rattle.tool_stream.specs.declared.machine.Unanswered.{Unanswered}
use Rattle.tool_stream.specs.declared.machine.Unanswered.TheVariants as unanswered
use Rattle.tool_grammar.specs.Grammar.{Spells, IsBad}
use Rattle.tool_grammar.specs.Printing.{text_of, print}
use Rattle.tool_lines.specs.Handles.{Entries, entry_at, entry_named, entries_by}
use Rattle.tool_grammar.specs.declared.error.RunError.{RunError}
use Rattle.tool_grammar.specs.declared.error.RunError.TheVariants.{Memory, BadLine, Device}

-- each line spells its call
abbrev pub AreSpelled : List (List ℕ) → Log → Type 0
AreSpelled [] [] = Unit {0}
AreSpelled [] (e ∷ log) = ⊥
AreSpelled (l ∷ ls) [] = ⊥
AreSpelled (l ∷ ls) (e ∷ log) = Spells l e.0 × AreSpelled ls log

-- The calls were made on a recorder, which was old before them and is new after them. If its books were new, each
-- answer is the expected one, and the books hold what calls and answers say.
pub record AreMade (old new : Meaning) (log : Log) : Type 0 where
  pub keeps : KeepsTargets old new
  pub books : length new.contents ≡ length old.contents
  pub plain : AreNew old.contents → ArePlain old.targets (length old.contents) log
  pub contents : AreNew old.contents → (b : ℕ) → b < length new.contents → content_at b new.contents ≡ content_after (reached old.targets b log)

-- What was written begins the answers to the first lines.
abbrev pub IsCutShort : Type 0 → Meaning → Meaning → List ℕ → List ℕ → Type 0
IsCutShort at_end old new read text = (ls : List (List ℕ)) × (log : Log) × (more : List ℕ)
    × AreFirst at_end read ls × AreSpelled ls log × AreMade old new log × (print log ≡ text ++ more)

-- What a run over what was read, from line `first` on, did and wrote, by its result.
abbrev pub IsRun : Type 0 → ℕ → Meaning → Meaning → List ℕ → List ℕ → Result ℕ RunError → Type 0
-- each line was answered, up to the end
IsRun at_end first old new read text (Ok n) = (log : Log)
    × at_end × AreSpelled (lines_of read) log × AreMade old new log × (text ≡ print log) × (n ≡ capped (length log))
-- each line before the first bad one, which is the last and was read whole
IsRun at_end first old new read text (Err (BadLine k)) = (ls : List (List ℕ)) × (bad : List ℕ) × (log : Log)
    × AreFirst at_end read (ls ++ bad ∷ []) × (lines_of read ≡ ls ++ bad ∷ []) × IsBad bad
    × AreSpelled ls log × AreMade old new log × (text ≡ print log) × (k ≡ capped (first + length ls))
-- each line before the one at which memory ran out
IsRun at_end first old new read text (Err (Memory (Some k))) = (ls : List (List ℕ)) × (log : Log)
    × AreFirst at_end read ls
    × AreSpelled ls log × AreMade old new log × (text ≡ print log) × (k ≡ capped (first + length ls))
-- a beginning
IsRun at_end first old new read text (Err (Memory None)) = IsCutShort at_end old new read text
IsRun at_end first old new read text (Err Device) = IsCutShort at_end old new read text

-- ---- one line

-- what an answer returns to a register call
abbrev pub addresses_in : Answer → Option (List Address)
addresses_in (Registered found) = Some found
addresses_in (Described n) = None
addresses_in (Updated n) = None
addresses_in (Snapshot rows) = None
addresses_in (Refused e) = None

-- each handle leads to series that are there
abbrev pub AreHeld : Entries → List Content → Type 0
AreHeld handles cs = (n : ℕ) → IsHeld (entry_at n handles) cs

-- The line spells the call, which was made; if the handles were held, it was answered so.
pub record IsAnswered (old new : Meaning) (before after : Entries) (line : List ℕ) (c : Call) (a : Answer) : Type 0 where
  pub spells : Spells line c
  pub keeps : KeepsTargets old new
  pub answers : AreHeld before old.contents → Answers old new (entry_named c before) c a
  pub noted : after ≡ before ++ entries_by c (addresses_in a)

-- What the answer to one line did, and its text.
abbrev pub AnswersLine : Meaning → Meaning → Entries → Entries → List ℕ → List ℕ → Type 0
AnswersLine old new before after line text = (c : Call) × (a : Answer) × IsAnswered old new before after line c a × (text ≡ text_of (length before) c a)

-- why a line spelled no call
abbrev pub IsUnread : List ℕ → Unanswered → Type 0
IsUnread line unanswered.Bad = IsBad line
IsUnread line unanswered.Memory = Unit {0}
IsUnread line unanswered.Lost = ⊥

-- ---- the whole program

-- The text is that of the answers to calls on a tree that tree lines make.
pub record PrintsAnswers (text : List ℕ) : Type 0 where
  pub tree : Tree
  pub allowed : IsAllowed tree
  pub old : Meaning
  pub new : Meaning
  pub log : Log
  pub means : old ≡ meaning_of tree
  pub are_new : AreNew old.contents
  pub are_made : AreMade old new log
  pub text_is : text ≡ print log
