-- What the program writes for what it reads.
use Rattle.std.specs.Prelude.{◌≡◌, ℕ, ◌<◌, List, [], ◌∷◌, ◌++◌, ◌⊎◌, length, map, codes}
use Rattle.std.specs.Prelude.{Option, None, Some, IfSome, Result, Ok, Err}
use Rattle.std.specs.List.{AllByRecursion}
use Rattle.metrics.specs.declared.calls.Call.{Call}
use Rattle.metrics.specs.Meaning.{Meaning}
use Rattle.metrics.specs.History.{Log, ArePlain, plain_log}
use Rattle.tool_grammar.specs.Grammar.{spelling, CanBeSpelled, IsBad}
use Rattle.tool_grammar.specs.Printing.{print}
use Rattle.tool_grammar.specs.declared.error.RunError.{RunError}
use Rattle.tool_grammar.specs.declared.error.RunError.TheVariants.{Memory, BadLine, Device}
use Rattle.tool_trees.specs.Trees.{Tree, meaning_of, BeginsWithTree, NoTree}
use Rattle.tool_stream.specs.Lines.{lines_of}

-- ---- what lines are

-- none, or a bad one first
abbrev pub IsStop : List (List ℕ) → Type 0
IsStop [] = Unit {0}
IsStop (l ∷ ls) = IsBad l

-- the lines of the calls, and then these, which are none or begin with a bad one
abbrev pub BeginsWithCalls : List (List ℕ) → List Call → List (List ℕ) → Type 0
BeginsWithCalls ls calls rest = AllByRecursion CanBeSpelled calls × (ls ≡ map spelling calls ++ rest) × IsStop rest

-- the lines of a tree and `end`, the lines of calls, and then none or a bad one
pub record Input (ls : List (List ℕ)) : Type 0 where
  pub tree : Tree
  pub calls : List Call
  pub after_tree : List (List ℕ)
  pub rest : List (List ℕ)
  pub tree_first : BeginsWithTree ls tree after_tree
  pub then_calls : BeginsWithCalls after_tree calls rest

-- ---- what is written

-- the calls' expected answers on a recorder of new books, printed
abbrev pub answers_text : Meaning → List Call → List ℕ
answers_text m calls = print (plain_log m.targets (length m.contents) calls)

-- the text of an input: the expected answers to its calls on its tree
abbrev pub printed : {ls : List (List ℕ)} → Input ls → List ℕ
printed i = answers_text (meaning_of i.tree) i.calls

-- no line of the text reports out of memory
abbrev pub LacksWant : List ℕ → Type 0
LacksWant text = AllByRecursion (λ l. (more : List ℕ) → l ≡ codes "refused E1 memory" ++ more → ⊥) (lines_of text)

-- An answer to each call, the expected one or out of memory, printed; and if no line reports out of memory, just the
-- text of the expected answers.
pub record IsAnswered (m : Meaning) (calls : List Call) (text : List ℕ) : Type 0 where
  pub log : Log
  pub each : map (λ e. e.0) log ≡ calls
  pub plain : ArePlain m.targets (length m.contents) log
  pub prints : text ≡ print log
  pub exact : LacksWant text → text ≡ answers_text m calls

-- ---- a run over lines

-- the text answers the calls of the first lines
abbrev pub AnswersFront : Meaning → List (List ℕ) → List ℕ → Type 0
AnswersFront m ls text = (calls : List Call) × (rest : List (List ℕ))
    × AllByRecursion CanBeSpelled calls × (ls ≡ map spelling calls ++ rest) × IsAnswered m calls text

-- what was written begins such a text
abbrev pub AnswersSome : Meaning → List (List ℕ) → (List ℕ → Type 0) → Type 0
AnswersSome m ls Writes = (text more : List ℕ) × AnswersFront m ls (text ++ more) × Writes text

-- What was written for the lines of calls on a recorder of new books, by the result. All were answered, or those before
-- a bad line, or before one at which memory ran out; or the writing stopped.
abbrev pub AnswersCalls : {A : Type 0} → Meaning → List (List ℕ) → (List ℕ → Type 0) → Result A RunError → Type 0
AnswersCalls m ls Writes (Ok done) = (calls : List Call) × (text : List ℕ)
    × BeginsWithCalls ls calls [] × IsAnswered m calls text × Writes text
AnswersCalls m ls Writes (Err (BadLine k)) = (calls : List Call) × (text : List ℕ) × (bad : List ℕ) × (more : List (List ℕ))
    × BeginsWithCalls ls calls (bad ∷ more) × IsAnswered m calls text × Writes text
AnswersCalls m ls Writes (Err (Memory (Some k))) = (text : List ℕ) × AnswersFront m ls text × Writes text
AnswersCalls m ls Writes (Err (Memory None)) = AnswersSome m ls Writes
AnswersCalls m ls Writes (Err Device) = AnswersSome m ls Writes

-- all lines are an input, and its calls were answered
abbrev pub AnswersAll : List (List ℕ) → (List ℕ → Type 0) → Type 0
AnswersAll ls Writes = (i : Input ls) × (text : List ℕ)
    × (i.rest ≡ []) × IsAnswered (meaning_of i.tree) i.calls text × Writes text

-- a bad line follows the calls, and those before it were answered; or the lines begin with no tree, and nothing was written
abbrev pub AnswersFirst : List (List ℕ) → (List ℕ → Type 0) → Type 0
AnswersFirst ls Writes =
    ((i : Input ls) × (text : List ℕ) × (0 < length i.rest) × IsAnswered (meaning_of i.tree) i.calls text × Writes text)
    ⊎ (NoTree ls × Writes [])

-- nothing was written; or a beginning of the answers to the first calls, on the tree with which the lines begin
abbrev pub AnswersPart : List (List ℕ) → (List ℕ → Type 0) → Type 0
AnswersPart ls Writes = Writes []
    ⊎ ((tree : Tree) × (after_tree : List (List ℕ)) × BeginsWithTree ls tree after_tree
    × AnswersSome (meaning_of tree) after_tree Writes)

-- what was written for lines, by the result
abbrev pub RunsOver : {A : Type 0} → List (List ℕ) → (List ℕ → Type 0) → Result A RunError → Type 0
RunsOver ls Writes (Ok done) = AnswersAll ls Writes
RunsOver ls Writes (Err (BadLine k)) = AnswersFirst ls Writes
RunsOver ls Writes (Err (Memory at)) = AnswersPart ls Writes
RunsOver ls Writes (Err Device) = AnswersPart ls Writes

-- the same, where the bytes to read are known and what the writer held: what it holds now is that and the text
abbrev pub RunsKnown : {A : Type 0} → Option (List ℕ) → Option (List ℕ) → Option (List ℕ) → Result A RunError → Type 0
RunsKnown bytes held now r = IfSome bytes (λ xs. IfSome held (λ ws. RunsOver (lines_of xs) (λ text. now ≡ Some (ws ++ text)) r))

-- the text of lines: what is printed for their input, or nothing where they begin with no tree
abbrev pub Prints : List (List ℕ) → List ℕ → Type 0
Prints ls text = ((i : Input ls) × (text ≡ printed i)) ⊎ (NoTree ls × (text ≡ []))
