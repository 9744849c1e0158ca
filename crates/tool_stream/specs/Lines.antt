-- Lines of a stream, and what a call that reads or writes did to the known bytes.
use Rattle.std.specs.Prelude.{◌≡◌, ℕ, List, [], ◌∷◌, ◌++◌, ◌==◌, ◌⊎◌, Bool, true, false, not, if◌then◌else◌, flat_map, length, ◌<◌, OnSome, Option, Result, Ok, Err}
use Rattle.std.specs.Io.KnownBytes.{Consumes, IsAtEnd}
use Rattle.tool_grammar.specs.Cuts.{Lacks}
use Rattle.tool_stream.specs.declared.stream.Fault.{Fault}
use Rattle.tool_stream.specs.declared.stream.Part.{Part}
use Rattle.tool_stream.specs.declared.stream.Part.TheVariants.{Feed, More, Nothing}
use Rattle.tool_stream.specs.declared.stream.Found.{Found}
use Rattle.tool_stream.specs.declared.stream.Found.TheVariants.{Line, Last, End}

-- has no line feed
abbrev pub IsLine : List ℕ → Type 0
IsLine l = Lacks 10 l

-- x put before the first of the lines
abbrev pub onto : ℕ → List (List ℕ) → List (List ℕ)
onto x [] = (x ∷ []) ∷ []
onto x (l ∷ ls) = (x ∷ l) ∷ ls

-- the lines of a text, each without its line feed; the last may lack one
abbrev pub lines_of : List ℕ → List (List ℕ)
lines_of [] = []
lines_of (x ∷ xs) = if x == 10 then [] ∷ lines_of xs else onto x (lines_of xs)

-- a line and its line feed
abbrev pub ended : List ℕ → List ℕ
ended l = l ++ 10 ∷ []

-- lines, each with its line feed
abbrev pub unlines : List (List ℕ) → List ℕ
unlines ls = flat_map ended ls

-- ends with a line feed, or is empty
abbrev pub IsEnded : List ℕ → Type 0
IsEnded bytes = (bytes ≡ []) ⊎ ((front : List ℕ) × (bytes ≡ ended front))

-- x put before the first of the lines, if there is one
abbrev pub onto_first : ℕ → List (List ℕ) → List (List ℕ)
onto_first x [] = []
onto_first x (l ∷ ls) = (x ∷ l) ∷ ls

-- the lines of a text that have their line feed, each without it
abbrev pub ended_lines : List ℕ → List (List ℕ)
ended_lines [] = []
ended_lines (x ∷ xs) = if x == 10 then [] ∷ ended_lines xs else onto_first x (ended_lines xs)

-- a line is begun at the end of the text, if one was begun before it
abbrev pub is_begun : Bool → List ℕ → Bool
is_begun before [] = before
is_begun before (x ∷ xs) = is_begun (not (x == 10)) xs

-- the last line lacks its line feed
abbrev pub is_cut : List ℕ → Bool
is_cut bytes = is_begun false bytes

-- What a call that reads the next part of a line did: to the known bytes, and to the line.
abbrev pub TakesPart : Option (List ℕ) → Option (List ℕ) → List ℕ → List ℕ → Result Part Fault → Type 0
TakesPart old new before after (Ok Feed) = (part : List ℕ) × (after ≡ before ++ part) × IsLine part × Consumes old new (ended part)
TakesPart old new before after (Ok More) = (part : List ℕ) × (after ≡ before ++ part) × IsLine part × Consumes old new part
TakesPart old new before after (Ok Nothing) = (after ≡ before) × Consumes old new [] × OnSome old (IsAtEnd new)
TakesPart old new before after (Err e) = (after ≡ before) × Consumes old new []

-- What a call that reads the rest of a line did: the line's end, or the last one's, which has no line feed, or no line.
abbrev pub ReadsRest : Option (List ℕ) → Option (List ℕ) → List ℕ → List ℕ → Result Found Fault → Type 0
ReadsRest old new line rest (Ok Line) = IsLine line × Consumes old new (ended rest)
ReadsRest old new line rest (Ok Last) = IsLine line × (0 < length line) × Consumes old new rest × OnSome old (IsAtEnd new)
ReadsRest old new line rest (Ok End) = Consumes old new [] × OnSome old (IsAtEnd new) × (line ≡ [])
ReadsRest old new line rest (Err e) = IsLine line × Consumes old new rest

-- What a call that reads a line did: all of it is its rest.
abbrev pub ReadsLine : Option (List ℕ) → Option (List ℕ) → List ℕ → Result Found Fault → Type 0
ReadsLine old new line result = ReadsRest old new line line result

-- What a call that reads a line from the bytes shown did: all of the line, or its first part.
abbrev pub ReadsAtHand : Option (List ℕ) → Option (List ℕ) → List ℕ → Result Bool Fault → Type 0
ReadsAtHand old new line (Ok true) = IsLine line × Consumes old new (ended line)
ReadsAtHand old new line (Ok false) = IsLine line × Consumes old new line
ReadsAtHand old new line (Err e) = IsLine line × Consumes old new line
