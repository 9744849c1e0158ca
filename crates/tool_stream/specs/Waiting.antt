-- What becomes of a text that is to be written.
use Rattle.std.specs.Prelude.{◌≡◌, ℕ, List, ◌++◌, Option, Result, Ok, Err}
use Rattle.std.specs.Io.KnownBytes.{Appends}
use Rattle.tool_stream.specs.declared.stream.Broken.{Broken}
use Rattle.tool_stream.specs.declared.stream.Fault.{Fault}
use Rattle.tool_stream.specs.declared.stream.Fault.TheVariants.{Memory, Device}

-- the first part of the text was written, and the rest waits
abbrev pub HandsOn : Option (List ℕ) → Option (List ℕ) → List ℕ → List ℕ → Type 0
HandsOn old new text waiting = (front : List ℕ) × (text ≡ front ++ waiting) × Appends old new front

-- the first part of the text was written, more of it waits, and the rest is lost
abbrev pub LosesSome : Option (List ℕ) → Option (List ℕ) → List ℕ → List ℕ → Type 0
LosesSome old new text waiting = (front : List ℕ) × (lost : List ℕ) × (text ≡ front ++ (waiting ++ lost)) × Appends old new front

-- none is lost unless the writer failed
abbrev pub Writes : Option (List ℕ) → Option (List ℕ) → List ℕ → List ℕ → Result (Unit {0}) Broken → Type 0
Writes old new text waiting (Ok _) = HandsOn old new text waiting
Writes old new text waiting (Err e) = LosesSome old new text waiting

-- the same beside a read
abbrev pub WritesBeside : {A : Type 0} → Option (List ℕ) → Option (List ℕ) → List ℕ → List ℕ → Result A Fault → Type 0
WritesBeside old new text waiting (Ok found) = HandsOn old new text waiting
WritesBeside old new text waiting (Err Memory) = HandsOn old new text waiting
WritesBeside old new text waiting (Err Device) = LosesSome old new text waiting
