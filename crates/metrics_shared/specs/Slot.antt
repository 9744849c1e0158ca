-- What a call of a slot does.
use Rattle.std.specs.Prelude.{Option, Some, None}

-- A call, by the recorder in the slot before and after it. An empty slot stays empty, and the call returns this. The recorder
-- of a full one stays there, even if the call failed, and the call did this to it.
abbrev pub CallsSlot : {R : Type 0} → Option R → Option R → Type 0 → (R → R → Type 0) → Type 0
CallsSlot None None Answers Does = Answers
CallsSlot (Some old) (Some new) Answers Does = Does old new
CallsSlot None (Some new) Answers Does = ⊥
CallsSlot (Some old) None Answers Does = ⊥
