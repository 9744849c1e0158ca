-- What is true of a success.
use Rattle.std.proofs.Common.{Result, Ok, Err, IfOk}

pub if-ok : {V E : Type 0} (result : Result V E) (P Q : V → Type 0) → ((v : V) → P v → Q v) → IfOk result P → IfOk result Q
if-ok (Ok v) P Q to was = to v was
if-ok (Err e) P Q to was = tt
