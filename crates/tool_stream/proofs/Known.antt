-- What single reads do to known bytes.
use Rattle.std.proofs.Common.{◌≡◌, ℕ, List, [], Some, None, IfSome, OnSome, Option, ◌∙◌}
use Rattle.std.specs.Io.KnownBytes.{IsAtEnd, Keeps}

pub at_end : (a b : Option (List ℕ)) → Keeps a b → IfSome a (λ xs. xs ≡ []) → OnSome a (IsAtEnd b)
at_end None b k e = tt
at_end (Some x) None k e = absurd k
at_end (Some x) (Some y) k e = k ∙ e

pub IfSome-weaker : (a : Option (List ℕ)) (P Q : List ℕ → Type 0) → ((x : List ℕ) → P x → Q x) → IfSome a P → IfSome a Q
IfSome-weaker None P Q f h = tt
IfSome-weaker (Some x) P Q f h = f x h
