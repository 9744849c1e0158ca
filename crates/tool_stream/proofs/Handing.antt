-- Parts of a text that were written, and what waits after them.
use Rattle.std.proofs.Common.{◌≡◌, ℕ, List, [], ◌++◌, Option, OnOk, Result, Ok, Err, sym, ap, ◌∙◌, append_assoc, append-nil}
use Rattle.std.specs.Io.KnownBytes.{Appends}
use Rattle.std.proofs.KnownBytes.{Appends-trans}
use Rattle.tool_stream.specs.declared.stream.Broken.{Broken}
use Rattle.tool_stream.specs.declared.stream.Fault.{Fault}
use Rattle.tool_stream.specs.declared.stream.Fault.TheVariants as faults
use Rattle.tool_stream.specs.Waiting.{HandsOn, LosesSome, Writes, WritesBeside}

-- what a call of `write_text` ensures
abbrev pub WroteFront : Option (List ℕ) → Option (List ℕ) → List ℕ → Result (Unit {0}) Broken → Type 0
WroteFront x y text r = (done : List ℕ) × (more : List ℕ) × (text ≡ done ++ more) × Appends x y done × OnOk r (more ≡ [])

-- it was written after what was left, which was nothing
pub put_written : (x y z : Option (List ℕ)) (waiting text left waits : List ℕ) (r : Result (Unit {0}) Broken) → HandsOn x y waiting left → left ≡ [] → waits ≡ left → WroteFront y z text r → Writes x z (waiting ++ text) waits r
put_written x y z waiting text left waits (Ok u) (front, is, wrote) none same (done, more, split, wrote', all) = (
  front ++ done,
  ap (λ k. k ++ text) is ∙ append_assoc front left text ∙ ap (λ k. front ++ (k ++ text)) none ∙ ap (λ k. front ++ k) split ∙ sym (append_assoc front done more)
      ∙ ap (λ k. (front ++ done) ++ k) (all ∙ sym (same ∙ none)),
  Appends-trans x y z _ _ wrote wrote',
)
put_written x y z waiting text left waits (Err e) (front, is, wrote) none same (done, more, split, wrote', all) = (
  front ++ done,
  more,
  ap (λ k. k ++ text) is ∙ append_assoc front left text ∙ ap (λ k. front ++ (k ++ text)) none ∙ ap (λ k. front ++ k) split ∙ sym (append_assoc front done more)
      ∙ ap (λ k. (front ++ done) ++ (k ++ more)) (sym (same ∙ none)),
  Appends-trans x y z _ _ wrote wrote',
)

-- beside a read
module _ {A : Type 0} where
  pub handed : (x y : Option (List ℕ)) (waiting waits : List ℕ) (r : Result A Fault) → HandsOn x y waiting waits → WritesBeside x y waiting waits r
  handed x y waiting waits (Ok found) h = h
  handed x y waiting waits (Err faults.Memory) h = h
  handed x y waiting waits (Err faults.Device) (front, is, wrote) = (front, [], is ∙ ap (λ k. front ++ k) (sym (append-nil waits)), wrote)

-- after what was written before
pub on : (x y z : Option (List ℕ)) (all out waiting waits : List ℕ) → all ≡ out ++ waiting → Appends x y out → HandsOn y z waiting waits → (o : List ℕ) × (all ≡ o ++ waits) × Appends x z o
on x y z all out waiting waits e wrote (front, is, wrote') =
    (out ++ front, e ∙ ap (λ k. out ++ k) is ∙ sym (append_assoc out front waits), Appends-trans x y z _ _ wrote wrote')

pub behind : (x y z : Option (List ℕ)) (all out waiting text waits : List ℕ) → all ≡ out ++ waiting → Appends x y out → HandsOn y z (waiting ++ text) waits → (o : List ℕ) × (all ++ text ≡ o ++ waits) × Appends x z o
behind x y z all out waiting text waits e wrote h = on x y z (all ++ text) out (waiting ++ text) waits (ap (λ k. k ++ text) e ∙ append_assoc out waiting text) wrote h

pub lost_on : (x y z : Option (List ℕ)) (all out waiting waits : List ℕ) → all ≡ out ++ waiting → Appends x y out → LosesSome y z waiting waits
    → (o : List ℕ) × (lost : List ℕ) × (all ≡ (o ++ waits) ++ lost) × Appends x z o
lost_on x y z all out waiting waits e wrote (front, lost, is, wrote') =
    (out ++ front, lost, e ∙ ap (λ k. out ++ k) is ∙ sym (append_assoc out front (waits ++ lost)) ∙ sym (append_assoc (out ++ front) waits lost), Appends-trans x y z _ _ wrote wrote')

pub lost_behind : (x y z : Option (List ℕ)) (all out waiting text waits : List ℕ) → all ≡ out ++ waiting → Appends x y out → LosesSome y z (waiting ++ text) waits
    → (o : List ℕ) × (lost : List ℕ) × (all ++ text ≡ (o ++ waits) ++ lost) × Appends x z o
lost_behind x y z all out waiting text waits e wrote h = lost_on x y z (all ++ text) out (waiting ++ text) waits (ap (λ k. k ++ text) e ∙ append_assoc out waiting text) wrote h
