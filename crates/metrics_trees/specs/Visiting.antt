-- What a call does at each target.
use Rattle.std.specs.Prelude.{◌≡◌, ◌⊎◌, ℕ, ◌+◌, ◌<◌, ◌≤◌, ◌^◌, List, [], length, map, Result, Ok, Err, Option, Some, None}
use Rattle.metrics_names.specs.declared.kind.MetricKind.{MetricKind}
use Rattle.metrics_names.specs.declared.kind.MetricKind.TheVariants.{Counter}
use Rattle.metrics_names.specs.declared.common.Unit.{Unit as Measure}
use Rattle.metrics_names.specs.declared.refused.Refused.{Refused}
use Rattle.metrics_names.specs.declared.refused.Refused.TheVariants.{Memory, NoSuchBook}
use Rattle.metrics_names.specs.Names.{KeyParts}
use Rattle.metrics_names.specs.Refusals.{after_front, CanFollow}
use Rattle.metrics_rules.specs.declared.visitor.Stopped.{Stopped}
use Rattle.metrics.specs.declared.handles.Address.{Address}
use Rattle.metrics.specs.Book.{Content, describe_in, register_in}
use Rattle.metrics.specs.Meaning.{Meaning, Acts, addresses, key_in_book}
use Rattle.metrics.specs.Layers.{joined_all, targets_of}
use Rattle.metrics_trees.specs.Calls.{Calls}
use Rattle.metrics_trees.specs.declared.visits.Call.{Call}

-- the kind of a register call, and the addresses that it has found; without a call none
abbrev pub kind_of : Option Call → MetricKind
kind_of None = Counter
kind_of (Some call) = call.kind

abbrev pub found_by : Option Call → List Address
found_by None = []
found_by (Some call) = call.found.items

-- a call: its kind, and what it does, by the labels, at a name in a book; the recorders now, and on how many targets it acted
pub record Acting (B : Type 0) : Type 0 where
  pub kind : MetricKind
  pub step : List (List ℕ × List ℕ) → List ℕ → Content → Content
  pub recorders : List B
  pub acted : ℕ

abbrev pub describing : {B : Type 0} → MetricKind → Option Measure → List ℕ → List B → ℕ → Acting B
describing kind unit text bs n = record { kind = kind; step = λ labels. describe_in kind unit text; recorders = bs; acted = n }

abbrev pub registering : {B : Type 0} → Option Call → List B → Acting B
registering call bs = record {
  kind = kind_of call;
  step = λ labels name. register_in (key_in_book (kind_of call) labels name);
  recorders = bs;
  acted = length (found_by call);
}

-- one recorder more answered a number, which was added if the sum fits; or it failed, or what followed did
abbrev pub IsAdded : ℕ → ℕ → Result ℕ Refused → Result (Unit {0}) Refused → Type 0
IsAdded n k (Ok count) (Ok done) = n + count < 2 ^ 64 → k ≡ n + count
IsAdded n k (Ok count) (Err f) = (f ≡ Memory count) × (k ≡ n)
IsAdded n k (Err e) (Err f) = (f ≡ e) × (k ≡ n)
IsAdded n k (Err e) (Ok done) = ⊥

-- the recorder of the leaf was called with the key, and the number of its targets was added to those before
pub record Acted {B : Type 0} (m : B → Meaning) (leaf : ℕ) (key : KeyParts) (v w : Acting B)
    (r : Result (Unit {0}) Refused) : Type 0 where
  pub answer : Result ℕ Refused
  pub calls : Calls m leaf v.recorders w.recorders
      (λ a c. Acts (v.step key.labels) (a.targets v.kind key.name) a c answer (λ n. n ≡ length (a.targets v.kind key.name)))
  pub added : IsAdded v.acted w.acted answer r

-- a target was accepted, and the call goes on
abbrev pub Accepts : {B : Type 0} → (B → Meaning) → ℕ → KeyParts → Acting B → Acting B → Type 0
Accepts m leaf key v w = (w.kind ≡ v.kind) × (w.step ≡ v.step) × Acted m leaf key v w (Ok tt)

-- it was refused: no recorder is there, or nobody was called, or the recorder failed
abbrev pub Rejects : {B : Type 0} → (B → Meaning) → ℕ → KeyParts → Refused → Acting B → Acting B → Type 0
Rejects m leaf key e v w =
    ((length v.recorders ≤ leaf) × (e ≡ NoSuchBook)) ⊎ (((w ≡ v) × (e ≡ Memory 0)) ⊎ Acted m leaf key v w (Err e))

-- the addresses of a key at a leaf, before the call
abbrev pub addresses_at : {B : Type 0} → (B → Meaning) → List B → ℕ → MetricKind → KeyParts → List Address
addresses_at m bs leaf kind key =
    addresses kind key.labels (targets_of leaf (map m bs) kind key.name) (joined_all (map m bs)).contents

-- what a call returns that acted on so many targets: what it did, or why its visit stopped
abbrev pub IsEnd : {T : Type 0} → Result ℕ Stopped → T → ℕ → Result T Refused → Type 0
IsEnd (Ok count) done acted (Ok t) = t ≡ done
IsEnd (Ok count) done acted (Err e) = ⊥
IsEnd (Err s) done acted (Ok t) = ⊥
IsEnd (Err s) done acted (Err e) = CanFollow acted s.refused → e ≡ after_front acted s.refused
