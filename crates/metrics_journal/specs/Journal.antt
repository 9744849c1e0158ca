-- Journals of a shard: which keys it holds after a list of calls, and what each call replies.
use Rattle.std.specs.Prelude.{◌≡◌, ℕ, suc, ◌+◌, ◌%◌, Bool, true, false, not, ◌&&◌, ◌||◌, List, [], ◌∷◌, ◌++◌}
use Rattle.metrics_names.specs.declared.kind.MetricKind.{MetricKind}
use Rattle.metrics_names.specs.Names.{kind_eq}
use Rattle.metrics_journal.specs.declared.calls.ShardCall.{ShardCall}
use Rattle.metrics_journal.specs.declared.calls.ShardCall.TheVariants.{Create, Delete, Has}

-- the calls of a shard with their replies, in order
abbrev pub Journal : Type 0 → Type 0
Journal K = List (ShardCall K × Bool)

module _ {K : Type 0} (eq : K → K → Bool) where
  -- whether a key is held after one more call
  abbrev pub held_after : Bool → MetricKind → K → ShardCall K → Bool
  held_after b kind key (Create k q) = b || (kind_eq k kind && eq q key)
  held_after b kind key (Delete k q) = b && not (kind_eq k kind && eq q key)
  held_after b kind key (Has k q) = b

  abbrev pub holds_from : Bool → Journal K → MetricKind → K → Bool
  holds_from b [] kind key = b
  holds_from b (e ∷ log) kind key = holds_from (held_after b kind key e.0) log kind key

  -- whether a key is held after these calls
  abbrev pub holds : Journal K → MetricKind → K → Bool
  holds log kind key = holds_from false log kind key

  -- what a call replies, by what is held before it
  abbrev pub reply_of : (MetricKind → K → Bool) → ShardCall K → Bool
  reply_of has (Create kind key) = not (has kind key)
  reply_of has (Delete kind key) = has kind key
  reply_of has (Has kind key) = has kind key

  -- each reply is that of a finite map after the earlier calls
  abbrev pub IsLegalFrom : Journal K → Journal K → Type 0
  IsLegalFrom before [] = Unit {0}
  IsLegalFrom before (e ∷ log) = (e.1 ≡ reply_of (holds before) e.0) × IsLegalFrom (before ++ e ∷ []) log

  abbrev pub IsLegal : Journal K → Type 0
  IsLegal log = IsLegalFrom [] log

-- the key of a call
abbrev pub key_of : {K : Type 0} → ShardCall K → K
key_of (Create kind key) = key
key_of (Delete kind key) = key
key_of (Has kind key) = key

-- each call is of a key of the shard
abbrev pub AreOfShard : {K : Type 0} → (K → ℕ) → ℕ → ℕ → Journal K → Type 0
AreOfShard number shards shard [] = Unit {0}
AreOfShard number shards shard (e ∷ log) = (number (key_of e.0) % shards ≡ shard) × AreOfShard number shards shard log

abbrev pub one_if : Bool → Bool → ℕ
one_if true true = 1
one_if true false = 0
one_if false true = 0
one_if false false = 1

-- how many replies were b
abbrev pub replies : {K : Type 0} → Bool → Journal K → ℕ
replies b [] = 0
replies b (e ∷ log) = one_if b e.1 + replies b log

-- how many replies were b in all journals
abbrev pub replies_in : {K : Type 0} → Bool → List (Journal K) → ℕ
replies_in b [] = 0
replies_in b (log ∷ logs) = replies b log + replies_in b logs

-- from a shard on, each journal is legal and of its shard
abbrev pub AreJournals : {K : Type 0} → (K → K → Bool) → (K → ℕ) → ℕ → ℕ → List (Journal K) → Type 0
AreJournals eq number shards shard [] = Unit {0}
AreJournals eq number shards shard (log ∷ logs) = IsLegal eq log × AreOfShard number shards shard log × AreJournals eq number shards (suc shard) logs
