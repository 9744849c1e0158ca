-- Journals that grow by one call.
use Rattle.std.proofs.Common.{◌≡◌, ℕ, ◌%◌, Bool, false, not, [], ◌∷◌, ◌++◌, refl, sym, ◌∙◌, ap, subst}
use Rattle.std.proofs.lemmas.List.{append-nil, append_assoc}
use Rattle.metrics_names.specs.declared.kind.MetricKind.{MetricKind}
use Rattle.metrics_journal.specs.declared.calls.ShardCall.{ShardCall}
use Rattle.metrics_journal.specs.declared.calls.ShardCall.TheVariants.{Create, Delete, Has}
use Rattle.metrics_registry.specs.declared.kinds.Kinds.{Kinds}
use Rattle.metrics_journal.specs.Cells.{has_key, Replies}
use Rattle.metrics_journal.specs.Journal.{Journal, held_after, holds_from, holds, reply_of, IsLegalFrom, IsLegal, key_of, AreOfShard}

module _ {K : Type 0} (eq : K → K → Bool) where
  holds-push : (b : Bool) (log : Journal K) (e : ShardCall K × Bool) (kind : MetricKind) (key : K) → holds_from eq b (log ++ e ∷ []) kind key ≡ held_after eq (holds_from eq b log kind key) kind key e.0
  holds-push b [] e kind key = refl
  holds-push b (x ∷ log) e kind key = holds-push (held_after eq b kind key x.0) log e kind key

  legal-push : (before log : Journal K) (e : ShardCall K × Bool) → IsLegalFrom eq before log → e.1 ≡ reply_of eq (holds eq (before ++ log)) e.0 → IsLegalFrom eq before (log ++ e ∷ [])
  legal-push before [] e legal reply = (reply ∙ ap (λ l. reply_of eq (holds eq l) e.0) (append-nil before), tt)
  legal-push before (x ∷ log) e legal reply = (legal.0, legal-push (before ++ x ∷ []) log e legal.1 (reply ∙ ap (λ l. reply_of eq (holds eq l) e.0) (sym (append_assoc before (x ∷ []) log))))

  same-reply : (has : MetricKind → K → Bool) (log : Journal K) (call : ShardCall K) → ((kind : MetricKind) (key : K) → has kind key ≡ holds eq log kind key) → reply_of eq has call ≡ reply_of eq (holds eq log) call
  same-reply has log (Create kind key) same = ap not (same kind key)
  same-reply has log (Delete kind key) same = same kind key
  same-reply has log (Has kind key) same = same kind key

of-shard-push : {K : Type 0} (number : K → ℕ) (shards shard : ℕ) (log : Journal K) (e : ShardCall K × Bool) → AreOfShard number shards shard log → number (key_of e.0) % shards ≡ shard → AreOfShard number shards shard (log ++ e ∷ [])
of-shard-push number shards shard [] e of at = (at, tt)
of-shard-push number shards shard (x ∷ log) e of at = (of.0, of-shard-push number shards shard log e of.1 at)

-- the journal is legal, of the shard, and says what the shard holds
abbrev pub IsKept : {K S C G H : Type 0} → (K → K → Bool) → (K → ℕ) → ℕ → ℕ → Kinds K S C G H → Journal K → Type 0
IsKept {K} eq number shards shard r log = IsLegal eq log × AreOfShard number shards shard log × ((kind : MetricKind) (key : K) → has_key eq r kind key ≡ holds eq log kind key)

-- a call that replied by what is held keeps the journal
pub kept : {K S C G H : Type 0} (eq : K → K → Bool) (number : K → ℕ) (shards shard : ℕ) (log next : Journal K) (old new : Kinds K S C G H) (call : ShardCall K) (reply : Bool)
    → IsLegal eq log → AreOfShard number shards shard log → ((kind : MetricKind) (key : K) → has_key eq old kind key ≡ holds eq log kind key)
    → number (key_of call) % shards ≡ shard → Replies eq old new call reply → next ≡ log ++ (call, reply) ∷ []
    → IsKept eq number shards shard new next
kept {K} eq number shards shard log next old new call reply legal of same at replies is =
    let P : Journal K → Type 0 = λ l. IsKept eq number shards shard new l in
    subst P (sym is) (
      legal-push eq [] log (call, reply) legal (replies.0 ∙ same-reply eq (has_key eq old) log call same),
      of-shard-push number shards shard log (call, reply) of at,
      λ kind key. replies.1 kind key ∙ (ap (λ b. held_after eq b kind key call) (same kind key) ∙ sym (holds-push eq false log (call, reply) kind key)),
    )
