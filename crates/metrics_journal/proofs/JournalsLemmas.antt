-- The journals of all shards, when one of them grows.
use Rattle.std.proofs.Common.{◌≡◌, ℕ, zero, suc, ◌+◌, ◌<◌, Bool, List, [], ◌∷◌, ◌++◌, sym, ◌∙◌, ap, subst, length, get_or, set, map, arith}
use Rattle.std.proofs.lemmas.List.{map-append, append_assoc, append-nil}
use Rattle.metrics_journal.specs.declared.calls.ShardCall.{ShardCall}
use Rattle.metrics_journal.specs.Journal.{Journal, IsLegal, AreOfShard, AreJournals, one_if, replies, replies_in}
use Rattle.metrics_journal.specs.Shard.{ShardParts}
use Rattle.metrics_journal.specs.Journals.{journals_of, AreShards}

pub shards-at : {K R : Type 0} (count shard i : ℕ) (ps : List (ShardParts K R)) (p : ShardParts K R) → AreShards count shard ps → i < length ps → p ≡ get_or ps i p → (p.shard ≡ shard + i) × (p.shards ≡ count)
shards-at count shard i [] p placed small is = absurd (omega (arith, small))
shards-at {K} {R} count shard zero (x ∷ ps) p placed small is = (ap (λ (q : ShardParts K R). q.shard) is ∙ (placed.0 ∙ omega arith), ap (λ (q : ShardParts K R). q.shards) is ∙ placed.1)
shards-at count shard (suc i) (x ∷ ps) p placed small is = let h = shards-at count (suc shard) i ps p placed.2 (omega (arith, small)) is in (omega (arith, h.0), h.1)

pub shards-set : {K R : Type 0} (count shard i : ℕ) (ps : List (ShardParts K R)) (p n : ShardParts K R) → p ≡ get_or ps i p → n.shard ≡ p.shard → n.shards ≡ p.shards → AreShards count shard ps → AreShards count shard (set ps i n)
shards-set count shard i [] p n is same also placed = tt
shards-set {K} {R} count shard zero (x ∷ ps) p n is same also placed =
    (same ∙ (ap (λ (q : ShardParts K R). q.shard) is ∙ placed.0), also ∙ (ap (λ (q : ShardParts K R). q.shards) is ∙ placed.1), placed.2)
shards-set count shard (suc i) (x ∷ ps) p n is same also placed = (placed.0, placed.1, shards-set count (suc shard) i ps p n is same also placed.2)

replies-push : {K : Type 0} (b : Bool) (log : Journal K) (e : ShardCall K × Bool) → replies b (log ++ e ∷ []) ≡ replies b log + one_if b e.1
replies-push b [] e = omega arith
replies-push b (x ∷ log) e = let h = replies-push b log e in omega (arith, h)

pub replies-set : {K R : Type 0} (b : Bool) (i : ℕ) (ps : List (ShardParts K R)) (p n : ShardParts K R) (e : ShardCall K × Bool) → i < length ps → p ≡ get_or ps i p → n.journal ≡ p.journal ++ e ∷ [] → replies_in b (journals_of (set ps i n)) ≡ replies_in b (journals_of ps) + one_if b e.1
replies-set b i [] p n e small is grows = absurd (omega (arith, small))
replies-set {K} {R} b zero (x ∷ ps) p n e small is grows =
    let h : replies b n.journal ≡ replies b x.journal + one_if b e.1 = ap (replies b) (grows ∙ ap (λ (q : ShardParts K R). q.journal ++ e ∷ []) is) ∙ replies-push b x.journal e in
    omega (arith, h)
replies-set b (suc i) (x ∷ ps) p n e small is grows = let h = replies-set b i ps p n e (omega (arith, small)) is grows in omega (arith, h)

-- each journal is legal and of its shard
abbrev pub AreKept : {K R : Type 0} → (K → K → Bool) → (K → ℕ) → List (ShardParts K R) → Type 0
AreKept eq number [] = Unit {0}
AreKept eq number (p ∷ ps) = IsLegal eq p.journal × AreOfShard number p.shards p.shard p.journal × AreKept eq number ps

pub kept-push : {K R : Type 0} (eq : K → K → Bool) (number : K → ℕ) (ps : List (ShardParts K R)) (p : ShardParts K R) → AreKept eq number ps → IsLegal eq p.journal → AreOfShard number p.shards p.shard p.journal → AreKept eq number (ps ++ p ∷ [])
kept-push eq number [] p kept legal here = (legal, here, tt)
kept-push eq number (x ∷ ps) p kept legal here = (kept.0, kept.1, kept-push eq number ps p kept.2 legal here)

pub journals-kept : {K R : Type 0} (eq : K → K → Bool) (number : K → ℕ) (count shard : ℕ) (ps : List (ShardParts K R)) → AreShards count shard ps → AreKept eq number ps → AreJournals eq number count shard (journals_of ps)
journals-kept eq number count shard [] placed kept = tt
journals-kept eq number count shard (p ∷ ps) placed kept =
    let P : ℕ → ℕ → Type 0 = λ n s. AreOfShard number n s p.journal in
    (kept.0, subst (λ n. P n shard) placed.1 (subst (P p.shards) placed.0 kept.1), journals-kept eq number count (suc shard) ps placed.2 kept.2)

pub logs-push : {K R V : Type 0} (items : V → Journal K) (vs more : List V) (v : V) (ps : List (ShardParts K R)) (p : ShardParts K R) → map items vs ≡ journals_of ps → items v ≡ p.journal → more ≡ vs ++ v ∷ [] → map items more ≡ journals_of (ps ++ p ∷ [])
logs-push {K} {R} items vs more v ps p same one is =
    ap (map items) is
    ∙ (map-append items vs (v ∷ [])
    ∙ (ap (λ logs. logs ++ items v ∷ []) same
    ∙ (ap (λ (log : Journal K). journals_of ps ++ log ∷ []) one ∙ sym (map-append (λ (q : ShardParts K R). q.journal) ps (p ∷ [])))))

pub rest-more : {A : Type 0} (done rest left all : List A) (x : A) → done ++ rest ≡ all → rest ≡ x ∷ left → done ++ x ∷ [] ++ left ≡ all
rest-more done rest left all x whole is = append_assoc done (x ∷ []) left ∙ (ap (λ xs. done ++ xs) (sym is) ∙ whole)

pub rest-none : {A : Type 0} (done rest all : List A) → done ++ rest ≡ all → length rest ≡ 0 → done ≡ all
rest-none done [] all whole none = sym (append-nil done) ∙ whole
rest-none done (x ∷ rest) all whole none = absurd (omega (arith, none))

pub shards-push : {K R : Type 0} (count shard : ℕ) (ps : List (ShardParts K R)) (p : ShardParts K R) → AreShards count shard ps → p.shard ≡ shard + length ps → p.shards ≡ count → AreShards count shard (ps ++ p ∷ [])
shards-push count shard [] p placed at of = (at ∙ omega arith, of, tt)
shards-push count shard (x ∷ ps) p placed at of = (placed.0, placed.1, shards-push count (suc shard) ps p placed.2 (omega (arith, at)) of)

pub replies-none : {K R : Type 0} (b : Bool) (ps : List (ShardParts K R)) (p : ShardParts K R) → replies_in b (journals_of ps) ≡ 0 → p.journal ≡ [] → replies_in b (journals_of (ps ++ p ∷ [])) ≡ 0
replies-none b [] p none empty = let h = ap (replies b) empty in omega (arith, h)
replies-none b (x ∷ ps) p none empty = let h = replies-none b ps p (omega (arith, none)) empty in omega (arith, h, none)
