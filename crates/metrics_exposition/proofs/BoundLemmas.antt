-- Buckets in ascending order of their bounds.
use Rattle.std.proofs.Common.{◌≡◌, ℕ, ℤ, true, List, [], ◌∷◌, arith}
use Rattle.std.specs.Prelude.{int_lt}
use Rattle.std.specs.List.{AllByRecursion}
use Rattle.std.proofs.lemmas.Int.{ints}
use Rattle.std.proofs.lemmas.Bool.{cond_both}
use Rattle.metrics_storage.specs.Histogram.{bucket_placed, with_buckets}
use Rattle.metrics_exposition.proofs.PairLemmas.{each-map, Pairs}

pub lt-trans : (a b c : ℤ) → int_lt a b ≡ true → int_lt b c ≡ true → int_lt a c ≡ true
lt-trans a b c h g = grind (arith, ints)

abbrev pub IsBelow : ℤ × ℕ → ℤ × ℕ → Type 0
IsBelow b c = int_lt b.0 c.0 ≡ true

pub placed-each : (P : ℤ × ℕ → Type 0) (b : ℤ × ℕ) (cs : List (ℤ × ℕ)) → P b → AllByRecursion P cs → AllByRecursion P (bucket_placed b cs)
placed-each P b [] h hs = (h, tt)
placed-each P b (c ∷ cs) h hs =
    cond_both (int_lt b.0 c.0) (b ∷ c ∷ cs) _ (AllByRecursion P) (λ _. (h, hs))
    (λ _. cond_both (int_lt c.0 b.0) (c ∷ bucket_placed b cs) (c ∷ cs) (AllByRecursion P) (λ _. (hs.0, placed-each P b cs h hs.1)) (λ _. hs))

pub placed-up : (b : ℤ × ℕ) (cs : List (ℤ × ℕ)) → Pairs IsBelow cs → Pairs IsBelow (bucket_placed b cs)
placed-up b [] up = (tt, tt)
placed-up b (c ∷ cs) up =
    cond_both (int_lt b.0 c.0) (b ∷ c ∷ cs) _ (Pairs IsBelow)
    (λ e. ((e, each-map (IsBelow c) (IsBelow b) (λ d f. lt-trans b.0 c.0 d.0 e f) cs up.0), up))
    (λ _. cond_both (int_lt c.0 b.0) (c ∷ bucket_placed b cs) (c ∷ cs) (Pairs IsBelow) (λ e. (placed-each (IsBelow c) b cs e up.0, placed-up b cs up.1)) (λ _. up))

pub with-each : (P : ℤ × ℕ → Type 0) (done bs : List (ℤ × ℕ)) → AllByRecursion P done → AllByRecursion P bs → AllByRecursion P (with_buckets done bs)
with-each P done [] h hs = h
with-each P done (b ∷ bs) h hs = with-each P (bucket_placed b done) bs (placed-each P b done hs.0 h) hs.1

pub with-up : (done bs : List (ℤ × ℕ)) → Pairs IsBelow done → Pairs IsBelow (with_buckets done bs)
with-up done [] up = up
with-up done (b ∷ bs) up = with-up (bucket_placed b done) bs (placed-up b done up)
