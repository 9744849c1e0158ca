-- The kinds of two masks together.
use Rattle.std.proofs.Common.{◌≡◌, ℕ, zero, suc, ◌<◌, ◌≤◌, ◌/◌, ◌%◌, ◌||◌, nat_eq, bit_or, refl, ap, ◌∙◌, arith}
use Rattle.std.proofs.lemmas.Nat.{or_lt, or_shr, or_mod}
use Rattle.metrics_names.specs.declared.kind.MetricKind.{MetricKind}
use Rattle.metrics_names.specs.declared.kind.MetricKind.TheVariants.{Counter, Gauge, Histogram}
use Rattle.metrics.specs.Layers.{mask_has}

pub or_most : (a b : ℕ) → a ≤ 7 → b ≤ 7 → bit_or a b ≤ 7
or_most a b l m = let h : bit_or a b < 8 = or_lt 3 a b (omega arith) (omega arith) in omega arith

bit_of : (x y : ℕ) → x < 2 → y < 2 → nat_eq (bit_or x y) 1 ≡ (nat_eq x 1 || nat_eq y 1)
bit_of zero zero l m = refl
bit_of zero (suc zero) l m = refl
bit_of (suc zero) zero l m = refl
bit_of (suc zero) (suc zero) l m = refl
bit_of (suc (suc x)) y l m = absurd (omega arith)
bit_of x (suc (suc y)) l m = absurd (omega arith)

low_bit : (a b : ℕ) → nat_eq (bit_or a b % 2) 1 ≡ (nat_eq (a % 2) 1 || nat_eq (b % 2) 1)
low_bit a b = ap (λ n. nat_eq n 1) (or_mod a b 1) ∙ bit_of (a % 2) (b % 2) (omega arith) (omega arith)

pub or_has : (kind : MetricKind) (a b : ℕ) → mask_has kind (bit_or a b) ≡ (mask_has kind a || mask_has kind b)
or_has Counter a b = low_bit a b
or_has Gauge a b = ap (λ n. nat_eq (n % 2) 1) (or_shr a b 1) ∙ low_bit (a / 2) (b / 2)
or_has Histogram a b = ap (λ n. nat_eq (n % 2) 1) (or_shr a b 2) ∙ low_bit (a / 4) (b / 4)
