-- Spare pens: their weights, and the marks of their perches.
use Rattle.std.proofs.Common.{◌≡◌, ℕ, zero, suc, ◌+◌, ◌-◌, ◌*◌, ◌/◌, ◌^◌, ◌<◌, ◌==◌, Bool, true, false, true≢false, List, [], ◌∷◌, slice_set, sym, ap, subst, ◌∙◌, arith}
use Rattle.std.proofs.lemmas.List.{append-nil}
use Rattle.std.proofs.Math.Nat.{pow-succ'}
use mathlib.Core.Option.{some, some-injective, some-ne-none}
use lib.ListN.{get_elem?}
use prog.Atomic.{either}
use Rattle.metrics_bucket.specs.Account.{Home, Account, left_account, right_account, joined_account, looked_at}
use Rattle.atomic_table.specs.Seated.{TableId}
use Rattle.atomic_table.specs.Marked.{Post}
use Rattle.metrics_bucket.specs.declared.view.View.{View}
use Rattle.metrics_bucket.specs.declared.view.Hold.TheVariants.{Nothing}
use Rattle.metrics_bucket.specs.Spares.{fresh_account, spare_account, IsVacantFor, IsSpareOf, WithSpares}

halved : (w p : ℕ) → w ≡ 8 * (2 * p) → (w / 2 ≡ 8 * p) × (w - w / 2 ≡ 8 * p)
halved w p e = (omega arith, omega arith)

pub half : (w d : ℕ) → 0 < d → w ≡ 8 * 2 ^ d → (w / 2 ≡ 8 * 2 ^ (d - 1)) × (w - w / 2 ≡ 8 * 2 ^ (d - 1))
half w zero l e = absurd (omega arith)
half w (suc d) l e =
    let down : suc d - 1 ≡ d = omega arith in
    subst (λ (x : ℕ). (w / 2 ≡ 8 * 2 ^ x) × (w - w / 2 ≡ 8 * 2 ^ x)) (sym down) (halved w (2 ^ d) (e ∙ ap (λ (x : ℕ). 8 * x) (pow-succ' 2 d)))

pub right_half : (a o : Account) (d : ℕ) → o ≡ right_account a → 0 < d → a ≡ fresh_account a.home (8 * 2 ^ d) → o ≡ fresh_account o.home (8 * 2 ^ (d - 1))
right_half a o d is l e =
    let w : a.weight ≡ 8 * 2 ^ d = ap (λ (x : Account). x.weight) e in
    subst (λ (x : Account). x ≡ fresh_account x.home (8 * 2 ^ (d - 1))) (sym is) (ap (fresh_account a.home) ((half a.weight d l w).0))

-- the same of a pen that looked
pub right_looked : (a o : Account) (d : ℕ) → o ≡ right_account a → 0 < d → a ≡ looked_at (fresh_account a.home (8 * 2 ^ d)) a.seen a.looks → o ≡ fresh_account o.home (8 * 2 ^ (d - 1))
right_looked a o d is l e =
    let w : a.weight ≡ 8 * 2 ^ d = ap (λ (x : Account). x.weight) e in
    subst (λ (x : Account). x ≡ fresh_account x.home (8 * 2 ^ (d - 1))) (sym is) (ap (fresh_account a.home) ((half a.weight d l w).0))

pub left_looked : (a o : Account) (d : ℕ) → o ≡ left_account a → 0 < d → a ≡ looked_at (fresh_account a.home (8 * 2 ^ d)) a.seen a.looks → o ≡ looked_at (fresh_account o.home (8 * 2 ^ (d - 1))) o.seen o.looks
left_looked a o d is l e =
    let w : a.weight ≡ 8 * 2 ^ d = ap (λ (x : Account). x.weight) e in
    subst
    (λ (x : Account). x ≡ looked_at (fresh_account x.home (8 * 2 ^ (d - 1))) x.seen x.looks)
    (sym is)
    (ap (λ (x : Account). record x { weight = a.weight - a.weight / 2 }) e ∙ ap (λ (n : ℕ). looked_at (fresh_account a.home n) a.seen a.looks) ((half a.weight d l w).1))

pub left_half : (a o : Account) (d : ℕ) → o ≡ left_account a → 0 < d → a ≡ fresh_account a.home (8 * 2 ^ d) → o ≡ fresh_account o.home (8 * 2 ^ (d - 1))
left_half a o d is l e =
    let w : a.weight ≡ 8 * 2 ^ d = ap (λ (x : Account). x.weight) e in
    subst
    (λ (x : Account). x ≡ fresh_account x.home (8 * 2 ^ (d - 1)))
    (sym is)
    (ap (λ (x : Account). record x { weight = a.weight - a.weight / 2 }) e ∙ ap (fresh_account a.home) ((half a.weight d l w).1))

pub rests : (n id : ℕ) (b : Bool) (views : List Bool) → id ≡ 0 → b ≡ true → IsVacantFor n views → get_elem? views id ≡ some b → (x : Bool) × IsVacantFor (either (n == 0) 2 n) (slice_set views id x) × (n ≡ 0)
rests n id b [] i t holds at = absurd (some-ne-none b (sym at))
rests n id b (v ∷ vs) i t holds at =
    subst
    (λ (j : ℕ). get_elem? (v ∷ vs) j ≡ some b → (x : Bool) × IsVacantFor (either (n == 0) 2 n) (slice_set (v ∷ vs) j x) × (n ≡ 0))
    (sym i)
    (λ e. (false, (λ o. absurd (true≢false (sym (some-injective false true o)))), holds (e ∙ ap some t)))
    at

-- a pen with empty lists joined
pub joined_empty : (b : Account) (home : Home) → joined_account b (spare_account home) ≡ record b { weight = b.weight + 8 }
joined_empty b home i = record { home = b.home; weight = b.weight + 8; pushed = append-nil b.pushed i; taken = append-nil b.taken i; read = append-nil b.read i; ticket = b.ticket; seen = b.seen; looks = b.looks; refused = b.refused }

pub more_spares : (a b c : Account) (home : Home) → WithSpares a b → c ≡ joined_account b (spare_account home) → WithSpares a c
more_spares a b c home (k, e) is =
    let w : a.weight + 8 * k + 8 ≡ a.weight + 8 * (k + 1) = omega arith in
    (k + 1, is ∙ (joined_empty b home ∙ (ap (λ (x : Account). record x { weight = x.weight + 8 }) e ∙ ap (λ (x : ℕ). record a { weight = x }) w)))

-- the seat of a spare pen, on a perch
pub is_spare : (home : Home) (id : TableId) (v : View) (p : Post View) → id ≡ home.table → 0 < id.words → v.places ≡ home.places → v.weight ≡ 8 → v.pushed ≡ [] → v.taken ≡ [] → v.read ≡ [] → v.hold ≡ Nothing → v.seen ≡ 0 → v.looks ≡ 0 → v.refused ≡ 0 → p.table_id ≡ id → p.view ≡ v → IsSpareOf home p
is_spare home id v p of_home words places weight pushed taken read hold seen looks refused of_id is =
    record {
      seated = of_id ∙ of_home;
      some_word = subst (λ (z : TableId). 0 < z.words) of_home words;
      fresh = λ i. record {
        places = (ap (λ (u : View). u.places) is ∙ places) i;
        weight = (ap (λ (u : View). u.weight) is ∙ weight) i;
        pushed = (ap (λ (u : View). u.pushed) is ∙ pushed) i;
        taken = (ap (λ (u : View). u.taken) is ∙ taken) i;
        read = (ap (λ (u : View). u.read) is ∙ read) i;
        hold = (ap (λ (u : View). u.hold) is ∙ hold) i;
        epoch = p.view.epoch;
        turn = p.view.turn;
        seen = (ap (λ (u : View). u.seen) is ∙ seen) i;
        looks = (ap (λ (u : View). u.looks) is ∙ looks) i;
        refused = (ap (λ (u : View). u.refused) is ∙ refused) i;
      };
    }
