-- What a strict run takes for bad, beside what the text has.
use Rattle.std.proofs.Common.{◌≡◌, ◌∙◌, ◌+◌, ℕ, zero, suc, Bool, true, false, cond, ◌||◌, nat_lt, List, [], ◌∷◌, length, None, refl, ap, subst, arith, ◌↔◌}
use Rattle.std.specs.Prelude.{◌==◌}
use Rattle.std.specs.List.{list_any, filter, slice_split}
use Rattle.std.proofs.lemmas.Bool.Decides.{nat_tests}
use Rattle.metrics_exporter.specs.Exporting.{Cells}
use Rattle.metrics_descriptions.specs.Legends.{Legend}
use Rattle.metrics_exposition.specs.declared.naming.Naming.{Naming}
use Rattle.metrics_prometheus.specs.Exposition.{IsScaled}
use Rattle.metrics_prometheus.specs.LeftOut.{says_left_out, left_out_number}
use Rattle.metrics_prometheus.specs.Written.{written}
use Rattle.metrics_prometheus.proofs.CountLemmas.{number-left}
use Rattle.metrics_exposition.specs.Names.{is_name, metric_name, label_name}
use Rattle.metrics_exposition.proofs.NameLemmas.{metric-name, label-name, name-whole}
use Rattle.tool_requests.specs.Spelled.{stays}
use Rattle.tool_prometheus.specs.Strict.{leaves_out, noted}

-- ---- how many lines say that a series is left out

any-none : {A : Type 0} (p : A → Bool) (xs : List A) → length (filter p xs) ≡ 0 → list_any p xs ≡ false
any-none p [] none = refl
any-none p (x ∷ xs) none = go (p x) none (any-none p xs)
  where
    go : (b : Bool) → length (cond b (x ∷ filter p xs) (filter p xs)) ≡ 0 → (length (filter p xs) ≡ 0 → list_any p xs ≡ false) → (b || list_any p xs) ≡ false
    go true none rest = absurd (omega arith)
    go false none rest = rest none

any-some : {A : Type 0} (p : A → Bool) (xs : List A) → (length (filter p xs) ≡ 0 → ⊥) → list_any p xs ≡ true
any-some p [] some = absurd (some refl)
any-some p (x ∷ xs) some = go (p x) some (any-some p xs)
  where
    go : (b : Bool) → (length (cond b (x ∷ filter p xs) (filter p xs)) ≡ 0 → ⊥) → ((length (filter p xs) ≡ 0 → ⊥) → list_any p xs ≡ true) → (b || list_any p xs) ≡ true
    go true some rest = refl
    go false some rest = rest some

no-lines : (text : List ℕ) → left_out_number text ≡ 0 → leaves_out text ≡ false
no-lines text none = any-none says_left_out (slice_split (λ c. c == 10) text) none

some-lines : (text : List ℕ) → (left_out_number text ≡ 0 → ⊥) → leaves_out text ≡ true
some-lines text some = any-some says_left_out (slice_split (λ c. c == 10) text) some

-- a text that leaves out none isn't noted
pub none_noted : (text : List ℕ) (strict bad : Bool) → left_out_number text ≡ 0 → noted strict (leaves_out text) bad ≡ bad
none_noted text strict bad none = ap (λ odd. noted strict odd bad) (no-lines text none) ∙ go strict
  where
    go : (b : Bool) → noted b false bad ≡ bad
    go true = refl
    go false = refl

-- one that leaves some out is noted in a strict run
pub some_noted : (text : List ℕ) (strict bad : Bool) → (left_out_number text ≡ 0 → ⊥) → strict ≡ true → noted strict (leaves_out text) bad ≡ true
some_noted text strict bad some is = λ i. noted (is i) (some-lines text some i) bad

-- a text leaves a series out exactly if fewer rows are written than there are
pub leaves-short : {naming : Naming} {legend : Legend} {places : List ℕ → ℕ} (cells : Cells) (text : List ℕ) (e : IsScaled naming legend places cells text)
    → leaves_out text ≡ nat_lt (length (written e.rows None e.rows)) (length e.rows)
leaves-short cells text e = by (left_out_number text) refl
  where
    same : (n few all : ℕ) → n ≡ 0 → n + few ≡ all → false ≡ nat_lt few all
    same n few all none is = grind (arith, nat_tests, none, is)

    less : (n k few all : ℕ) → n ≡ suc k → n + few ≡ all → true ≡ nat_lt few all
    less n k few all some is = grind (arith, nat_tests, some, is)

    by : (n : ℕ) → left_out_number text ≡ n → leaves_out text ≡ nat_lt (length (written e.rows None e.rows)) (length e.rows)
    by zero none = no-lines text none ∙ same (left_out_number text) (length (written e.rows None e.rows)) (length e.rows) none (number-left cells text e)
    by (suc k) some =
        some-lines text (λ none. omega (arith, none, some))
        ∙ less (left_out_number text) k (length (written e.rows None e.rows)) (length e.rows) some (number-left cells text e)

-- ---- names

-- a name stays exactly if the text has it as it is
pub name-stays : (name : List ℕ) → (stays true 0 name ≡ true) ↔ (metric_name name ≡ name)
name-stays name = (name-whole true name, λ e. subst (λ n. is_name true n ≡ true) e (metric-name name))

pub label-stays : (name : List ℕ) → (stays false 0 name ≡ true) ↔ (label_name name ≡ name)
label-stays name = (name-whole false name, λ e. subst (λ n. is_name false n ≡ true) e (label-name name))
