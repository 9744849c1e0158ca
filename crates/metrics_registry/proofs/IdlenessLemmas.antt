-- The table of recency holds what the list of checks says.
use Rattle.std.proofs.Common.{◌≡◌, ℕ, ◌-◌, List, [], ◌∷◌, nat_eq, cond, true, false, refl, ap, sym, ◌∙◌, subst, arith}
use Rattle.std.specs.Prelude.{Bool, not, ◌&&◌, Option, None, Some, is_some}
use Rattle.std.specs.List.{filter, take_while}
use Rattle.std.specs.Cmp.{IsEquivalence}
use Rattle.std.proofs.lemmas.Bool.{false≢true, le-ltb, eqb-true, and_parts, and_from}
use Rattle.std.proofs.lemmas.List.Sums.{take_while-cons}
use Rattle.metrics_registry.specs.declared.recency.Noted.{Noted}
use Rattle.metrics_names.specs.declared.kind.MetricKind.{MetricKind}
use Rattle.metrics_names.specs.declared.kind.MetricKind.TheVariants.{Counter, Gauge, Histogram}
use Rattle.metrics_names.specs.Names.{kind_eq}
use Rattle.metrics_registry.specs.Recency.{Rules, Check, Table, new_table, is_of, is_late, noted_now, watch_step, check_step, table_answer, table_after, table_answers}
use Rattle.metrics_registry.specs.Idleness.{Answered, earlier_of, goes_on, first_moment, run_answer, run_answers, TableGivesRuns}

-- ---- the checks of one (kind, key)

kind_eq-refl : (a : MetricKind) → kind_eq a a ≡ true
kind_eq-refl Counter = refl
kind_eq-refl Gauge = refl
kind_eq-refl Histogram = refl

kind_eq-same : (a b : MetricKind) → kind_eq a b ≡ true → a ≡ b
kind_eq-same Counter Counter h = refl
kind_eq-same Counter Gauge h = absurd (false≢true h)
kind_eq-same Counter Histogram h = absurd (false≢true h)
kind_eq-same Gauge Counter h = absurd (false≢true h)
kind_eq-same Gauge Gauge h = refl
kind_eq-same Gauge Histogram h = absurd (false≢true h)
kind_eq-same Histogram Counter h = absurd (false≢true h)
kind_eq-same Histogram Gauge h = absurd (false≢true h)
kind_eq-same Histogram Histogram h = refl

is_of-self : {K : Type 0} (same : K → K → Bool) → IsEquivalence same → (c : Check K) → is_of same c c.kind c.key ≡ true
is_of-self same laws c = and_from (kind_eq c.kind c.kind) (same c.key c.key) (kind_eq-refl c.kind) (laws.refl c.key)

is_of-like : {K : Type 0} (same : K → K → Bool) → IsEquivalence same → (kind : MetricKind) (key : K) (c d : Check K) → is_of same c kind key ≡ true → is_of same d kind key ≡ is_of same d c.kind c.key
is_of-like same laws kind key c d h =
    let parts : (kind_eq c.kind kind ≡ true) × (same c.key key ≡ true) = and_parts (kind_eq c.kind kind) (same c.key key) h in
    ap (λ k. kind_eq d.kind k && same d.key key) (sym (kind_eq-same c.kind kind parts.0))
    ∙ ap (λ b. kind_eq d.kind c.kind && b) (laws.symm d.key key ∙ sym (laws.congr c.key key d.key parts.1) ∙ laws.symm c.key d.key)

filter-same : {X : Type 0} (p q : X → Bool) → ((x : X) → p x ≡ q x) → (xs : List X) → filter p xs ≡ filter q xs
filter-same p q h [] = refl
filter-same p q h (x ∷ xs) =
    ap (λ b. cond b (x ∷ filter p xs) (filter p xs)) (h x)
    ∙ ap (λ ys. cond (q x) (x ∷ ys) ys) (filter-same p q h xs)

-- ---- one (kind, key)

-- what is noted after checks of one (kind, key), the latest first
abbrev noted_by : {K : Type 0} → List (Answered K) → Option Noted
noted_by [] = None
noted_by (a ∷ earlier) = cond a.answer (Some (record { generation = a.check.generation; moment = first_moment a.check.moment (take_while (goes_on a.check.generation) earlier) })) None

abbrev start_of : {K : Type 0} → Check K → List (Answered K) → ℕ
start_of c mine = first_moment c.moment (take_while (goes_on c.generation) mine)

-- the result of a check whose run began at a moment, and what is noted after it
abbrev outcome : {K : Type 0} → Check K → Bool → ℕ → Bool × Option Noted
outcome c late start = (not (late && c.held), cond (not (late && c.held)) (Some (record { generation = c.generation; moment = start })) None)

not_late : (timeout : Option ℕ) (from now : ℕ) → from ≡ now → is_late timeout from now ≡ false
not_late None from now e = refl
not_late (Some t) from now e = le-ltb t (now - from) (omega (arith, e))

begins : {K : Type 0} (timeout : Option ℕ) (c : Check K) (start : ℕ) → start ≡ c.moment → (true, Some (noted_now c)) ≡ outcome c (is_late timeout start c.moment) start
begins timeout c start e = ap (λ s. outcome c false s) (sym e) ∙ ap (λ b. outcome c b start) (sym (not_late timeout start c.moment e))

continues : {K : Type 0} (timeout : Option ℕ) (c : Check K) (generation start : ℕ) → generation ≡ c.generation → cond (is_late timeout start c.moment && c.held) (false, None) (true, Some (record { generation = generation; moment = start })) ≡ outcome c (is_late timeout start c.moment) start
continues timeout c generation start e =
    elim (is_late timeout start c.moment && c.held) as (λ b. ◌≡◌ {A = Bool × Option Noted} (cond b (false, None) (true, Some (record { generation = generation; moment = start }))) (not b, cond (not b) (Some (record { generation = c.generation; moment = start })) None)) [
      | true ↦ refl
      | false ↦ ap (λ g. (true, Some (record { generation = g; moment = start }))) e
    ]

watch-outcome : {K : Type 0} (timeout : Option ℕ) (c : Check K) (mine : List (Answered K)) → watch_step timeout (noted_now c) c.held (noted_by mine) ≡ outcome c (is_late timeout (start_of c mine) c.moment) (start_of c mine)
watch-outcome timeout c [] = begins timeout c c.moment refl
watch-outcome {K} timeout c (a ∷ earlier) =
    let entry : Noted = record { generation = a.check.generation; moment = first_moment a.check.moment (take_while (goes_on a.check.generation) earlier) } in
    let opened : start_of c (a ∷ earlier) ≡ first_moment c.moment (cond (goes_on c.generation a) (a ∷ take_while (goes_on c.generation) earlier) []) = ap (λ run. first_moment c.moment run) (take_while-cons (goes_on c.generation) a earlier) in
    elim a.answer as (λ b. a.answer ≡ b → watch_step timeout (noted_now c) c.held (noted_by (a ∷ earlier)) ≡ outcome c (is_late timeout (start_of c (a ∷ earlier)) c.moment) (start_of c (a ∷ earlier))) [
      | false ↦ λ h.
          ap (λ b. watch_step timeout (noted_now c) c.held (cond b (Some entry) None)) h
          ∙ begins timeout c (start_of c (a ∷ earlier)) (opened ∙ ap (λ b. first_moment c.moment (cond (b && nat_eq a.check.generation c.generation) (a ∷ take_while (goes_on c.generation) earlier) [])) h)
      | true ↦ λ h.
          let noted : watch_step timeout (noted_now c) c.held (noted_by (a ∷ earlier)) ≡ watch_step timeout (noted_now c) c.held (Some entry) = ap (λ b. watch_step timeout (noted_now c) c.held (cond b (Some entry) None)) h in
          let opens : start_of c (a ∷ earlier) ≡ first_moment c.moment (cond (nat_eq a.check.generation c.generation) (a ∷ take_while (goes_on c.generation) earlier) []) = opened ∙ ap (λ b. first_moment c.moment (cond (b && nat_eq a.check.generation c.generation) (a ∷ take_while (goes_on c.generation) earlier) [])) h in
          let kept : Bool × Option Noted = cond (is_late timeout entry.moment c.moment && c.held) (false, None) (true, Some entry) in
          elim (nat_eq a.check.generation c.generation) as (λ t. nat_eq a.check.generation c.generation ≡ t → watch_step timeout (noted_now c) c.held (noted_by (a ∷ earlier)) ≡ outcome c (is_late timeout (start_of c (a ∷ earlier)) c.moment) (start_of c (a ∷ earlier))) [
            | false ↦ λ t.
                noted ∙ ap (λ b. cond b kept (true, Some (noted_now c))) t
                ∙ begins timeout c (start_of c (a ∷ earlier)) (opens ∙ ap (λ b. first_moment c.moment (cond b (a ∷ take_while (goes_on c.generation) earlier) [])) t)
            | true ↦ λ t.
                let alike : a.check.generation ≡ c.generation = eqb-true a.check.generation c.generation t in
                let start : entry.moment ≡ start_of c (a ∷ earlier) =
                ap (λ g. first_moment a.check.moment (take_while (goes_on g) earlier)) alike
                ∙ sym (opens ∙ ap (λ b. first_moment c.moment (cond b (a ∷ take_while (goes_on c.generation) earlier) [])) t) in
                noted ∙ ap (λ b. cond b kept (true, Some (noted_now c))) t
                ∙ continues timeout c a.check.generation entry.moment alike
                ∙ ap (λ s. outcome c (is_late timeout s c.moment) s) start
          ] refl
    ] refl

-- ---- the whole table

abbrev is_watched : Rules → MetricKind → Bool
is_watched rules kind = is_some rules.timeout && rules.mask kind

-- if notes are kept, the table holds what the checks of the (kind, key) say
abbrev Agrees : {K : Type 0} → (K → K → Bool) → Rules → Table K → List (Answered K) → Type 0
Agrees {K} same rules table earlier = (kind : MetricKind) (key : K) → is_watched rules kind ≡ true → table kind key ≡ noted_by (filter (λ a. is_of same a.check kind key) earlier)

watched-answer : {K : Type 0} (same : K → K → Bool) (rules : Rules) (earlier : List (Answered K)) (c : Check K) → is_watched rules c.kind ≡ true → run_answer same rules earlier c ≡ not (is_late rules.timeout (start_of c (earlier_of same c earlier)) c.moment && c.held)
watched-answer same rules earlier c w =
    ap (λ b. not (b && is_late rules.timeout (start_of c (earlier_of same c earlier)) c.moment && c.held)) ((and_parts (is_some rules.timeout) (rules.mask c.kind) w).1)

unwatched-answer : {K : Type 0} (same : K → K → Bool) (rules : Rules) (earlier : List (Answered K)) (c : Check K) → is_watched rules c.kind ≡ false → run_answer same rules earlier c ≡ true
unwatched-answer same rules earlier c w = go rules.timeout (rules.mask c.kind) (start_of c (earlier_of same c earlier)) w
  where
    go : (timeout : Option ℕ) (mask : Bool) (start : ℕ) → (is_some timeout && mask) ≡ false → not (mask && is_late timeout start c.moment && c.held) ≡ true
    go None true start e = refl
    go None false start e = refl
    go (Some t) true start e = absurd (false≢true (sym e))
    go (Some t) false start e = refl

-- a check, if notes are kept
watched-step : {K : Type 0} (same : K → K → Bool) → IsEquivalence same → (rules : Rules) (table : Table K) (earlier : List (Answered K)) (c : Check K) → Agrees same rules table earlier → is_watched rules c.kind ≡ true → check_step rules c (table c.kind c.key) ≡ outcome c (is_late rules.timeout (start_of c (earlier_of same c earlier)) c.moment) (start_of c (earlier_of same c earlier))
watched-step same laws rules table earlier c agrees w =
    ap (λ b. cond b (watch_step rules.timeout (noted_now c) c.held (table c.kind c.key)) (true, table c.kind c.key)) w
    ∙ ap (watch_step rules.timeout (noted_now c) c.held) (agrees c.kind c.key w)
    ∙ watch-outcome rules.timeout c (earlier_of same c earlier)

answer-agrees : {K : Type 0} (same : K → K → Bool) → IsEquivalence same → (rules : Rules) (table : Table K) (earlier : List (Answered K)) (c : Check K) → Agrees same rules table earlier → table_answer rules c table ≡ run_answer same rules earlier c
answer-agrees same laws rules table earlier c agrees =
    elim (is_watched rules c.kind) as (λ b. is_watched rules c.kind ≡ b → table_answer rules c table ≡ run_answer same rules earlier c) [
      | true ↦ λ w. ap (λ (p : Bool × Option Noted). p.0) (watched-step same laws rules table earlier c agrees w) ∙ sym (watched-answer same rules earlier c w)
      | false ↦ λ w.
          ap (λ b. (cond b (watch_step rules.timeout (noted_now c) c.held (table c.kind c.key)) (true, table c.kind c.key)).0) w
          ∙ sym (unwatched-answer same rules earlier c w)
    ] refl

table-agrees : {K : Type 0} (same : K → K → Bool) → IsEquivalence same → (rules : Rules) (table : Table K) (earlier : List (Answered K)) (c : Check K) → Agrees same rules table earlier → Agrees same rules (table_after same rules c table) (record { check = c; answer = run_answer same rules earlier c } ∷ earlier)
table-agrees {K} same laws rules table earlier c agrees kind key w =
    let now : Answered K = record { check = c; answer = run_answer same rules earlier c } in
    let mine : List (Answered K) = filter (λ a. is_of same a.check kind key) earlier in
    let after : Option Noted = (check_step rules c (table c.kind c.key)).1 in
    elim (is_of same c kind key) as (λ b. is_of same c kind key ≡ b → cond b after (table kind key) ≡ noted_by (cond b (now ∷ mine) mine)) [
      | false ↦ λ e. agrees kind key w
      | true ↦ λ e.
          let kinds : kind ≡ c.kind = sym (kind_eq-same c.kind kind ((and_parts (kind_eq c.kind kind) (same c.key key) e).0)) in
          let here : is_watched rules c.kind ≡ true = subst (λ k. is_watched rules k ≡ true) kinds w in
          let all : mine ≡ earlier_of same c earlier = filter-same (λ a. is_of same a.check kind key) (λ a. is_of same a.check c.kind c.key) (λ a. is_of-like same laws kind key c a.check e) earlier in
          ap (λ (p : Bool × Option Noted). p.1) (watched-step same laws rules table earlier c agrees here)
          ∙ ap (λ b. cond b (Some (record { generation = c.generation; moment = start_of c (earlier_of same c earlier) })) None) (sym (watched-answer same rules earlier c here))
          ∙ ap (λ ms. noted_by (now ∷ ms)) (sym all)
    ] refl

answers-agree : {K : Type 0} (same : K → K → Bool) → IsEquivalence same → (rules : Rules) (table : Table K) (earlier : List (Answered K)) (checks : List (Check K)) → Agrees same rules table earlier → table_answers same rules table checks ≡ run_answers same rules earlier checks
answers-agree same laws rules table earlier [] agrees = refl
answers-agree same laws rules table earlier (c ∷ checks) agrees =
    ap (λ b. b ∷ table_answers same rules (table_after same rules c table) checks) (answer-agrees same laws rules table earlier c agrees)
    ∙ ap (λ bs. run_answer same rules earlier c ∷ bs)
    (answers-agree same laws rules (table_after same rules c table) (record { check = c; answer = run_answer same rules earlier c } ∷ earlier) checks (table-agrees same laws rules table earlier c agrees))

pub table-gives-runs : {K : Type 0} (same : K → K → Bool) → IsEquivalence same → TableGivesRuns same
table-gives-runs same laws rules checks = answers-agree same laws rules new_table [] checks (λ kind key w. refl)
