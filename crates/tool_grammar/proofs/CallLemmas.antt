-- A line spells at most one call.
use Rattle.std.proofs.Common.{if◌then◌else◌, ◌≡◌, ℕ, ◌+◌, ◌*◌, ◌<◌, ◌^◌, List, [], ◌∷◌, ◌++◌, codes, decimal, Option, Some, None, ℤ, pos, negsuc, FitsSigned, refl, sym, ap, ◌∙◌, get_or, arith}
use lib.Signed.{mag}
use Rattle.std.specs.Int.{w64}
use Rattle.std.specs.Str.{bytes_eq}
use Rattle.std.specs.Fmt.{signed_decimal}
use Rattle.std.proofs.lemmas.Fmt.{decimal_injective, signed_decimal_injective}
use Rattle.metrics_names.specs.declared.kind.MetricKind.{MetricKind}
use Rattle.metrics_names.specs.declared.kind.MetricKind.TheVariants.{Counter, Gauge, Histogram}
use Rattle.metrics_names.specs.declared.common.Unit.{Unit as Measure}
use Rattle.metrics_names.specs.declared.common.Unit.TheVariants.{Count, Percent, Seconds, Milliseconds, Microseconds, Nanoseconds, Bytes}
use Rattle.metrics_names.specs.Names.{KeyParts, name_word, label_words, kind_word}
use Rattle.metrics.specs.declared.handles.Update.{Update}
use Rattle.metrics.specs.declared.handles.Update.TheVariants.{Increment, Absolute, Add, Subtract, Set, Record}
use Rattle.metrics.specs.declared.debugging.Reset.{Reset}
use Rattle.metrics.specs.declared.calls.Call.{Call}
use Rattle.metrics.specs.declared.calls.Call.TheVariants as call
use Rattle.tool_grammar.specs.Cuts.{Lacks}
use Rattle.tool_grammar.specs.Grammar.{unit_word, update_word, amount_word, IsName, IsLabel, AreLabels, IsInRange, spelling, CanBeSpelled, Spells}
use Rattle.tool_grammar.proofs.WordsLemmas.{before_same, first_same, not_cut, lacks_literal, lacks_kind, lacks_unit, lacks_update, lacks_name, lacks_decimal, lacks_label, starts_labels}

tail_same : (x : ℕ) (a b : List ℕ) → x ∷ a ≡ x ∷ b → a ≡ b
tail_same x a b e = cc

-- ---- words

-- a sum over the second and third byte: it tells words of one sort apart
abbrev mark : List ℕ → ℕ
mark xs = get_or xs 1 0 + 2 * get_or xs 2 0

kind_same : (j k : MetricKind) → kind_word j ≡ kind_word k → j ≡ k
kind_same Counter Counter e = refl
kind_same Gauge Gauge e = refl
kind_same Histogram Histogram e = refl
kind_same j k e = absurd (omega (arith, ap mark e))

-- the unit of a word
abbrev unit_in : List ℕ → Option Measure
unit_in word =
    if bytes_eq word (codes "count") then Some Count
    else if bytes_eq word (codes "percent") then Some Percent
    else if bytes_eq word (codes "seconds") then Some Seconds
    else if bytes_eq word (codes "milliseconds") then Some Milliseconds
    else if bytes_eq word (codes "microseconds") then Some Microseconds
    else if bytes_eq word (codes "nanoseconds") then Some Nanoseconds
    else if bytes_eq word (codes "bytes") then Some Bytes
    else None

unit_read : (u : Option Measure) → unit_in (unit_word u) ≡ u
unit_read (Some Count) = refl
unit_read u = refl

unit_same : (u v : Option Measure) → unit_word u ≡ unit_word v → u ≡ v
unit_same u v e = sym (unit_read u) ∙ ap unit_in e ∙ unit_read v

pub name_same : (p q : List ℕ) → IsName p → IsName q → name_word p ≡ name_word q → p ≡ q
name_same [] [] h g e = refl
name_same [] (x ∷ xs) h g e = absurd (g.2 (sym e))
name_same (x ∷ xs) [] h g e = absurd (h.2 e)
name_same (x ∷ xs) (y ∷ ys) h g e = e

decimal_same : (m n : ℕ) → m < 2 ^ 64 → n < 2 ^ 64 → decimal m ≡ decimal n → m ≡ n
decimal_same m n h g e = decimal_injective m n h g e

small : (z : ℤ) → FitsSigned w64 z → mag z < 2 ^ 63
small (pos n) h = omega (arith, h)
small (negsuc n) h = omega (arith, h)

signed_same : (y z : ℤ) → FitsSigned w64 y → FitsSigned w64 z → signed_decimal y ≡ signed_decimal z → y ≡ z
signed_same y z h g e = signed_decimal_injective y z (small y h) (small z g) e

update_same : (u v : Update) → IsInRange u → IsInRange v → update_word u ≡ update_word v → amount_word u ≡ amount_word v → u ≡ v
update_same (Increment m) (Increment n) h g w e = ap Increment (decimal_same m n h g e)
update_same (Absolute m) (Absolute n) h g w e = ap Absolute (decimal_same m n h g e)
update_same (Add m) (Add n) h g w e = ap Add (signed_same m n h g e)
update_same (Subtract m) (Subtract n) h g w e = ap Subtract (signed_same m n h g e)
update_same (Set m) (Set n) h g w e = ap Set (signed_same m n h g e)
update_same (Record m) (Record n) h g w e = ap Record (signed_same m n h g e)
update_same u v h g w e = absurd (omega (arith, ap mark w))

-- ---- labels

label_same : (l k : List ℕ × List ℕ) → IsLabel l → IsLabel k → l.0 ++ 61 ∷ l.1 ≡ k.0 ++ 61 ∷ k.1 → l ≡ k
label_same l k h g e =
    let both = first_same 61 (l.0 ++ 61 ∷ l.1) l.0 l.1 k.0 k.1 h.3 g.3 refl e in
    ap (λ x. (x, l.1)) both.0 ∙ ap (λ y. (k.0, y)) both.1

labels_same : (ls ks : List (List ℕ × List ℕ)) → AreLabels ls → AreLabels ks → label_words ls ≡ label_words ks → ls ≡ ks
labels_same [] [] h g e = refl
labels_same [] (k ∷ ks) h g e = absurd (cc)
labels_same (l ∷ ls) [] h g e = absurd (cc)
labels_same (l ∷ ls) (k ∷ ks) h g e =
    let tail : (l.0 ++ 61 ∷ l.1) ++ label_words ls ≡ (k.0 ++ 61 ∷ k.1) ++ label_words ks = tail_same 32 _ _ e in
    let both = before_same 32 (l.0 ++ 61 ∷ l.1) (k.0 ++ 61 ∷ k.1) (label_words ls) (label_words ks) (lacks_label l h.0) (lacks_label k g.0) (starts_labels ls) (starts_labels ks) tail in
    ap (λ z. z ∷ ls) (label_same l k h.0 g.0 both.0) ∙ ap (λ zs. k ∷ zs) (labels_same ls ks h.1 g.1 both.1)

-- ---- lines, by their first word and what follows its space

abbrev call_word : Call → List ℕ
call_word (call.Describe kind name unit text) = codes "describe"
call_word (call.Register kind key) = codes "register"
call_word (call.Update h u) = update_word u
call_word (call.Snapshot b) = codes "snapshot"
call_word (call.SnapshotWith b reset) = codes "snapshot"

abbrev call_rest : Call → List ℕ
call_rest (call.Describe kind name unit text) = kind_word kind ++ 32 ∷ (name_word name ++ 32 ∷ (unit_word unit ++ 32 ∷ text))
call_rest (call.Register kind key) = kind_word kind ++ 32 ∷ (name_word key.name ++ label_words key.labels)
call_rest (call.Update h u) = decimal h ++ 32 ∷ amount_word u
call_rest (call.Snapshot b) = decimal b
call_rest (call.SnapshotWith b reset) = decimal b ++ 32 ∷ codes "keep"

cut : (c : Call) → spelling c ≡ call_word c ++ 32 ∷ call_rest c
cut (call.Describe kind name unit text) = refl
cut (call.Register kind key) = refl
cut (call.Update h u) = refl
cut (call.Snapshot b) = refl
cut (call.SnapshotWith b reset) = refl

lacks_call : (c : Call) → Lacks 32 (call_word c)
lacks_call (call.Describe kind name unit text) = lacks_literal 32 (codes "describe") refl
lacks_call (call.Register kind key) = lacks_literal 32 (codes "register") refl
lacks_call (call.Update h u) = lacks_update u
lacks_call (call.Snapshot b) = lacks_literal 32 (codes "snapshot") refl
lacks_call (call.SnapshotWith b reset) = lacks_literal 32 (codes "snapshot") refl

no_describe : (u : Update) → update_word u ≡ codes "describe" → ⊥
no_describe (Increment n) e = absurd (omega (arith, ap mark e))
no_describe u e = absurd (omega (arith, ap mark e))

no_register : (u : Update) → update_word u ≡ codes "register" → ⊥
no_register (Increment n) e = absurd (omega (arith, ap mark e))
no_register u e = absurd (omega (arith, ap mark e))

no_snapshot : (u : Update) → update_word u ≡ codes "snapshot" → ⊥
no_snapshot (Increment n) e = absurd (omega (arith, ap mark e))
no_snapshot u e = absurd (omega (arith, ap mark e))

describe_same : (j k : MetricKind) (m n : List ℕ) (u v : Option Measure) (s t : List ℕ) → CanBeSpelled (call.Describe j m u s) → CanBeSpelled (call.Describe k n v t)
    → call_rest (call.Describe j m u s) ≡ call_rest (call.Describe k n v t) → call.Describe j m u s ≡ call.Describe k n v t
describe_same j k m n u v s t h g e =
    let kinds = first_same 32 _ (kind_word j) (name_word m ++ 32 ∷ (unit_word u ++ 32 ∷ s)) (kind_word k) (name_word n ++ 32 ∷ (unit_word v ++ 32 ∷ t)) (lacks_kind j) (lacks_kind k) refl e in
    let names = first_same 32 _ (name_word m) (unit_word u ++ 32 ∷ s) (name_word n) (unit_word v ++ 32 ∷ t) (lacks_name m h.0) (lacks_name n g.0) refl kinds.1 in
    let units = first_same 32 _ (unit_word u) s (unit_word v) t (lacks_unit u) (lacks_unit v) refl names.1 in
    ap (λ x. call.Describe x m u s) (kind_same j k kinds.0) ∙ ap (λ x. call.Describe k x u s) (name_same m n h.0 g.0 names.0)
    ∙ ap (λ x. call.Describe k n x s) (unit_same u v units.0) ∙ ap (λ x. call.Describe k n v x) units.1

key_is : (a b : KeyParts) → a.name ≡ b.name → a.labels ≡ b.labels → a ≡ b
key_is a b e f = ap (λ n. record { name = n; labels = a.labels }) e ∙ ap (λ ls. record { name = b.name; labels = ls }) f

register_same : (j k : MetricKind) (a b : KeyParts) → CanBeSpelled (call.Register j a) → CanBeSpelled (call.Register k b)
    → call_rest (call.Register j a) ≡ call_rest (call.Register k b) → call.Register j a ≡ call.Register k b
register_same j k a b h g e =
    let kinds = first_same 32 _ (kind_word j) (name_word a.name ++ label_words a.labels) (kind_word k) (name_word b.name ++ label_words b.labels) (lacks_kind j) (lacks_kind k) refl e in
    let names = before_same 32 (name_word a.name) (name_word b.name) (label_words a.labels) (label_words b.labels) (lacks_name a.name h.0) (lacks_name b.name g.0) (starts_labels a.labels) (starts_labels b.labels) kinds.1 in
    ap (λ x. call.Register x a) (kind_same j k kinds.0) ∙ ap (λ x. call.Register k x) (key_is a b (name_same a.name b.name h.0 g.0 names.0) (labels_same a.labels b.labels h.1 g.1 names.1))

update_call_same : (m n : ℕ) (u v : Update) → CanBeSpelled (call.Update m u) → CanBeSpelled (call.Update n v) → update_word u ≡ update_word v
    → call_rest (call.Update m u) ≡ call_rest (call.Update n v) → call.Update m u ≡ call.Update n v
update_call_same m n u v h g w e =
    let both = first_same 32 _ (decimal m) (amount_word u) (decimal n) (amount_word v) (lacks_decimal m h.0) (lacks_decimal n g.0) refl e in
    ap (λ x. call.Update x u) (decimal_same m n h.0 g.0 both.0) ∙ ap (λ x. call.Update n x) (update_same u v h.1 g.1 w both.1)

keep_same : (m n : ℕ) (r s : Reset) → CanBeSpelled (call.SnapshotWith m r) → CanBeSpelled (call.SnapshotWith n s)
    → call_rest (call.SnapshotWith m r) ≡ call_rest (call.SnapshotWith n s) → call.SnapshotWith m r ≡ call.SnapshotWith n s
keep_same m n r s h g e =
    let both = first_same 32 _ (decimal m) (codes "keep") (decimal n) (codes "keep") (lacks_decimal m h.0) (lacks_decimal n g.0) refl e in
    ap (λ x. call.SnapshotWith x r) (decimal_same m n h.0 g.0 both.0) ∙ ap (λ x. call.SnapshotWith n x) (h.1 ∙ sym g.1)

-- a snapshot without `keep` has one word after it
not_kept : (m n : ℕ) → m < 2 ^ 64 → decimal m ≡ decimal n ++ 32 ∷ codes "keep" → ⊥
not_kept m n h e = not_cut 32 (decimal m) (decimal n) (codes "keep") (lacks_decimal m h) e

parts_same : (c d : Call) → CanBeSpelled c → CanBeSpelled d → call_word c ≡ call_word d → call_rest c ≡ call_rest d → c ≡ d
parts_same (call.Describe j m u s) (call.Describe k n v t) h g w e = describe_same j k m n u v s t h g e
parts_same (call.Describe j m u s) (call.Update n v) h g w e = absurd (no_describe v (sym w))
parts_same (call.Register j a) (call.Register k b) h g w e = register_same j k a b h g e
parts_same (call.Register j a) (call.Update n v) h g w e = absurd (no_register v (sym w))
parts_same (call.Update m u) (call.Describe k n v t) h g w e = absurd (no_describe u w)
parts_same (call.Update m u) (call.Register k b) h g w e = absurd (no_register u w)
parts_same (call.Update m u) (call.Update n v) h g w e = update_call_same m n u v h g w e
parts_same (call.Update m u) d h g w e = absurd (no_snapshot u w)
parts_same (call.Snapshot m) (call.Snapshot n) h g w e = ap call.Snapshot (decimal_same m n h g e)
parts_same (call.Snapshot m) (call.SnapshotWith n q) h g w e = absurd (not_kept m n h e)
parts_same (call.SnapshotWith m r) (call.Snapshot n) h g w e = absurd (not_kept n m g (sym e))
parts_same (call.SnapshotWith m r) (call.SnapshotWith n q) h g w e = keep_same m n r q h g e
parts_same c (call.Update n v) h g w e = absurd (no_snapshot v (sym w))
parts_same c d h g w e = absurd (omega (arith, ap mark w))

pub call_same : (line : List ℕ) (c d : Call) → Spells line c → Spells line d → c ≡ d
call_same line c d h g =
    let both = first_same 32 line (call_word c) (call_rest c) (call_word d) (call_rest d) (lacks_call c) (lacks_call d) (h.1 ∙ cut c) (g.1 ∙ cut d) in
    parts_same c d h.0 g.0 both.0 both.1
