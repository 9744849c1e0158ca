-- Bytes are one state at most.
use Rattle.std.proofs.Common.{◌≡◌, ◌∙◌, ℕ, ◌<◌, ◌^◌, List, [], ◌∷◌, ◌++◌, length, drop, codes, decimal, Option, None, Some, bytes_eq, refl, ap, sym, subst}
use Rattle.std.specs.Prelude.{if◌then◌else◌}
use Rattle.std.specs.List.{AllByRecursion}
use Rattle.std.proofs.lemmas.Fmt.{decimal_injective}
use Rattle.std.proofs.lemmas.List.{append_cancel_left}
use Rattle.metrics_names.specs.declared.common.Unit.{Unit as Measure}
use Rattle.metrics_names.specs.declared.common.Unit.TheVariants.{Count, Percent, Seconds, Milliseconds, Microseconds, Nanoseconds, Bytes}
use Rattle.tool_grammar.specs.Grammar.{unit_word}
use Rattle.tool_grammar.proofs.WordsLemmas.{first_same, lacks_decimal, lacks_unit}
use Rattle.tool_requests.specs.Lines.{Spells}
use Rattle.tool_requests.proofs.OneLemmas.{request_same}
use Rattle.tool_state.specs.State.{Entry, plain, IsLine, StateLine, IsLineOf, lines_text, state_text, entries_of, IsState}

-- the unit of a word
abbrev unit_in : List ℕ → Option Measure
unit_in word =
    if bytes_eq word (codes "count") then Some Count
    else if bytes_eq word (codes "percent") then Some Percent
    else if bytes_eq word (codes "seconds") then Some Seconds
    else if bytes_eq word (codes "milliseconds") then Some Milliseconds
    else if bytes_eq word (codes "microseconds") then Some Microseconds
    else if bytes_eq word (codes "nanoseconds") then Some Nanoseconds
    else if bytes_eq word (codes "bytes") then Some Bytes
    else None

unit-read : (u : Option Measure) → unit_in (unit_word u) ≡ u
unit-read (Some Count) = refl
unit-read u = refl

unit-same : (u v : Option Measure) → unit_word u ≡ unit_word v → u ≡ v
unit-same u v e = sym (unit-read u) ∙ ap unit_in e ∙ unit-read v

entry-same : (line : List ℕ) (e f : Entry) → IsLine line e → IsLine line f → e ≡ f
entry-same line (m, u, q) (n, v, r) (la, ms, (x, ex, sx)) (lb, ns, (y, ey, sy)) =
    let both = first_same 32 line (decimal m) (unit_word u ++ 32 ∷ x) (decimal n) (unit_word v ++ 32 ∷ y) (lacks_decimal m ms) (lacks_decimal n ns) ex ey in
    let later = first_same 32 (unit_word u ++ 32 ∷ x) (unit_word u) x (unit_word v) y (lacks_unit u) (lacks_unit v) refl both.1 in
    let numbers : m ≡ n = decimal_injective m n ms ns both.0 in
    let units : u ≡ v = unit-same u v later.0 in
    let requests : q ≡ r = request_same plain y q r (subst (λ z. Spells plain z q) later.1 sx) sy in
    λ i. (numbers i, units i, requests i)

no-line : (line rest : List ℕ) → [] ≡ line ++ 10 ∷ rest → ⊥
no-line [] rest e = absurd (cc)
no-line (x ∷ line) rest e = absurd (cc)

lines-same : (a b : List StateLine) → AllByRecursion IsLineOf a → AllByRecursion IsLineOf b → lines_text a ≡ lines_text b → a ≡ b
lines-same [] [] h g e = refl
lines-same [] (k ∷ b) h g e = absurd (no-line k.0 (lines_text b) e)
lines-same (l ∷ a) [] h g e = absurd (no-line l.0 (lines_text a) (sym e))
lines-same (l ∷ a) (k ∷ b) h g e =
    let both = first_same 10 (l.0 ++ 10 ∷ lines_text a) l.0 (lines_text a) k.0 (lines_text b) h.0.0 g.0.0 refl e in
    let says : l.1 ≡ k.1 = entry-same k.0 l.1 k.1 (subst (λ z. IsLine z l.1) both.0 h.0) g.0 in
    let rest : a ≡ b = lines-same a b h.1 g.1 both.1 in
    λ i. (both.0 i, says i) ∷ rest i

text-same : (title : List ℕ) (a b : List StateLine) → length a < 2 ^ 64 → length b < 2 ^ 64 → state_text title a ≡ state_text title b → lines_text a ≡ lines_text b
text-same title a b small few e =
    let tail = ap (drop 1) (append_cancel_left title _ _ e) in
    let both = first_same 32 (decimal (length a) ++ 32 ∷ (codes "lines\n" ++ lines_text a)) (decimal (length a)) (codes "lines\n" ++ lines_text a) (decimal (length b)) (codes "lines\n" ++ lines_text b)
    (lacks_decimal (length a) small) (lacks_decimal (length b) few) refl tail in
    ap (drop 6) both.1

-- a text says one thing
pub state-same : (title bytes : List ℕ) (x y : List Entry) → IsState title bytes x → IsState title bytes y → x ≡ y
state-same title bytes x y (a, are, small, is, says) (b, were, few, was, said) =
    says ∙ ap entries_of (lines-same a b are were (text-same title a b small few (sym is ∙ was))) ∙ sym said
