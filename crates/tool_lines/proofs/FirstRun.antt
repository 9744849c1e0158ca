-- The first run, by computing.
use Rattle.std.proofs.Common.{◌≡◌, ℕ, List, [], ◌∷◌, ◌<◌, zero, suc, codes, IsUtf8, Bool, true, ◌&&◌, nat_lt, length, Some, refl, ap, arith}
use Rattle.std.specs.Str.{IsAscii}
use Rattle.std.proofs.lemmas.Str.{IsUtf8-from_ascii}
use Rattle.std.specs.Fmt.{digits}
use Rattle.std.specs.List.{AllByRecursion}
use Rattle.metrics_names.specs.declared.kind.MetricKind.TheVariants.{Counter}
use Rattle.metrics_names.specs.declared.common.Unit.TheVariants.{Count}
use Rattle.metrics.specs.declared.handles.Update.TheVariants.{Increment}
use Rattle.metrics.specs.declared.calls.Call.{Call}
use Rattle.metrics.specs.declared.calls.Call.TheVariants as call
use Rattle.tool_grammar.specs.Grammar.{IsName, IsLabel, CanBeSpelled}
use Rattle.tool_grammar.proofs.WordsLemmas.{lacks_literal}
use Rattle.tool_trees.specs.declared.tree_line.TreeLine.TheVariants as line
use Rattle.tool_trees.specs.Trees.{Tree, Node, none, more, meaning_of, BeginsWithTree}
use Rattle.tool_stream.specs.Lines.{lines_of}
use Rattle.tool_lines.specs.Output.{Input, BeginsWithCalls, answers_text, printed}
use Rattle.tool_lines.specs.Examples.{first_input, first_output}

abbrev tree : Tree
tree = Node (line.Prefix (codes "app")) (more (Node line.Book none) none)

abbrev calls : List Call
calls =
    call.Describe Counter (codes "hits") (Some Count) (codes "all hits") ∷ call.Register Counter (record { name = codes "hits"; labels = (codes "host", codes "a") ∷ [] })
    ∷ call.Update 0 (Increment 2) ∷ call.Update 0 (Increment 3) ∷ call.Snapshot 0 ∷ call.Snapshot 0 ∷ []

abbrev after_tree : List (List ℕ)
after_tree = codes "describe counter hits count all hits" ∷ codes "register counter hits host=a" ∷ codes "increment 0 2" ∷ codes "increment 0 3" ∷ codes "snapshot 0" ∷ codes "snapshot 0" ∷ []

text_is : answers_text (meaning_of tree) calls ≡ first_output
unfolding digits
text_is = refl

cut : lines_of first_input ≡ codes "book" ∷ (codes "prefix app" ∷ (codes "end" ∷ after_tree))
cut = refl

-- bytes below 128 are a text
abbrev are_ascii : List ℕ → Bool
are_ascii [] = true
are_ascii (x ∷ xs) = nat_lt x 128 && are_ascii xs

both_true : (x : ℕ) (b : Bool) → (nat_lt x 128 && b) ≡ true → (x < 128) × (b ≡ true)
both_true x b h = (grind arith, grind arith)

each_ascii : (bs : List ℕ) → are_ascii bs ≡ true → IsAscii bs
each_ascii [] h i = omega arith
each_ascii (x ∷ xs) h zero = (both_true x (are_ascii xs) h).0
each_ascii (x ∷ xs) h (suc i) = each_ascii xs (both_true x (are_ascii xs) h).1 i

is_text : (bs : List ℕ) → are_ascii bs ≡ true → IsUtf8 bs
is_text bs h = IsUtf8-from_ascii bs (each_ascii bs h)

begins : BeginsWithTree (lines_of first_input) tree after_tree
begins =
    let app : IsName (codes "app") = (is_text (codes "app") refl, lacks_literal 32 (codes "app") refl, λ e. absurd (omega (arith, ap length e))) in
    ((record { spelled = app; number = refl; fits = tt; low = omega arith }, ((record { spelled = tt; number = refl; fits = tt; low = omega arith }, tt), tt)), cut)

hits : IsName (codes "hits")
hits = (is_text (codes "hits") refl, lacks_literal 32 (codes "hits") refl, λ e. absurd (omega (arith, ap length e)))

host : IsLabel (codes "host", codes "a")
host = (is_text (codes "host") refl, is_text (codes "a") refl, lacks_literal 32 (codes "host") refl, lacks_literal 61 (codes "host") refl, lacks_literal 32 (codes "a") refl)

spelled : AllByRecursion CanBeSpelled calls
spelled = ((hits, is_text (codes "all hits") refl), ((hits, (host, tt)), ((omega arith, omega arith), ((omega arith, omega arith), (omega arith, (omega arith, tt))))))

follows : BeginsWithCalls after_tree calls []
unfolding digits
follows = (spelled, refl, tt)

pub first : (i : Input (lines_of first_input)) × (i.rest ≡ []) × (printed i ≡ first_output)
first = (record { tree = tree; calls = calls; after_tree = after_tree; rest = []; tree_first = begins; then_calls = follows }, refl, text_is)
