-- Answers to the first calls begin answers to all of them.
use Rattle.std.proofs.Common.{◌≡◌, ℕ, nat_lt, List, [], ◌∷◌, ◌++◌, length, map, inl, inr, Bool, true, false, if◌then◌else◌, Option, Some, None, refl, sym, ap, subst, ◌∙◌, append_assoc, append-nil}
use Rattle.std.specs.List.{AllByRecursion}
use Rattle.std.proofs.lemmas.List.{map-append}
use Rattle.metrics.specs.declared.handles.Update.{Update}
use Rattle.metrics.specs.declared.calls.Call.{Call}
use Rattle.metrics.specs.declared.calls.Call.TheVariants as call
use Rattle.metrics.specs.declared.calls.Answer.{Answer}
use Rattle.metrics_names.specs.declared.refused.Refused.TheVariants.{NoSuchBook, BadHandle}
use Rattle.metrics.specs.Book.{snapshot_of}
use Rattle.metrics.specs.Meaning.{Meaning, Targets}
use Rattle.metrics.specs.History.{Log, Registration, registration, is_handle, reached, content_after, plain_update, plain_snapshot, plain_answer, MayMeetMemory, IsOrMeets, IsPlain, ArePlainFrom}
use Rattle.tool_grammar.specs.Grammar.{spelling, CanBeSpelled}
use Rattle.tool_grammar.specs.Printing.{text_of, registers_in, print_from, print}
use Rattle.tool_grammar.proofs.CallLemmas.{call_same}
use Rattle.tool_trees.specs.Trees.{meaning_of}
use Rattle.tool_trees.proofs.OneListAtMost.{one_tree}
use Rattle.tool_lines.specs.Output.{IsStop, Input, IsAnswered, AnswersPart}
use Rattle.tool_lines.proofs.OutputLemmas.{tail_lines, answered}

-- calls that lines begin with are the first of all that they spell
first_calls : (cs ds : List Call) (p q : List (List ℕ)) → AllByRecursion CanBeSpelled cs → AllByRecursion CanBeSpelled ds → IsStop q → map spelling cs ++ p ≡ map spelling ds ++ q → (others : List Call) × (ds ≡ cs ++ others)
first_calls [] ds p q h g s e = (ds, refl)
first_calls (c ∷ cs) [] p q h g s e = absurd (subst IsStop (sym e) s c (h.0, refl))
first_calls (c ∷ cs) (d ∷ ds) p q h g s e =
    let parts = tail_lines (spelling c) (spelling d) (map spelling cs ++ p) (map spelling ds ++ q) e in
    let (others, rest) = first_calls cs ds p q h.1 g.1 s parts.1 in
    (others, ap (λ z. z ∷ ds) (sym (call_same (spelling c) c d (h.0, refl) (g.0, parts.0))) ∙ ap (λ zs. c ∷ zs) rest)

-- ---- the expected answers to the other calls

either_plain : (b : Bool) (x y : Answer) (May : ℕ → Type 0) → IsOrMeets x May x → IsOrMeets y May y → IsOrMeets (if b then x else y) May (if b then x else y)
either_plain true x y May h g = h
either_plain false x y May h g = g

module _ (targets : Targets) (books : ℕ) where
  update_plain : (u : Update) (May : ℕ → Type 0) (o : Option Registration) → IsOrMeets (plain_update targets u o) May (plain_update targets u o)
  update_plain u May None = refl
  update_plain u May (Some r) = either_plain (is_handle u r) (Answer.Updated (length (targets r.kind r.key.name))) (Answer.Refused BadHandle) May refl refl

  snapshot_plain : (before : Log) (b : ℕ) (May : ℕ → Type 0) → IsOrMeets (plain_snapshot targets books before b) May (plain_snapshot targets books before b)
  snapshot_plain before b May = either_plain (nat_lt b books) (Answer.Snapshot (snapshot_of (content_after (reached targets b before)))) (Answer.Refused NoSuchBook) May refl refl

  -- the expected answer is an expected one
  is_plain : (before : Log) (c : Call) → IsPlain targets books before c (plain_answer targets books before c)
  is_plain before (call.Describe kind name unit text) = refl
  is_plain before (call.Register kind key) = refl
  is_plain before (call.Update n u) = update_plain u (MayMeetMemory targets books before (call.Update n u)) (registration n before)
  is_plain before (call.Snapshot b) = snapshot_plain before b (MayMeetMemory targets books before (call.Snapshot b))
  is_plain before (call.SnapshotWith b reset) = snapshot_plain before b (MayMeetMemory targets books before (call.SnapshotWith b reset))

  abbrev plainly : Log → List Call → Log
  plainly before [] = []
  plainly before (c ∷ cs) = (c, plain_answer targets books before c) ∷ plainly (before ++ (c, plain_answer targets books before c) ∷ []) cs

  plainly_calls : (before : Log) (cs : List Call) → map (λ e. e.0) (plainly before cs) ≡ cs
  plainly_calls before [] = refl
  plainly_calls before (c ∷ cs) = ap (λ zs. c ∷ zs) (plainly_calls (before ++ (c, plain_answer targets books before c) ∷ []) cs)

  plainly_plain : (before : Log) (cs : List Call) → ArePlainFrom targets books before (plainly before cs)
  plainly_plain before [] = tt
  plainly_plain before (c ∷ cs) = (is_plain before c, plainly_plain (before ++ (c, plain_answer targets books before c) ∷ []) cs)

  -- expected answers after expected answers
  plain_append : (before log more : Log) → ArePlainFrom targets books before log → ArePlainFrom targets books (before ++ log) more → ArePlainFrom targets books before (log ++ more)
  plain_append before [] more h g = subst (λ b. ArePlainFrom targets books b more) (append-nil before) g
  plain_append before (e ∷ log) more h g = (h.0, plain_append (before ++ e ∷ []) log more h.1 (subst (λ b. ArePlainFrom targets books b more) (sym (append_assoc before (e ∷ []) log)) g))

print_append : (before log more : Log) → print_from before (log ++ more) ≡ print_from before log ++ print_from (before ++ log) more
print_append before [] more = ap (λ b. print_from b more) (sym (append-nil before))
print_append before (e ∷ log) more =
    let here = text_of (registers_in before) e.0 e.1 in
    ap (λ t. here ++ t) (print_append (before ++ e ∷ []) log more ∙ ap (λ b. print_from (before ++ e ∷ []) log ++ print_from b more) (append_assoc before (e ∷ []) log))
    ∙ sym (append_assoc here (print_from (before ++ e ∷ []) log) (print_from (before ++ e ∷ log) more))

-- answers to calls, and then the expected ones to others
extended : (m : Meaning) (calls others : List Call) (text : List ℕ) → IsAnswered m calls text → (more : List ℕ) × IsAnswered m (calls ++ others) (text ++ more)
extended m calls others text h =
    let books = length m.contents in
    let rest = plainly m.targets books h.log others in
    let all = plain_append m.targets books [] h.log rest h.plain (plainly_plain m.targets books h.log others) in
    let is : text ++ print_from h.log rest ≡ print (h.log ++ rest) = ap (λ t. t ++ print_from h.log rest) h.prints ∙ sym (print_append [] h.log rest) in
    let each : map (λ e. e.0) (h.log ++ rest) ≡ calls ++ others = map-append (λ e. e.0) h.log rest ∙ ap (λ cs. cs ++ map (λ e. e.0) rest) h.each ∙ ap (λ cs. calls ++ cs) (plainly_calls m.targets books h.log others) in
    (print_from h.log rest, subst (λ cs. IsAnswered m cs (text ++ print_from h.log rest)) each (answered m (h.log ++ rest) (text ++ print_from h.log rest) all is))

-- ---- of an input

pub begins_whole : (ls : List (List ℕ)) (text : List ℕ) → AnswersPart ls (λ w. w ≡ text) → (i : Input ls) → (more : List ℕ) × IsAnswered (meaning_of i.tree) i.calls (text ++ more)
begins_whole ls text (inl none) i =
    let m = meaning_of i.tree in
    let (more, all) = extended m [] i.calls [] (answered m [] [] tt refl) in
    (more, subst (λ t. IsAnswered m i.calls (t ++ more)) none all)
begins_whole ls text (inr (tree, after_tree, first, (front, more, (calls, rest, spelled, lines, ans), same))) i =
    let trees = one_tree ls tree i.tree after_tree i.after_tree first i.tree_first in
    let (others, e) = first_calls calls i.calls rest i.rest spelled i.then_calls.0 i.then_calls.2 (sym lines ∙ trees.1 ∙ i.then_calls.1) in
    let (end, all) = extended (meaning_of tree) calls others (front ++ more) ans in
    let whole = subst (λ cs. IsAnswered (meaning_of tree) cs ((front ++ more) ++ end)) (sym e) all in
    let of_tree = subst (λ t. IsAnswered (meaning_of t) i.calls ((front ++ more) ++ end)) trees.0 whole in
    (more ++ end, subst (λ k. IsAnswered (meaning_of i.tree) i.calls k) (append_assoc front more end ∙ ap (λ k. k ++ (more ++ end)) same) of_tree)
