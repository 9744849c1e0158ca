-- What is written for what is read.
use Rattle.std.proofs.Common.{◌≡◌, ◌≢◌, ℕ, List, [], ◌∷◌, ◌++◌, inl, inr, length, map, codes, decimal, Option, Some, None, IfSome, OnSome, OnOk, Result, Ok, Err, refl, sym, ap, subst, ◌∙◌, arith, append_assoc, append-nil, length-append}
use Rattle.std.specs.List.{AllByRecursion}
use Rattle.std.specs.Io.KnownBytes.{Consumes, Appends, Keeps, IsAtEnd}
use Rattle.std.proofs.KnownBytes.{Appends-nil, Appends-kept}
use Rattle.std.proofs.lemmas.List.{append_cancel_right}
use Rattle.metrics_names.specs.declared.refused.Refused.{Refused}
use Rattle.metrics_names.specs.declared.refused.Refused.TheVariants as refused
use Rattle.metrics.specs.declared.calls.Call.{Call}
use Rattle.metrics.specs.declared.calls.Answer.{Answer}
use Rattle.metrics.specs.declared.calls.Answer.TheVariants as answer
use Rattle.metrics.specs.Book.{RowParts}
use Rattle.metrics.specs.Meaning.{Meaning, Targets, AreNew}
use Rattle.metrics.specs.History.{Log, IsOrMeets, MayMeetMemory, plain_answer, ArePlainFrom, ArePlain, plain_log_from}
use Rattle.tool_grammar.specs.Grammar.{unit_word, spelling, CanBeSpelled, IsBad}
use Rattle.metrics_names.specs.Names.{name_word, label_words, kind_word}
use Rattle.tool_grammar.specs.Printing.{value_text, note_text, row_text, rows_text, book_of, refusal_text_of, text_of, registers_in, print_from, print}
use Rattle.tool_grammar.specs.declared.error.RunError.{RunError}
use Rattle.tool_grammar.specs.declared.error.RunError.TheVariants.{Memory, BadLine, Device}
use Rattle.std.proofs.lemmas.List.Elements.{recursion_from_All}
use Rattle.tool_grammar.proofs.WordsLemmas.{lacks_literal}
use Rattle.tool_grammar.proofs.CallLemmas.{call_same}
use Rattle.tool_trees.specs.declared.tree_line.TreeLine.TheVariants as line
use Rattle.tool_trees.specs.Words.{spelling as tree_spelling}
use Rattle.tool_trees.specs.Trees.{Tree, Node, none, tree_lines, meaning_of, IsAllowed, BeginsWithTree, NoTree}
use Rattle.tool_trees.proofs.OneListAtMost.{one_tree}
use Rattle.tool_stream.specs.Lines.{lines_of, unlines}
use Rattle.tool_stream.specs.Answering.{AreFirst, IsFlushed}
use Rattle.tool_lines.specs.Running.{AreSpelled, AreMade, PrintsAnswers}
use Rattle.tool_lines.specs.TreeReading.{AreRead, BuildsTree, RefusesTree}
use Rattle.tool_lines.specs.Output.{IsStop, BeginsWithCalls, Input, answers_text, printed, LacksWant, IsAnswered, AnswersFront, AnswersCalls, AnswersAll, AnswersFirst, AnswersPart, RunsKnown, Prints}
use Rattle.tool_lines.specs.Requests.{Begins}
use Rattle.tool_stream.proofs.LinesLemmas.{lines-cut, lines-front}
use Rattle.tool_stream.proofs.Loop.{unlines_push}
use Rattle.tool_lines.proofs.LogLemmas.{made_none, are_made}
use Rattle.tool_lines.proofs.Loop.{Finished}
use Rattle.tool_lines.proofs.TreesLemmas.{means_new}

-- ---- one input at most

pub tail_lines : (x y : List ℕ) (a b : List (List ℕ)) → x ∷ a ≡ y ∷ b → (x ≡ y) × (a ≡ b)
tail_lines x y a b e = (cc, cc)

calls_same : (cs ds : List Call) (p q : List (List ℕ)) → AllByRecursion CanBeSpelled cs → AllByRecursion CanBeSpelled ds → IsStop p → IsStop q → map spelling cs ++ p ≡ map spelling ds ++ q → (cs ≡ ds) × (p ≡ q)
calls_same [] [] p q h g s t e = (refl, e)
calls_same [] (d ∷ ds) p q h g s t e = absurd (subst IsStop e s d (g.0, refl))
calls_same (c ∷ cs) [] p q h g s t e = absurd (subst IsStop (sym e) t c (h.0, refl))
calls_same (c ∷ cs) (d ∷ ds) p q h g s t e =
    let parts = tail_lines (spelling c) (spelling d) (map spelling cs ++ p) (map spelling ds ++ q) e in
    let rest = calls_same cs ds p q h.1 g.1 s t parts.1 in
    (ap (λ z. z ∷ cs) (call_same (spelling c) c d (h.0, refl) (g.0, parts.0)) ∙ ap (λ zs. d ∷ zs) rest.0, rest.1)

pub input_same : (ls : List (List ℕ)) (i j : Input ls) → (i.tree ≡ j.tree) × (i.calls ≡ j.calls) × (i.rest ≡ j.rest)
input_same ls i j =
    let trees = one_tree ls i.tree j.tree i.after_tree j.after_tree i.tree_first j.tree_first in
    let lines : map spelling i.calls ++ i.rest ≡ map spelling j.calls ++ j.rest = sym i.then_calls.1 ∙ trees.1 ∙ j.then_calls.1 in
    let calls = calls_same i.calls j.calls i.rest j.rest i.then_calls.0 j.then_calls.0 i.then_calls.2 j.then_calls.2 lines in
    (trees.0, calls.0, calls.1)

pub printed_same : (ls : List (List ℕ)) (i j : Input ls) → printed i ≡ printed j
printed_same ls i j =
    let same = input_same ls i j in
    ap (λ t. answers_text (meaning_of t) i.calls) same.0 ∙ ap (answers_text (meaning_of j.tree)) same.1

pub one_text : (ls : List (List ℕ)) (a b : List ℕ) → Prints ls a → Prints ls b → a ≡ b
one_text ls a b (inl (i, e)) (inl (j, f)) = e ∙ printed_same ls i j ∙ sym f
one_text ls a b (inl (i, e)) (inr (fails, f)) = absurd (fails i.tree i.after_tree i.tree_first)
one_text ls a b (inr (fails, e)) (inl (j, f)) = absurd (fails j.tree j.after_tree j.tree_first)
one_text ls a b (inr (fails, e)) (inr (other, f)) = e ∙ sym f

-- ---- texts of answers

-- each ends in a line feed
abbrev EndsLine : List ℕ → Type 0
EndsLine xs = (body : List ℕ) × (xs ≡ body ++ 10 ∷ [])

ends_behind : (xs ys : List ℕ) → EndsLine ys → EndsLine (xs ++ ys)
ends_behind xs ys (body, e) = (xs ++ body, ap (λ k. xs ++ k) e ∙ sym (append_assoc xs body (10 ∷ [])))

ends_more : (x : ℕ) (ys : List ℕ) → EndsLine ys → EndsLine (x ∷ ys)
ends_more x ys (body, e) = (x ∷ body, ap (λ k. x ∷ k) e)

ends_feed : EndsLine (10 ∷ [])
ends_feed = ([], refl)

row_ends : (r : RowParts) → EndsLine (row_text r)
row_ends r =
    ends_behind (kind_word r.0.kind) _ (ends_more 32 _ (ends_behind (name_word r.0.key.name) _ (ends_behind (label_words r.0.key.labels) _
    (ends_behind (codes " unit ") _ (ends_behind (unit_word r.1) _ (ends_behind (codes " value ") _ (ends_behind (value_text r.3) _ (ends_behind (note_text r.2) _ ends_feed))))))))

rows_end : (xs : List ℕ) (rows : List RowParts) → EndsLine xs → EndsLine (xs ++ rows_text rows)
rows_end xs [] h = subst EndsLine (sym (append-nil xs)) h
rows_end xs (r ∷ rows) h = subst EndsLine (append_assoc xs (row_text r) (rows_text rows)) (rows_end (xs ++ row_text r) rows (ends_behind xs (row_text r) (row_ends r)))

refusal_ends : (e : Refused) → EndsLine (refusal_text_of e)
refusal_ends (refused.Memory n) = ends_behind (codes "refused E1 memory, acted ") _ (ends_behind (decimal n) _ ends_feed)
refusal_ends refused.NoSuchAddress = (codes "refused E2 no such address", refl)
refusal_ends refused.NoSuchBook = (codes "refused E3 no such book", refl)
refusal_ends refused.BadHandle = (codes "refused E18 bad handle", refl)

text_ends : (n : ℕ) (c : Call) (a : Answer) → EndsLine (text_of n c a)
text_ends n c (answer.Described k) = ends_behind (codes "described ") _ (ends_behind (decimal k) _ ends_feed)
text_ends n c (answer.Registered found) = ends_behind (codes "registered ") _ (ends_behind (decimal n) _ (ends_more 32 _ (ends_behind (decimal (length found)) _ ends_feed)))
text_ends n c (answer.Updated k) = ends_behind (codes "updated ") _ (ends_behind (decimal k) _ ends_feed)
text_ends n c (answer.Snapshot taken) = ends_behind (codes "snapshot ") _ (ends_behind (decimal (book_of c)) _ (ends_more 32 _ (ends_behind (decimal (length taken.rows)) _ (rows_end (10 ∷ []) taken.rows ends_feed))))
text_ends n c (answer.Refused e) = refusal_ends e

-- ---- texts without out of memory

module _ (P : List ℕ → Type 0) where
  all_left : (a b : List (List ℕ)) → AllByRecursion P (a ++ b) → AllByRecursion P a
  all_left [] b h = tt
  all_left (x ∷ a) b h = (h.0, all_left a b h.1)

  all_right : (a b : List (List ℕ)) → AllByRecursion P (a ++ b) → AllByRecursion P b
  all_right [] b h = h
  all_right (x ∷ a) b h = all_right a b h.1

want_parts : (a b : List ℕ) → EndsLine a → LacksWant (a ++ b) → LacksWant a × LacksWant b
want_parts a b (body, e) w =
    let lines : lines_of (a ++ b) ≡ lines_of a ++ lines_of b =
    ap lines_of (ap (λ k. k ++ b) e ∙ append_assoc body (10 ∷ []) b) ∙ lines-cut body b ∙ ap (λ k. lines_of k ++ lines_of b) (sym e) in
    let all = subst (AllByRecursion (λ l. (more : List ℕ) → l ≡ codes "refused E1 memory" ++ more → ⊥)) lines w in
    (all_left _ (lines_of a) (lines_of b) all, all_right _ (lines_of a) (lines_of b) all)

tells_want : (more : List ℕ) → LacksWant (codes "refused E1 memory" ++ more) → ⊥
tells_want more w =
    let feedless : AllByRecursion (λ x. x ≢ 10) (codes "refused E1 memory") = recursion_from_All (λ x. x ≢ 10) (codes "refused E1 memory") (lacks_literal 10 (codes "refused E1 memory") refl) in
    let (l, ls, e) = lines-front (codes "refused E1 memory") more feedless (omega arith) in
    (subst (AllByRecursion (λ l. (more : List ℕ) → l ≡ codes "refused E1 memory" ++ more → ⊥)) e w).0 l refl

-- an answer whose text doesn't report out of memory is the expected one
plain_of : (plain : Answer) (May : ℕ → Type 0) (n : ℕ) (c : Call) (a : Answer) → IsOrMeets plain May a → LacksWant (text_of n c a) → a ≡ plain
plain_of plain May n c (answer.Refused (refused.Memory k)) h w = absurd (tells_want (codes ", acted " ++ (decimal k ++ 10 ∷ [])) w)
plain_of plain May n c (answer.Refused refused.NoSuchAddress) h w = h
plain_of plain May n c (answer.Refused refused.NoSuchBook) h w = h
plain_of plain May n c (answer.Refused refused.BadHandle) h w = h
plain_of plain May n c (answer.Described k) h w = h
plain_of plain May n c (answer.Registered found) h w = h
plain_of plain May n c (answer.Updated k) h w = h
plain_of plain May n c (answer.Snapshot rows) h w = h

module _ (targets : Targets) (books : ℕ) where
  plain_exact : (before log : Log) → ArePlainFrom targets books before log → LacksWant (print_from before log) → plain_log_from targets books before (map (λ e. e.0) log) ≡ before ++ log
  plain_exact before [] h w = sym (append-nil before)
  plain_exact before (e ∷ log) h w =
      let parts = want_parts (text_of (registers_in before) e.0 e.1) (print_from (before ++ e ∷ []) log) (text_ends (registers_in before) e.0 e.1) w in
      let is : e.1 ≡ plain_answer targets books before e.0 = plain_of _ (MayMeetMemory targets books before e.0) (registers_in before) e.0 e.1 h.0 parts.0 in
      ap (λ a. plain_log_from targets books (before ++ (e.0, a) ∷ []) (map (λ x. x.0) log)) (sym is) ∙ plain_exact (before ++ e ∷ []) log h.1 parts.1 ∙ append_assoc before (e ∷ []) log

pub answered : (m : Meaning) (log : Log) (text : List ℕ) → ArePlain m.targets (length m.contents) log → text ≡ print log → IsAnswered m (map (λ e. e.0) log) text
answered m log text plain is = record {
  log = log;
  each = refl;
  plain = plain;
  prints = is;
  exact = λ w. is ∙ ap print (sym (plain_exact m.targets (length m.contents) [] log plain (subst LacksWant is w)));
}

-- ---- lines that were read

-- the lines of what was read precede those of what is left
read_lines : (xs ys read : List ℕ) (ls : List (List ℕ)) → xs ≡ read ++ ys → AreRead (ys ≡ []) read ls → lines_of xs ≡ ls ++ lines_of ys
read_lines xs ys read ls took (inl (e, f)) = ap lines_of took ∙ f ys
read_lines xs ys read ls took (inr (e, f)) = ap lines_of (took ∙ ap (λ k. read ++ k) e ∙ append-nil read) ∙ f ∙ sym (append-nil ls) ∙ ap (λ k. ls ++ lines_of k) (sym e)

no_more : (ls ms : List (List ℕ)) → ls ≡ ls ++ ms → [] ≡ ms
no_more ls [] e = refl
no_more ls (m ∷ ms) e = absurd (omega (arith, ap length e, length-append ls (m ∷ ms)))

-- so do lines up to one that was read whole
first_lines : (ys left read : List ℕ) (ks : List (List ℕ)) (bad : List ℕ) → ys ≡ read ++ left → AreFirst (left ≡ []) read (ks ++ bad ∷ []) → lines_of read ≡ ks ++ bad ∷ [] → (more : List (List ℕ)) × (lines_of ys ≡ ks ++ bad ∷ more)
first_lines ys left read ks bad took (inl (rest, whole, lines)) is =
    let body = unlines ks ++ bad in
    let front : unlines (ks ++ bad ∷ []) ≡ body ++ 10 ∷ [] = unlines_push ks bad ∙ sym (append_assoc (unlines ks) bad (10 ∷ [])) in
    let cut : read ≡ body ++ 10 ∷ rest = whole ∙ ap (λ k. k ++ rest) front ∙ append_assoc body (10 ∷ []) rest in
    let none : [] ≡ lines_of rest = no_more (ks ++ bad ∷ []) (lines_of rest) (sym is ∙ lines) in
    let here : lines_of (body ++ 10 ∷ []) ≡ ks ++ bad ∷ [] = sym (append-nil (lines_of (body ++ 10 ∷ []))) ∙ ap (λ k. lines_of (body ++ 10 ∷ []) ++ k) none ∙ sym (lines-cut body rest) ∙ ap lines_of (sym cut) ∙ is in
    let all : ys ≡ body ++ 10 ∷ (rest ++ left) = took ∙ ap (λ k. k ++ left) cut ∙ append_assoc body (10 ∷ rest) left in
    (lines_of (rest ++ left), ap lines_of all ∙ lines-cut body (rest ++ left) ∙ ap (λ k. k ++ lines_of (rest ++ left)) here ∙ append_assoc ks (bad ∷ []) (lines_of (rest ++ left)))
first_lines ys left read ks bad took (inr (e, f)) is = ([], ap lines_of (took ∙ ap (λ k. read ++ k) e ∙ append-nil read) ∙ is)

unlines_end : (l : List ℕ) (ls : List (List ℕ)) → EndsLine (unlines (l ∷ ls))
unlines_end l [] = (l, append-nil (l ++ 10 ∷ []))
unlines_end l (k ∷ ls) = ends_behind (l ++ 10 ∷ []) (unlines (k ∷ ls)) (unlines_end k ls)

-- so do any first lines
some_lines : (ys left read : List ℕ) (ls : List (List ℕ)) → ys ≡ read ++ left → AreFirst (left ≡ []) read ls → (more : List (List ℕ)) × (lines_of ys ≡ ls ++ more)
some_lines ys left read [] took at = (lines_of ys, refl)
some_lines ys left read (l ∷ ls) took (inl (rest, whole, lines)) =
    let (body, e) = unlines_end l ls in
    let cut : read ≡ body ++ 10 ∷ rest = whole ∙ ap (λ k. k ++ rest) e ∙ append_assoc body (10 ∷ []) rest in
    let here : lines_of (body ++ 10 ∷ []) ≡ l ∷ ls = append_cancel_right (lines_of (body ++ 10 ∷ [])) (l ∷ ls) (lines_of rest) (sym (lines-cut body rest) ∙ ap lines_of (sym cut) ∙ lines) in
    let all : ys ≡ body ++ 10 ∷ (rest ++ left) = took ∙ ap (λ k. k ++ left) cut ∙ append_assoc body (10 ∷ rest) left in
    (lines_of (rest ++ left), ap lines_of all ∙ lines-cut body (rest ++ left) ∙ ap (λ k. k ++ lines_of (rest ++ left)) here)
some_lines ys left read (l ∷ ls) took (inr (e, f)) = ([], ap lines_of (took ∙ ap (λ k. read ++ k) e ∙ append-nil read) ∙ f ∙ sym (append-nil (l ∷ ls)))

-- lines that spell calls are their lines
spelled_calls : (ls : List (List ℕ)) (log : Log) → AreSpelled ls log → AllByRecursion CanBeSpelled (map (λ e. e.0) log) × (ls ≡ map spelling (map (λ e. e.0) log))
spelled_calls [] [] h = (tt, refl)
spelled_calls [] (e ∷ log) h = absurd h
spelled_calls (l ∷ ls) [] h = absurd h
spelled_calls (l ∷ ls) (e ∷ log) h =
    let rest = spelled_calls ls log h.1 in
    ((h.0.0, rest.0), ap (λ z. z ∷ ls) h.0.1 ∙ ap (λ zs. spelling e.0 ∷ zs) rest.1)

-- ---- a run over lines

-- the calls of first lines were made, and this much of their answers was written
answers_front : (m : Meaning) (ys left read : List ℕ) (ls : List (List ℕ)) (log : Log) (text : List ℕ) → ys ≡ read ++ left → AreFirst (left ≡ []) read ls → AreSpelled ls log
    → ArePlain m.targets (length m.contents) log → text ≡ print log → AnswersFront m (lines_of ys) text
answers_front m ys left read ls log text took at spelled plain is =
    let (after_tree, whole) = some_lines ys left read ls took at in
    let calls = spelled_calls ls log spelled in
    (map (λ e. e.0) log, after_tree, calls.0, whole ∙ ap (λ k. k ++ after_tree) calls.1, answered m log text plain is)

module _ (xs ys left held : List ℕ) (y : Option (List ℕ)) (s t : Meaning) (tree : Tree) (allowed : IsAllowed tree) (is : s ≡ meaning_of tree) (front : lines_of xs ≡ (tree_lines tree ++ tree_spelling line.End ∷ []) ++ lines_of ys) where
  abbrev input : (calls : List Call) (rest : List (List ℕ)) → BeginsWithCalls (lines_of ys) calls rest → Input (lines_of xs)
  input calls rest h = record {
    tree = tree;
    calls = calls;
    after_tree = lines_of ys;
    rest = rest;
    tree_first = (allowed, front ∙ append_assoc (tree_lines tree) (tree_spelling line.End ∷ []) (lines_of ys));
    then_calls = h;
  }

  output : (log : Log) (text : List ℕ) → AreMade s t log → text ≡ print log → IsAnswered (meaning_of tree) (map (λ e. e.0) log) text
  output log text made e = answered (meaning_of tree) log text (subst (λ (m : Meaning). ArePlain m.targets (length m.contents) log) is (made.plain (means_new s tree is))) e

  all_answered : (log : Log) (text : List ℕ) → AreSpelled (lines_of ys) log → AreMade s t log → text ≡ print log → y ≡ Some (held ++ text) → AnswersAll (lines_of xs) (λ w. y ≡ Some (held ++ w))
  all_answered log text spelled made e now =
      let lines = spelled_calls (lines_of ys) log spelled in
      (input (map (λ e. e.0) log) [] (lines.0, lines.1 ∙ sym (append-nil _), tt), text, refl, output log text made e, now)

  first_answered : (ks : List (List ℕ)) (bad : List ℕ) (more : List (List ℕ)) (log : Log) (text : List ℕ) → lines_of ys ≡ ks ++ bad ∷ more → IsBad bad → AreSpelled ks log → AreMade s t log → text ≡ print log → y ≡ Some (held ++ text)
      → AnswersFirst (lines_of xs) (λ w. y ≡ Some (held ++ w))
  first_answered ks bad more log text whole is_bad spelled made e now =
      let lines = spelled_calls ks log spelled in
      inl (input (map (λ e. e.0) log) (bad ∷ more) (lines.0, whole ∙ ap (λ k. k ++ bad ∷ more) lines.1, is_bad), text, omega arith, output log text made e, now)

  some_answered : (read : List ℕ) (ks : List (List ℕ)) (log : Log) (text more : List ℕ) → ys ≡ read ++ left → AreFirst (left ≡ []) read ks → AreSpelled ks log → AreMade s t log → print log ≡ text ++ more → y ≡ Some (held ++ text)
      → AnswersPart (lines_of xs) (λ w. y ≡ Some (held ++ w))
  some_answered read ks log text more took at spelled made e now =
      let plain = subst (λ (m : Meaning). ArePlain m.targets (length m.contents) log) is (made.plain (means_new s tree is)) in
      inr (
        tree,
        lines_of ys,
        (allowed, front ∙ append_assoc (tree_lines tree) (tree_spelling line.End ∷ []) (lines_of ys)),
        (text, more, answers_front (meaning_of tree) ys left read ks log (text ++ more) took at spelled plain (sym e), now),
      )

-- what is known of a run after a tree
pub runs_over : (a b c x y : Option (List ℕ)) (s t : Meaning) (first : ℕ) (r : Result ℕ RunError) (read : List ℕ) → Consumes a b read → BuildsTree (OnSome a (IsAtEnd b)) read s first → Finished b c x y first s t r
    → RunsKnown a x y r
runs_over None b c x y s t first r read took built h = tt
runs_over (Some xs) b c None y s t first r read took built h = tt
runs_over (Some xs) None c (Some held) y s t first r read took built h = absurd took
runs_over (Some xs) (Some ys) None (Some held) y s t first r read took built (more, text, took', w, rest) = absurd took'
runs_over (Some xs) (Some ys) (Some left) (Some held) None s t first r read took built (more, text, took', w, rest) = absurd w
runs_over (Some xs) (Some ys) (Some left) (Some held) (Some now) s t first (Ok n) read took (tree, allowed, is, are, number) (more, text, took', w, (log, e, spelled, made, text_is, count)) =
    let front = read_lines xs ys read (tree_lines tree ++ tree_spelling line.End ∷ []) took are in
    let all : ys ≡ more = took' ∙ ap (λ k. more ++ k) e ∙ append-nil more in
    all_answered xs ys left held (Some now) s t tree allowed is front log text (subst (λ k. AreSpelled (lines_of k) log) (sym all) spelled) made text_is (ap Some w)
runs_over (Some xs) (Some ys) (Some left) (Some held) (Some now) s t first (Err (BadLine k)) read took (tree, allowed, is, are, number) (more, text, took', w, (ls, bad, log, at, lines, is_bad, spelled, made, text_is, count)) =
    let front = read_lines xs ys read (tree_lines tree ++ tree_spelling line.End ∷ []) took are in
    let (after_tree, whole) = first_lines ys left more ls bad took' at lines in
    first_answered xs ys left held (Some now) s t tree allowed is front ls bad after_tree log text whole is_bad spelled made text_is (ap Some w)
runs_over (Some xs) (Some ys) (Some left) (Some held) (Some now) s t first (Err (Memory (Some k))) read took (tree, allowed, is, are, number) (more, text, took', w, (ls, log, at, spelled, made, text_is, count)) =
    let front = read_lines xs ys read (tree_lines tree ++ tree_spelling line.End ∷ []) took are in
    some_answered xs ys left held (Some now) s t tree allowed is front more ls log text [] took' at spelled made (sym text_is ∙ sym (append-nil text)) (ap Some w)
runs_over (Some xs) (Some ys) (Some left) (Some held) (Some now) s t first (Err (Memory None)) read took (tree, allowed, is, are, number) (more, text, took', w, (ls, log, rest, at, spelled, made, text_is)) =
    let front = read_lines xs ys read (tree_lines tree ++ tree_spelling line.End ∷ []) took are in
    some_answered xs ys left held (Some now) s t tree allowed is front more ls log text rest took' at spelled made text_is (ap Some w)
runs_over (Some xs) (Some ys) (Some left) (Some held) (Some now) s t first (Err Device) read took (tree, allowed, is, are, number) (more, text, took', w, (ls, log, rest, at, spelled, made, text_is)) =
    let front = read_lines xs ys read (tree_lines tree ++ tree_spelling line.End ∷ []) took are in
    some_answered xs ys left held (Some now) s t tree allowed is front more ls log text rest took' at spelled made text_is (ap Some w)

-- ---- a tree that failed

no_tree : (xs ys read : List ℕ) (k : ℕ) → xs ≡ read ++ ys → RefusesTree (ys ≡ []) read (BadLine k) → NoTree (lines_of xs)
no_tree xs ys read k took (inl (ls, bad, are, first, number)) t rest w =
    first.no_tree (lines_of ys) t rest (subst (λ (l : List (List ℕ)). BeginsWithTree l t rest) (read_lines xs ys read (ls ++ bad ∷ []) took are) w)
no_tree xs ys read k took (inr (e, trees, fails, number)) t rest w =
    fails t rest (subst (λ (l : List ℕ). BeginsWithTree (lines_of l) t rest) (took ∙ ap (λ l. read ++ l) e ∙ append-nil read) w)

refuses_over : (a b x y : Option (List ℕ)) (e : RunError) (read : List ℕ) → Consumes a b read → RefusesTree (OnSome a (IsAtEnd b)) read e → Keeps x y → RunsKnown {A = ℕ} a x y (Err e)
refuses_over None b x y e read took h k = tt
refuses_over (Some xs) b None y e read took h k = tt
refuses_over (Some xs) None (Some held) y e read took h k = absurd took
refuses_over (Some xs) (Some ys) (Some held) None e read took h k = absurd k
refuses_over (Some xs) (Some ys) (Some held) (Some now) (BadLine n) read took h k = inr (no_tree xs ys read n took h, ap Some (k ∙ sym (append-nil held)))
refuses_over (Some xs) (Some ys) (Some held) (Some now) (Memory at) read took h k = inl (ap Some (k ∙ sym (append-nil held)))
refuses_over (Some xs) (Some ys) (Some held) (Some now) Device read took h k = inl (ap Some (k ∙ sym (append-nil held)))

device_over : (a x y : Option (List ℕ)) → Keeps x y → RunsKnown {A = ℕ} a x y (Err Device)
device_over None x y k = tt
device_over (Some xs) None y k = tt
device_over (Some xs) (Some held) None k = absurd k
device_over (Some xs) (Some held) (Some now) k = inl (ap Some (k ∙ sym (append-nil held)))

-- after a flush
pub refused_over : (a b x y : Option (List ℕ)) (e : RunError) (r : Result ℕ RunError) (read : List ℕ) → Consumes a b read → RefusesTree (OnSome a (IsAtEnd b)) read e → IsFlushed (Err e) r → Keeps x y → RunsKnown a x y r
refused_over a b x y e r read took h (inl is) k = rw is (refuses_over a b x y e read took h k)
refused_over a b x y e r read took h (inr (whole, is)) k = rw is (device_over a x y k)

abbrev book : Tree
book = Node line.Book none

-- nothing was written, which is what no calls print
nothing_printed : PrintsAnswers []
nothing_printed = record {
  tree = book;
  allowed = (record { spelled = tt; number = refl; fits = tt; low = omega arith }, tt);
  old = meaning_of book;
  new = meaning_of book;
  log = [];
  means = refl;
  are_new = means_new (meaning_of book) book refl;
  are_made = are_made (meaning_of book) (meaning_of book) [] (made_none (meaning_of book));
  text_is = refl;
}

all_same : (r : Result ℕ RunError) (text : List ℕ) → OnOk r (text ≡ text)
all_same (Ok n) text = refl
all_same (Err e) text = tt

pub begins_kept : (x y : Option (List ℕ)) (r : Result ℕ RunError) → Keeps x y → Begins PrintsAnswers (Appends x y) r
begins_kept x y r k = ([], [], Appends-kept x x y [] (Appends-nil x) k, nothing_printed, all_same r [])

-- ---- calls alone

pub run_answered : (a b x y : Option (List ℕ)) (s t : Meaning) (first : ℕ) (r : Result ℕ RunError) → Finished a b x y first s t r
    → AreNew s.contents → IfSome a (λ bytes. IfSome x (λ held. AnswersCalls s (lines_of bytes) (λ text. y ≡ Some (held ++ text)) r))
run_answered None b x y s t first r h new = tt
run_answered (Some ys) b None y s t first r h new = tt
run_answered (Some ys) None (Some held) y s t first r (read, text, took, w, rest) new = absurd took
run_answered (Some ys) (Some left) (Some held) None s t first r (read, text, took, w, rest) new = absurd w
run_answered (Some ys) (Some left) (Some held) (Some now) s t first (Ok n) (read, text, took, w, (log, e, spelled, made, is, count)) new =
    let all : ys ≡ read = took ∙ ap (λ k. read ++ k) e ∙ append-nil read in
    let lines = spelled_calls (lines_of ys) log (subst (λ k. AreSpelled (lines_of k) log) (sym all) spelled) in
    (map (λ e. e.0) log, text, (lines.0, lines.1 ∙ sym (append-nil _), tt), answered s log text (made.plain new) is, ap Some w)
run_answered (Some ys) (Some left) (Some held) (Some now) s t first (Err (BadLine k)) (read, text, took, w, (ls, bad, log, at, lines, is_bad, spelled, made, is, count)) new =
    let (after_tree, whole) = first_lines ys left read ls bad took at lines in
    let calls = spelled_calls ls log spelled in
    (map (λ e. e.0) log, text, bad, after_tree, (calls.0, whole ∙ ap (λ k. k ++ bad ∷ after_tree) calls.1, is_bad), answered s log text (made.plain new) is, ap Some w)
run_answered (Some ys) (Some left) (Some held) (Some now) s t first (Err (Memory (Some k))) (read, text, took, w, (ls, log, at, spelled, made, is, count)) new =
    (text, answers_front s ys left read ls log text took at spelled (made.plain new) is, ap Some w)
run_answered (Some ys) (Some left) (Some held) (Some now) s t first (Err (Memory None)) (read, text, took, w, (ls, log, more, at, spelled, made, is)) new =
    (text, more, answers_front s ys left read ls log (text ++ more) took at spelled (made.plain new) (sym is), ap Some w)
run_answered (Some ys) (Some left) (Some held) (Some now) s t first (Err Device) (read, text, took, w, (ls, log, more, at, spelled, made, is)) new =
    (text, more, answers_front s ys left read ls log (text ++ more) took at spelled (made.plain new) (sym is), ap Some w)
