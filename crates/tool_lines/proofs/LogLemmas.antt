-- The calls of a run, their handles and their texts.
use Rattle.std.proofs.Common.{◌≡◌, ℕ, zero, suc, List, [], ◌∷◌, ◌++◌, length, map, Option, None, refl, ap, sym, ◌∙◌, subst, append_assoc, append-nil, slice_get}
use Rattle.std.proofs.lemmas.List.{length-map}
use Rattle.std.specs.Option.{option_and_then}
use Rattle.std.specs.List.{filter_map}
use Rattle.metrics_names.specs.Names.{KeyParts}
use Rattle.metrics_names.specs.declared.kind.MetricKind.{MetricKind}
use Rattle.metrics.specs.declared.handles.Address.{Address}
use Rattle.metrics.specs.declared.handles.Update.{Update}
use Rattle.metrics.specs.declared.calls.Call.{Call}
use Rattle.metrics.specs.declared.calls.Call.TheVariants as call
use Rattle.metrics.specs.declared.calls.Answer.{Answer}
use Rattle.metrics.specs.declared.calls.Answer.TheVariants.{Described, Registered, Updated, Snapshot, Refused}
use Rattle.metrics.specs.Book.{Content}
use Rattle.metrics.specs.Meaning.{Meaning, Targets, KeepsTargets, AreNew}
use Rattle.metrics.specs.History.{Log, Registration, registration_of, IsPlain, ArePlain}
use Rattle.metrics.specs.Answering.{Handle, handle_of, handle_named, Answers, IsHeld}
use Rattle.metrics.proofs.HistoryLemmas.{Kept, plain-push}
use Rattle.metrics.proofs.AnsweringLemmas.{call_kept, length_answers, kept_none, handle_held}
use Rattle.tool_grammar.specs.Grammar.{Spells}
use Rattle.tool_grammar.specs.Printing.{text_of, registers_in, print_from, print}
use Rattle.tool_lines.specs.Handles.{Entries, entry_named, entries_by}
use Rattle.tool_lines.specs.Running.{AreSpelled, AreMade, AreHeld, addresses_in}

-- ---- handles

abbrev pub handles_of : Log → Entries
handles_of log = map handle_of (filter_map registration_of log)

handle_at-map : (rs : List Registration) (n : ℕ) → option_and_then (λ (h : Option Handle). h) (slice_get (map handle_of rs) n) ≡ option_and_then handle_of (slice_get rs n)
handle_at-map [] n = refl
handle_at-map (r ∷ rs) zero = refl
handle_at-map (r ∷ rs) (suc n) = handle_at-map rs n

pub entry_named-log : (c : Call) (log : Log) → entry_named c (handles_of log) ≡ handle_named c log
entry_named-log (call.Update n u) log = handle_at-map (filter_map registration_of log) n
entry_named-log (call.Describe kind name unit text) log = refl
entry_named-log (call.Register kind key) log = refl
entry_named-log (call.Snapshot b) log = refl
entry_named-log (call.SnapshotWith b reset) log = refl

-- the handle that a call names leads to series that are there
pub named_held : (c : Call) (handles : Entries) (cs : List Content) → AreHeld handles cs → IsHeld (entry_named c handles) cs
named_held (call.Update n u) handles cs h = h n
named_held (call.Describe kind name unit text) handles cs h = tt
named_held (call.Register kind key) handles cs h = tt
named_held (call.Snapshot b) handles cs h = tt
named_held (call.SnapshotWith b reset) handles cs h = tt

pub entries_by-one : (c : Call) (a : Answer) → handles_of ((c, a) ∷ []) ≡ entries_by c (addresses_in a)
entries_by-one (call.Update n u) a = refl
entries_by-one (call.Describe kind name unit text) a = refl
entries_by-one (call.Register kind key) (Registered found) = refl
entries_by-one (call.Register kind key) (Described n) = refl
entries_by-one (call.Register kind key) (Updated n) = refl
entries_by-one (call.Register kind key) (Snapshot rows) = refl
entries_by-one (call.Register kind key) (Refused e) = refl
entries_by-one (call.Snapshot b) a = refl
entries_by-one (call.SnapshotWith b reset) a = refl

-- a call that is neither a register call nor an update names no handle and adds none
pub neither : (c : Call) → ((kind : MetricKind) (key : KeyParts) → c ≡ call.Register kind key → ⊥) → ((n : ℕ) (u : Update) → c ≡ call.Update n u → ⊥) → (handles : Entries) (given : Option (List Address)) →
    (entry_named c handles ≡ None) × (entries_by c given ≡ [])
neither (call.Update n u) r s handles given = absurd (s n u refl)
neither (call.Describe kind name unit text) r s handles given = (refl, refl)
neither (call.Register kind key) r s handles given = absurd (r kind key refl)
neither (call.Snapshot b) r s handles given = (refl, refl)
neither (call.SnapshotWith b reset) r s handles given = (refl, refl)

pub handles-push : (log : Log) (c : Call) (a : Answer) → handles_of (log ++ (c, a) ∷ []) ≡ handles_of log ++ entries_by c (addresses_in a)
handles-push [] c a = entries_by-one c a
handles-push ((call.Update n u, b) ∷ log) c a = handles-push log c a
handles-push ((call.Describe kind name unit text, b) ∷ log) c a = handles-push log c a
handles-push ((call.Register kind key, b) ∷ log) c a = ap (λ hs. handle_of (record { kind = kind; key = key; answer = b }) ∷ hs) (handles-push log c a)
handles-push ((call.Snapshot n, b) ∷ log) c a = handles-push log c a
handles-push ((call.SnapshotWith n reset, b) ∷ log) c a = handles-push log c a

pub length-handles : (log : Log) → length (handles_of log) ≡ registers_in log
length-handles log = length-map (filter_map registration_of log) handle_of

-- ---- texts

print_from-push : (before log : Log) (e : Call × Answer) → print_from before (log ++ e ∷ []) ≡ print_from before log ++ text_of (registers_in (before ++ log)) e.0 e.1
print_from-push before [] e = append-nil _ ∙ ap (λ l. text_of (registers_in l) e.0 e.1) (sym (append-nil before))
print_from-push before (x ∷ log) e =
    let here = text_of (registers_in before) x.0 x.1 in
    ap (λ t. here ++ t) (print_from-push (before ++ x ∷ []) log e ∙ ap (λ l. print_from (before ++ x ∷ []) log ++ text_of (registers_in l) e.0 e.1) (append_assoc before (x ∷ []) log))
    ∙ sym (append_assoc here (print_from (before ++ x ∷ []) log) (text_of (registers_in (before ++ x ∷ log)) e.0 e.1))

pub print-push : (log : Log) (c : Call) (a : Answer) → print (log ++ (c, a) ∷ []) ≡ print log ++ text_of (length (handles_of log)) c a
print-push log c a = print_from-push [] log (c, a) ∙ ap (λ n. print log ++ text_of n c a) (sym (length-handles log))

-- ---- lines

pub spelled_push : (ls : List (List ℕ)) (log : Log) (l : List ℕ) (c : Call) (a : Answer) → AreSpelled ls log → Spells l c → AreSpelled (ls ++ l ∷ []) (log ++ (c, a) ∷ [])
spelled_push [] [] l c a h s = (s, tt)
spelled_push [] (e ∷ log) l c a h s = absurd h
spelled_push (k ∷ ls) [] l c a h s = absurd h
spelled_push (k ∷ ls) (e ∷ log) l c a h s = (h.0, spelled_push ls log l c a h.1 s)

pub spelled_length : (ls : List (List ℕ)) (log : Log) → AreSpelled ls log → length ls ≡ length log
spelled_length [] [] h = refl
spelled_length [] (e ∷ log) h = absurd h
spelled_length (k ∷ ls) [] h = absurd h
spelled_length (k ∷ ls) (e ∷ log) h = ap suc (spelled_length ls log h.1)

-- ---- calls

-- what a run keeps: where the books were new, contents and answers are what the definitions say of the calls so far
pub record Made (first now : Meaning) (log : Log) : Type 0 where
  pub keeps : KeepsTargets first now
  pub books : length now.contents ≡ length first.contents
  pub kept : Kept (AreNew first.contents) first.targets log now.contents
  pub plain : AreNew first.contents → ArePlain first.targets (length first.contents) log

pub made_none : (m : Meaning) → Made m m []
made_none m = record { keeps = refl; books = refl; kept = kept_none m.targets m.contents; plain = λ n. tt }

pub are_made : (first now : Meaning) (log : Log) → Made first now log → AreMade first now log
are_made first now log h = record { keeps = h.keeps; books = h.books; plain = h.plain; contents = λ n b lt. h.kept.each n b lt }

kept_now : (first old : Meaning) (log : Log) → Made first old log → Kept (AreNew first.contents) old.targets log old.contents
kept_now first old log h = subst (λ (t : Targets). Kept (AreNew first.contents) t log old.contents) (sym h.keeps) h.kept

-- the handles so far lead to series that are there
pub handles_held : (first old : Meaning) (log : Log) → Made first old log → AreHeld (handles_of log) old.contents
handles_held first old log h = λ n. subst (λ o. IsHeld o old.contents) (sym (handle_at-map (filter_map registration_of log) n)) (handle_held old log n (kept_now first old log h))

pub made_more : (first old new : Meaning) (log : Log) (c : Call) (a : Answer) → Made first old log → KeepsTargets old new → Answers old new (entry_named c (handles_of log)) c a →
    Made first new (log ++ (c, a) ∷ [])
made_more first old new log c a h k r =
    let answered : Answers old new (handle_named c log) c a = subst (λ o. Answers old new o c a) (entry_named-log c log) r in
    let both = call_kept old new log c a (kept_now first old log h) answered in
    record {
      keeps = k ∙ h.keeps;
      books = length_answers old new (handle_named c log) c a answered ∙ h.books;
      kept = subst (λ (t : Targets). Kept (AreNew first.contents) t (log ++ (c, a) ∷ []) new.contents) h.keeps both.0;
      plain = λ n. plain-push first.targets (length first.contents) [] log (c, a) (h.plain n)
          (subst (λ m. IsPlain first.targets m log c a) h.books (subst (λ (t : Targets). IsPlain t (length old.contents) log c a) h.keeps (both.1 n)));
    }
