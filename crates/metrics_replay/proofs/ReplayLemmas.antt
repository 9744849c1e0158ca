-- The loops of a replay.
use Rattle.std.proofs.Common.{◌≡◌, ℕ, zero, suc, ◌+◌, List, [], ◌∷◌, ◌++◌, length, map, Option, None, Some, refl, ap, sym, ◌∙◌, subst, arith, slice_get}
use Rattle.std.specs.Option.{option_map}
use Rattle.std.proofs.lemmas.Option.{slice_get-map}
use Rattle.metrics.specs.declared.calls.Call.{Call}
use Rattle.metrics.specs.declared.calls.Answer.{Answer}
use Rattle.metrics.specs.Meaning.{Meaning, Targets, KeepsTargets, AreNew}
use Rattle.metrics.specs.History.{Log, IsPlain, ArePlain}
use Rattle.metrics.specs.Answering.{handle, handle_named, IsHeld, Answers}
use Rattle.metrics.proofs.HistoryLemmas.{Kept, plain-push}
use Rattle.metrics.proofs.AnsweringLemmas.{call_kept, length_answers, kept_none, handle_held}
use Rattle.metrics_replay.specs.Replaying.{Place, log_of, calls_of, answers_of, with_register, registers_from, register_named, handle_at}

-- ---- the handle of a number

-- one place further on
abbrev further : Place → Place
further r = (r.0, suc r.1)

registers-further : (i : ℕ) (cs : List Call) → registers_from (suc i) cs ≡ map further (registers_from i cs)
registers-further i [] = refl
registers-further i (c ∷ cs) = ap (with_register c (suc i)) (registers-further (suc i) cs) ∙ step c (registers_from (suc i) cs)
  where
    step : (c : Call) (rs : List Place) → with_register c (suc i) (map further rs) ≡ map further (with_register c i rs)
    step (Call.Register kind key) rs = refl
    step (Call.Describe kind name unit text) rs = refl
    step (Call.Update m u) rs = refl
    step (Call.Snapshot b) rs = refl
    step (Call.SnapshotWith b reset) rs = refl

-- the register call of a number, and its answer
pub handle-registers : (log : Log) (n : ℕ) → handle n log ≡ handle_at (answers_of log) (slice_get (registers_from 0 (calls_of log)) n)
handle-registers [] n = refl
handle-registers ((c, a) ∷ log) n = by_call (handle-registers log) c n
  where
    moved : (r : Option Place) → handle_at (answers_of log) r ≡ handle_at (a ∷ answers_of log) (option_map further r)
    moved None = refl
    moved (Some r) = refl

    later : ((m : ℕ) → handle m log ≡ handle_at (answers_of log) (slice_get (registers_from 0 (calls_of log)) m))
        → (n : ℕ) → handle n log ≡ handle_at (a ∷ answers_of log) (slice_get (registers_from 1 (calls_of log)) n)
    later rest n = rest n ∙ moved (slice_get (registers_from 0 (calls_of log)) n)
        ∙ ap (handle_at (a ∷ answers_of log)) (sym (slice_get-map further (registers_from 0 (calls_of log)) n) ∙ ap (λ rs. slice_get rs n) (sym (registers-further 0 (calls_of log))))

    by_call : ((m : ℕ) → handle m log ≡ handle_at (answers_of log) (slice_get (registers_from 0 (calls_of log)) m))
        → (c : Call) (n : ℕ) → handle n ((c, a) ∷ log) ≡ handle_at (a ∷ answers_of log) (slice_get (registers_from 0 (c ∷ calls_of log)) n)
    by_call rest (Call.Register kind key) zero = refl
    by_call rest (Call.Register kind key) (suc n) = later rest n
    by_call rest (Call.Describe kind name unit text) n = later rest n
    by_call rest (Call.Update m u) n = later rest n
    by_call rest (Call.Snapshot b) n = later rest n
    by_call rest (Call.SnapshotWith b reset) n = later rest n

-- the handle that a call names
pub named-registers : (c : Call) (log : Log) (rs : List Place) → rs ≡ registers_from 0 (calls_of log) → handle_at (answers_of log) (register_named c rs) ≡ handle_named c log
named-registers (Call.Update n u) log rs e = ap (λ rs. handle_at (answers_of log) (slice_get rs n)) e ∙ sym (handle-registers log n)
named-registers (Call.Describe kind name unit text) log rs e = refl
named-registers (Call.Register kind key) log rs e = refl
named-registers (Call.Snapshot b) log rs e = refl
named-registers (Call.SnapshotWith b reset) log rs e = refl

pub registers-push : (i : ℕ) (cs : List Call) (c : Call) → registers_from i (cs ++ c ∷ []) ≡ registers_from i cs ++ with_register c (i + length cs) []
registers-push i [] c = let e : i ≡ i + 0 = omega arith in ap (λ j. with_register c j []) e
registers-push i (x ∷ cs) c =
    let e : suc i + length cs ≡ i + length (x ∷ cs) = omega arith in
    let more = with_register c (i + length (x ∷ cs)) [] in
    ap (with_register x i) (registers-push (suc i) cs c ∙ ap (λ j. registers_from (suc i) cs ++ with_register c j []) e) ∙ step x (registers_from (suc i) cs) more
  where
    step : (x : Call) (rs more : List Place) → with_register x i (rs ++ more) ≡ with_register x i rs ++ more
    step (Call.Register kind key) rs more = refl
    step (Call.Describe kind name unit text) rs more = refl
    step (Call.Update m u) rs more = refl
    step (Call.Snapshot b) rs more = refl
    step (Call.SnapshotWith b reset) rs more = refl

-- ---- the calls

calls_of-log : (cs : List Call) (as' : List Answer) → length cs ≡ length as' → calls_of (log_of cs as') ≡ cs
calls_of-log [] as' e = refl
calls_of-log (c ∷ cs) [] e = absurd (omega arith)
calls_of-log (c ∷ cs) (a ∷ as') e = ap (λ xs. c ∷ xs) (calls_of-log cs as' (omega arith))

answers_of-log : (cs : List Call) (as' : List Answer) → length cs ≡ length as' → answers_of (log_of cs as') ≡ as'
answers_of-log [] [] e = refl
answers_of-log [] (a ∷ as') e = absurd (omega arith)
answers_of-log (c ∷ cs) [] e = absurd (omega arith)
answers_of-log (c ∷ cs) (a ∷ as') e = ap (λ xs. a ∷ xs) (answers_of-log cs as' (omega arith))

pub map-same : {A : Type 0} (xs : List A) → map (λ x. x) xs ≡ xs
map-same [] = refl
map-same (x ∷ xs) = ap (λ ys. x ∷ ys) (map-same xs)

-- the handle that a call names, by calls and answers
pub named-calls : (c : Call) (cs : List Call) (as' : List Answer) (rs : List Place) → length cs ≡ length as' → rs ≡ registers_from 0 cs
    → handle_at as' (register_named c rs) ≡ handle_named c (log_of cs as')
named-calls c cs as' rs l e =
    ap (λ xs. handle_at xs (register_named c rs)) (sym (answers_of-log cs as' l))
    ∙ named-registers c (log_of cs as') rs (e ∙ ap (registers_from 0) (sym (calls_of-log cs as' l)))

pub log-push : (cs : List Call) (as' : List Answer) (c : Call) (a : Answer) → length cs ≡ length as' → log_of (cs ++ c ∷ []) (as' ++ a ∷ []) ≡ log_of cs as' ++ (c, a) ∷ []
log-push [] [] c a e = refl
log-push [] (y ∷ as') c a e = absurd (omega arith)
log-push (x ∷ cs) [] c a e = absurd (omega arith)
log-push (x ∷ cs) (y ∷ as') c a e = ap (λ l. (x, y) ∷ l) (log-push cs as' c a (omega arith))

-- what a replay keeps: if the books were new, contents and answers are what the definitions say of the calls so far
pub record Replayed (first now : Meaning) (calls : List Call) (answers : List Answer) : Type 0 where
  pub number : length calls ≡ length answers
  pub keeps : KeepsTargets first now
  pub books : length now.contents ≡ length first.contents
  pub kept : Kept (AreNew first.contents) first.targets (log_of calls answers) now.contents
  pub plain : AreNew first.contents → ArePlain first.targets (length first.contents) (log_of calls answers)

pub replayed_none : (m : Meaning) → Replayed m m [] []
replayed_none m = record { number = refl; keeps = refl; books = refl; kept = kept_none m.targets m.contents; plain = λ n. tt }

kept_now : (first old : Meaning) (calls : List Call) (answers : List Answer) → Replayed first old calls answers → Kept (AreNew first.contents) old.targets (log_of calls answers) old.contents
kept_now first old calls answers h = subst (λ (t : Targets). Kept (AreNew first.contents) t (log_of calls answers) old.contents) (sym h.keeps) h.kept

-- the handle that a call names is held
pub named_held : (first old : Meaning) (calls : List Call) (answers : List Answer) (c : Call) → Replayed first old calls answers → IsHeld (handle_named c (log_of calls answers)) old.contents
named_held first old calls answers (Call.Update n u) h = handle_held old (log_of calls answers) n (kept_now first old calls answers h)
named_held first old calls answers (Call.Describe kind name unit text) h = tt
named_held first old calls answers (Call.Register kind key) h = tt
named_held first old calls answers (Call.Snapshot b) h = tt
named_held first old calls answers (Call.SnapshotWith b reset) h = tt

pub replayed_more : (first old new : Meaning) (calls : List Call) (answers : List Answer) (c : Call) (a : Answer) → Replayed first old calls answers → KeepsTargets old new →
    Answers old new (handle_named c (log_of calls answers)) c a → Replayed first new (calls ++ c ∷ []) (answers ++ a ∷ [])
replayed_more first old new calls answers c a h k r =
    let log = log_of calls answers in
    let both = call_kept old new log c a (kept_now first old calls answers h) r in
    let push = log-push calls answers c a h.number in
    record {
      number = omega (arith, h.number, length_push calls c, length_push answers a);
      keeps = k ∙ h.keeps;
      books = length_answers old new (handle_named c log) c a r ∙ h.books;
      kept = subst (λ (t : Targets). Kept (AreNew first.contents) t (log_of (calls ++ c ∷ []) (answers ++ a ∷ [])) new.contents) h.keeps (subst (λ g. Kept (AreNew first.contents) old.targets g new.contents) (sym push) both.0);
      plain = λ n. subst (ArePlain first.targets (length first.contents)) (sym push)
          (plain-push first.targets (length first.contents) [] log (c, a) (h.plain n)
          (subst (λ m. IsPlain first.targets m log c a) h.books (subst (λ (t : Targets). IsPlain t (length old.contents) log c a) h.keeps (both.1 n))));
    }
  where
    length_push : {A : Type 0} (xs : List A) (x : A) → length (xs ++ x ∷ []) ≡ suc (length xs)
    length_push [] x = refl
    length_push (y ∷ xs) x = ap suc (length_push xs x)
