-- What a step on contents keeps of the definitions over the whole list of calls.
use Rattle.std.proofs.Common.{◌≡◌, ℕ, ◌<◌, List, [], ◌∷◌, ◌++◌, length, map, ap, sym, ◌∙◌, subst, arith, append_assoc, append-nil}
use Rattle.std.proofs.lemmas.List.Elements.{filter_map-append}
use Rattle.std.specs.List.{filter_map}
use Rattle.metrics_names.specs.declared.kind.MetricKind.{MetricKind}
use Rattle.metrics.specs.declared.calls.Call.{Call}
use Rattle.metrics.specs.declared.calls.Answer.{Answer}
use Rattle.metrics.specs.Targets.{after_targets, in_book, AllBelow}
use Rattle.metrics.specs.TargetsLaws.{length-after_targets}
use Rattle.metrics.specs.Book.{Content, content_at}
use Rattle.metrics.specs.Meaning.{Targets}
use Rattle.metrics.specs.History.{Log, registration_of, Event, reached, reached_from, reached_by, content_after, IsPlain, ArePlainFrom}
use Rattle.metrics.proofs.ContentLemmas.{step, IsSound, ReachesAll, run, content-run, sound-run}
use Rattle.metrics.proofs.StayingLemmas.{content_at-after_targets, Stays}
use Rattle.metrics.proofs.AddressLemmas.{AllLead, all_lead-after_targets, lead-append}

-- ---- one more call

reached_from-push : (targets : Targets) (before : Log) (b : ℕ) (log : Log) (e : Call × Answer) →
    reached_from targets before b (log ++ e ∷ []) ≡ reached_from targets before b log ++ reached_by targets (before ++ log) b e
reached_from-push targets before b [] e = append-nil (reached_by targets before b e) ∙ ap (λ l. reached_by targets l b e) (sym (append-nil before))
reached_from-push targets before b (x ∷ log) e =
    ap (λ es. reached_by targets before b x ++ es) (reached_from-push targets (before ++ x ∷ []) b log e
    ∙ ap (λ l. reached_from targets (before ++ x ∷ []) b log ++ reached_by targets l b e) (append_assoc before (x ∷ []) log))
    ∙ sym (append_assoc (reached_by targets before b x) (reached_from targets (before ++ x ∷ []) b log) (reached_by targets (before ++ x ∷ log) b e))

pub reached-push : (targets : Targets) (b : ℕ) (log : Log) (e : Call × Answer) → reached targets b (log ++ e ∷ []) ≡ reached targets b log ++ reached_by targets log b e
reached-push targets b log e = reached_from-push targets [] b log e

pub plain-push : (targets : Targets) (books : ℕ) (before log : Log) (e : Call × Answer) → ArePlainFrom targets books before log → IsPlain targets books (before ++ log) e.0 e.1 →
    ArePlainFrom targets books before (log ++ e ∷ [])
plain-push targets books before [] e h p = (subst (λ l. IsPlain targets books l e.0 e.1) (append-nil before) p, tt)
plain-push targets books before (x ∷ log) e h p =
    (h.0, plain-push targets books (before ++ x ∷ []) log e h.1 (subst (λ l. IsPlain targets books l e.0 e.1) (sym (append_assoc before (x ∷ []) log)) p))

-- ---- what is kept

-- if the books were new (New), the contents are those of the definitions over the calls so far; and addresses lead to their
-- series
pub record Kept (New : Type 0) (targets : Targets) (log : Log) (cs : List Content) : Type 0 where
  pub each : New → (b : ℕ) → b < length cs → content_at b cs ≡ content_after (reached targets b log)
  pub sound : New → (b : ℕ) → b < length cs → IsSound (reached targets b log)
  pub lead : AllLead targets cs (filter_map registration_of log)

module _ {X New : Type 0} (targets : Targets) (log : Log) (e : Call × Answer) (cs : List Content) (event : X → Event) (ts : List (ℕ × X))
    (below : (kind : MetricKind) (name : List ℕ) → AllBelow (length cs) (targets kind name))
    (meets : (b : ℕ) → reached_by targets log b e ≡ map event (in_book b ts))
    (reaches : New → (b : ℕ) → b < length cs → ReachesAll (reached targets b log) (map event (in_book b ts)))
    (stays : Stays (λ x. step (event x)))
    (h : Kept New targets log cs) where
  abbrev new : List Content
  new = after_targets (λ x. step (event x)) ts cs

  each_then : New → (b : ℕ) → b < length cs → content_at b new ≡ content_after (reached targets b (log ++ e ∷ []))
  each_then n b lt =
      content_at-after_targets (λ x. step (event x)) ts b cs lt
      ∙ ap (run (λ x. step (event x)) (in_book b ts)) (h.each n b lt)
      ∙ sym (content-run event (reached targets b log) (in_book b ts) (h.sound n b lt) (reaches n b lt))
      ∙ ap content_after (sym (reached-push targets b log e ∙ ap (λ es. reached targets b log ++ es) (meets b)))

  sound_then : New → (b : ℕ) → b < length cs → IsSound (reached targets b (log ++ e ∷ []))
  sound_then n b lt = subst IsSound (sym (reached-push targets b log e ∙ ap (λ es. reached targets b log ++ es) (meets b))) (sound-run event (reached targets b log) (in_book b ts) (h.sound n b lt) (reaches n b lt))

  pub kept_then : AllLead targets new (filter_map registration_of (e ∷ [])) → Kept New targets (log ++ e ∷ []) new
  kept_then own = record {
    each = λ n b lt. each_then n b (omega (arith, lt, length-after_targets (λ x. step (event x)) ts cs));
    sound = λ n b lt. sound_then n b (omega (arith, lt, length-after_targets (λ x. step (event x)) ts cs));
    lead = subst (AllLead targets new) (sym (filter_map-append registration_of log (e ∷ [])))
        (lead-append targets new (filter_map registration_of log) (filter_map registration_of (e ∷ [])) (all_lead-after_targets (λ x. step (event x)) stays ts targets cs below (filter_map registration_of log) h.lead) own);
  }

-- nothing happened
pub kept_same : {New : Type 0} (targets : Targets) (log : Log) (e : Call × Answer) (cs : List Content) → ((b : ℕ) → reached_by targets log b e ≡ []) → AllLead targets cs (filter_map registration_of (e ∷ [])) → Kept New targets log cs →
    Kept New targets (log ++ e ∷ []) cs
kept_same targets log e cs none own h =
    let same : (b : ℕ) → reached targets b log ≡ reached targets b (log ++ e ∷ []) = λ b. sym (reached-push targets b log e ∙ ap (λ es. reached targets b log ++ es) (none b) ∙ append-nil (reached targets b log)) in
    record {
      each = λ n b lt. h.each n b lt ∙ ap content_after (same b);
      sound = λ n b lt. subst IsSound (same b) (h.sound n b lt);
      lead = subst (AllLead targets cs) (sym (filter_map-append registration_of log (e ∷ [])))
          (lead-append targets cs (filter_map registration_of log) (filter_map registration_of (e ∷ [])) h.lead own);
    }
