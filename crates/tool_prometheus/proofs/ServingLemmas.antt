-- Runs over lines, and their ends.
use Rattle.std.proofs.Common.{◌≡◌, ℕ, Bool, true, false, is_err, OnOk, List, [], ◌∷◌, ◌++◌, inl, inr, refl, sym, ap, subst, ◌∙◌}
use Rattle.std.proofs.Common.{Option, Result, Ok, Err, Some, None, append-nil}
use Rattle.std.specs.List.{FoldsTo}
use Rattle.tool_grammar.specs.declared.error.RunError.{RunError}
use Rattle.tool_grammar.specs.declared.error.RunError.TheVariants.{Memory, BadLine, Device}
use Rattle.tool_stream.specs.Answering.{Dialogue, Leaves, IsRun, IsFlushed}
use Rattle.tool_prometheus.specs.declared.answering.Served.{Served}
use Rattle.tool_prometheus.specs.Asked.{Asked, nothing_asked, then_asked, Asks}
use Rattle.tool_prometheus.specs.Exposed.{IsEnd}
use Rattle.tool_prometheus.specs.Serving.{answers, answers_since, Stops, EndsLines}
use Rattle.tool_prometheus.proofs.AskedLemmas.{then-nothing, then-assoc, asks_none, asks_then}

module _ (skips : Bool) {S : Type 0} (asked_of : S → Option Asked) where
  -- Of the surroundings only what they were asked since the beginning matters, and of the notes nothing.
  forget : {N : Type 0} (p : (Served × S) × N) (es : Dialogue) (q : (Served × S) × N) (before : Asked)
      → FoldsTo (λ p e q. answers {Notes = N} asked_of skips p e.0 e.1 q) p es q
      → (asked : Asked) × FoldsTo (λ p e q. answers_since skips p e.0 e.1 q) ((p.0.0, before), tt) es ((q.0.0, then_asked before asked), tt)
      × Asks (asked_of p.0.1) (asked_of q.0.1) asked
  forget p [] q before e = (
    nothing_asked,
    (let none = sym (then-nothing before) in λ i. (((e i).0.0, none i), tt)),
    subst (λ z. Asks (asked_of p.0.1) (asked_of z.0.1) nothing_asked) e (asks_none (asked_of p.0.1)),
  )
  forget p (x ∷ es) q before (j, (asked, line, added), rest) =
      let (later, folds, asks) = forget j es q (then_asked before asked) rest in (
        then_asked asked later,
        (((j.0.0, then_asked before asked), tt), (asked, line, refl), subst (λ z. FoldsTo (λ p e q. answers_since skips p e.0 e.1 q) ((j.0.0, then_asked before asked), tt) es ((q.0.0, z), tt)) (then-assoc before asked later) folds),
        asks_then (asked_of p.0.1) (asked_of j.0.1) (asked_of q.0.1) asked later added asks,
      )

  -- What a run did, and what it asked for.
  abbrev Since : Type 0 → ℕ → Served × S → Served × S → List ℕ → List ℕ → Result ℕ RunError → Type 0
  Since at_end first old new read text r = (asked : Asked) × Asks (asked_of old.1) (asked_of new.1) asked
      × IsRun (answers_since skips) (λ on. Stops skips on.0) at_end first ((old.0, nothing_asked), tt) (new.0, asked) read text r

  abbrev Left : Served × S → Dialogue → Served × S → Type 0
  Left old es on = (asked : Asked) × Asks (asked_of old.1) (asked_of on.1) asked
      × Leaves (answers_since skips) ((old.0, nothing_asked), tt) es (on.0, asked)

  leaves : {N : Type 0} (old : Served × S) (n : N) (es : Dialogue) (on : Served × S) → Leaves (answers {Notes = N} asked_of skips) (old, n) es on
      → Left old es on
  leaves old n es on (m, h) = let (asked, folds, asks) = forget (old, n) es (on, m) nothing_asked h in (asked, asks, (tt, folds))

  pub run-of : {N : Type 0} (at_end : Type 0) (first : ℕ) (old : Served × S) (n : N) (new : Served × S) (read text : List ℕ) (r : Result ℕ RunError)
      → IsRun (answers {Notes = N} asked_of skips) (λ on. Stops skips on.0) at_end first (old, n) new read text r
      → Since at_end first old new read text r
  run-of at_end first old n new read text (Ok k) (es, ends, are, l, is, count) =
      let (asked, asks, h) = leaves old n es new l in (asked, asks, (es, ends, are, h, is, count))
  run-of at_end first old n new read text (Err (BadLine k)) (es, line, front, are, bad, l, is, count) =
      let (asked, asks, h) = leaves old n es new l in (asked, asks, (es, line, front, are, bad, h, is, count))
  run-of at_end first old n new read text (Err (Memory (Some k))) (es, front, l, is, count) =
      let (asked, asks, h) = leaves old n es new l in (asked, asks, (es, front, h, is, count))
  run-of at_end first old n new read text (Err (Memory None)) (es, more, front, l, is) =
      let (asked, asks, h) = leaves old n es new l in (asked, asks, (es, more, front, h, is))
  run-of at_end first old n new read text (Err Device) (es, more, front, l, is) =
      let (asked, asks, h) = leaves old n es new l in (asked, asks, (es, more, front, h, is))

module _ (old new : Served) (asked : Asked) (n : ℕ) where
  pub ends-shown : (whole text more : List ℕ) (r : Result ℕ RunError) → IsEnd old new asked whole → whole ≡ text ++ more → more ≡ []
      → IsFlushed (Ok n) r → EndsLines old new asked text (Ok n) r
  ends-shown whole text more r end is none (inl same) =
      let all : whole ≡ text = is ∙ ap (λ z. text ++ z) none ∙ append-nil text in
      subst (EndsLines old new asked text (Ok n)) (sym same) (subst (IsEnd old new asked) all end, refl)
  ends-shown whole text more r end is none (inr (w, same)) =
      subst (EndsLines old new asked text (Ok n)) (sym same) (whole, more, end, is)

  pub ends-broken : (whole text more : List ℕ) (r : Result ℕ RunError) → IsEnd old new asked whole → whole ≡ text ++ more
      → IsFlushed (Err Device) r → EndsLines old new asked text (Ok n) r
  ends-broken whole text more r end is (inl same) = subst (EndsLines old new asked text (Ok n)) (sym same) (whole, more, end, is)
  ends-broken whole text more r end is (inr (w, same)) = absurd w

  pub ends-memory : (whole : List ℕ) (r : Result ℕ RunError) → IsEnd old new asked whole → IsFlushed (Err (Memory None)) r → EndsLines old new asked [] (Ok n) r
  ends-memory whole r end (inl same) = subst (EndsLines old new asked [] (Ok n)) (sym same) (refl, refl, (whole, end))
  ends-memory whole r end (inr (w, same)) = absurd w

-- the text of the end, where there was memory for it
pub end-text : {E : Type 0} (r : Result (Unit {0}) E) (new old whole : List ℕ) → is_err r ≡ false → OnOk r (new ≡ old ++ whole)
    → old ≡ [] → new ≡ whole
end-text (Ok done) new old whole h is none = is ∙ ap (λ z. z ++ whole) none
end-text (Err e) new old whole h is none = absurd (let g : true ≡ false = h in cc)

-- out of memory is reported after a flush too
pub flushed-memory : (r : Result ℕ RunError) → IsFlushed (Err (Memory None)) r → r ≡ Err (Memory None)
flushed-memory r (inl is) = is
flushed-memory r (inr (whole, is)) = absurd whole
